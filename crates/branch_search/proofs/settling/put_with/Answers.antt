use Rattle.branch_search.proofs.Standing.{point_at, open_then, stands_then, outcome_at}
use Rattle.branch_search.proofs.settling.put_with.Goals as goal

pub offer-requires-clause-feasible : goal.offer-requires-clause-feasible
offer-requires-clause-feasible c = (point_at c.args.board.now c.args.lease c.args.point c.args.tree c.requires.open c.requires.fragment).feasible

pub offer-requires-clause-sums : goal.offer-requires-clause-sums
offer-requires-clause-sums c = (point_at c.args.board.now c.args.lease c.args.point c.args.tree c.requires.open c.requires.fragment).sums

pub graft-requires-clause-open : goal.graft-requires-clause-open
graft-requires-clause-open c =
    let offer = c.in_ok-offer.ensures.offer in
    open_then c.args.board.now c.args.lease c.args.point offer.0 c.offer.new.board c.requires.open offer.1

pub graft-requires-clause-may : goal.graft-requires-clause-may
graft-requires-clause-may c =
    let offer = c.in_ok-offer.ensures.offer in
    stands_then c.args.board.now c.args.lease c.args.point c.args.tree offer.0 c.offer.new.board c.requires.open c.requires.best c.requires.fragment offer.1

pub graft-requires-clause-outcome : goal.graft-requires-clause-outcome
graft-requires-clause-outcome c = outcome_at c.args.board.now c.args.lease _ c.requires.open c.requires.fragment
