use Rattle.branch_search.proofs.Standing.{outcome_at, stands_at_once, with_point}
use Rattle.branch_search.proofs.settling.put.Goals as goal

pub graft-requires-clause-may : goal.graft-requires-clause-may
graft-requires-clause-may c = stands_at_once c.args.board.now c.args.lease c.args.fragment c.requires.best c.requires.fragment c.in-None.is

pub graft-requires-clause-outcome : goal.graft-requires-clause-outcome
graft-requires-clause-outcome c = outcome_at c.args.board.now c.args.lease c.args.fragment c.requires.open c.requires.fragment

pub put_with-requires-clause-fragment : goal.put_with-requires-clause-fragment
put_with-requires-clause-fragment c = with_point c.args.board.now c.args.lease c.args.fragment c.in-Some.point c.requires.fragment c.in-Some.is
