use Rattle.branch_search.proofs.SameSearch.{same_offer}
use Rattle.branch_search.proofs.settling.offer.Goals as goal

pub returns-in-Some-clause-same : goal.returns-in-Some-clause-same
returns-in-Some-clause-same c = same_offer c.args.board.now c.args.point c.offer.result c.offer.new.self c.offer.ensures.ok c.offer.ensures.kept

pub returns-in-None-clause-same : goal.returns-in-None-clause-same
returns-in-None-clause-same c = same_offer c.args.board.now c.args.point c.offer.result c.offer.new.self c.offer.ensures.ok c.offer.ensures.kept
