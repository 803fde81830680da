use Rattle.std.proofs.Common.{false}
use Rattle.search_node.specs.Sides.{sides_of}
use Rattle.branch_search.proofs.Treating.{passed_at}
use Rattle.branch_search.proofs.work.proposed_point.Goals as goal

pub returns-in-Passed : goal.returns-in-Passed
returns-in-Passed c =
    let f = c.args.found in
    passed_at c.args.problem.now c.args.cuts.now c.args.path.now (sides_of c.args.splits.now) c.args.best.now f.point f.weights false c.in_ok-treatment.field-0 c.in-Passed.treatment c.requires.path c.in-Passed.is c.in_ok-treatment.ensures
