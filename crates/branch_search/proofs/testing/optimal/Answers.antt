use Rattle.std.proofs.Common.{Some}
use Rattle.milp.specs.Points.{objective_value}
use Rattle.branch_search.proofs.Treating.{is_no_better}
use Rattle.branch_search.proofs.testing.optimal.Goals as goal

pub returns-then-not-is_better : goal.returns-then-not-is_better
returns-then-not-is_better c = λ limit.
    let p = c.args.problem.now in
    let x = c.args.found.point in
    c.bounded_leaves.ensures p c.args.cuts.now c.args.path.now c.args.weights (Some (objective_value p x)) c.args.best.now
    (is_no_better p c.args.best.now x c.args.objective c.direction.result c.is_better.result c.requires.value c.direction.ensures c.is_better.ensures c.if-not-is_better.true) c.requires.passes
