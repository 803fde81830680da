use Rattle.std.proofs.Common.{true, false}
use Rattle.row_splits.proofs.Left.{left_asked, left_continuous}
use Rattle.row_splits.proofs.verdict.solve.Goals as goal

pub returns-then-not-row_splits-clause-fault : goal.returns-then-not-row_splits-clause-fault
returns-then-not-row_splits-clause-fault g c =
    left_asked c.args.row_splits false c.args.problem.now c.args.split_limit c.args.pivot_limit c.solved_itself.result c.if-not-row_splits.true c.solved_itself.ensures.fault

pub returns-then-has_no_integer_column-clause-fault : goal.returns-then-has_no_integer_column-clause-fault
returns-then-has_no_integer_column-clause-fault g c =
    let p = c.args.problem.now in
    left_asked c.args.row_splits true p c.args.split_limit c.args.pivot_limit c.solved_alone.result c.if-not-row_splits.false
    (left_continuous p (c.has_no_integer_column.ensures.yes c.if-has_no_integer_column.true) c.args.split_limit c.args.pivot_limit c.solved_alone.result c.solved_alone.ensures.fault)
