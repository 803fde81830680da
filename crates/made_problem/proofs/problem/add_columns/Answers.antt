use Rattle.std.proofs.Common.{◌∙◌, ◌+◌, length, ap, arith}
use Rattle.milp.specs.Problem.{Problem}
use Rattle.instance.specs.WellFormed.{has_column}
use Rattle.made_problem.specs.Made.{made_column}
use Rattle.made_problem.proofs.Names.{later_is_new, so_many_columns, column_more}
use Rattle.made_problem.proofs.problem.add_columns.Goals as goal

pub add_column-requires-clause-new : goal.add_column-requires-clause-new
add_column-requires-clause-new c =
    ap (λ (p : Problem). has_column (made_column (c.loop-place.place + 1)).name p.columns) c.loop-place.invariant
    ∙ later_is_new 1 c.loop-place.place (c.loop-place.place + 1) (omega arith) (omega (arith, c.loop-place-test.true, c.requires.few))

pub add_column-requires-clause-room : goal.add_column-requires-clause-room
add_column-requires-clause-room c =
    let so_many = ap (λ (p : Problem). length p.columns) c.loop-place.invariant ∙ so_many_columns c.loop-place.place in
    omega (arith, so_many, c.loop-place-test.true, c.requires.few)

pub loop-place-preserved : goal.loop-place-preserved
loop-place-preserved c = column_more c.args.builder.now c.loop-place.builder c.add_column.new.builder c.loop-place.place c.loop-place.invariant c.in_ok-add_column.ensures
