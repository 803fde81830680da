-- A column's name is none before it.
use Rattle.std.proofs.Common.{ap, arith}
use Rattle.milp.specs.Problem.{Column, Problem}
use Rattle.model_text.proofs.Laws.{new-at}
use Rattle.model_text.proofs.build.add_columns.Goals as goal

pub add_column-requires-clause-new : goal.add_column-requires-clause-new
add_column-requires-clause-new c = rw (ap (λ (b : Problem). b.columns) c.loop-column.invariant) (new-at (λ (x : Column). x.name) c.args.columns.now c.loop-column.column-index c.column-item.result c.requires.new (omega arith) c.column-item.is)
