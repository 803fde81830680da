-- The columns so far.
use Rattle.std.proofs.Common.{◌≡◌, take}
use Rattle.model_text.proofs.build.add_columns.Given as goal

abbrev pub invariant-loop-column : goal.invariant-loop-column
invariant-loop-column l = l.builder ≡ record l.initial.builder { columns = take l.column-index l.columns }
