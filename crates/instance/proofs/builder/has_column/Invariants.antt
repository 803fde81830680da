use Rattle.std.proofs.Common.{◌≡◌, drop}
use Rattle.instance.specs.WellFormed.{has_column}
use Rattle.instance.proofs.builder.has_column.Given as goal

abbrev pub invariant-loop-column : goal.invariant-loop-column
invariant-loop-column l = has_column l.name l.columns ≡ has_column l.name (drop l.column-index l.columns)
