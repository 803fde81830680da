use Rattle.std.proofs.Common.{◌≡◌, drop}
use Rattle.instance.specs.WellFormed.{has_row}
use Rattle.instance.proofs.builder.has_row.Given as goal

abbrev pub invariant-loop-row : goal.invariant-loop-row
invariant-loop-row l = has_row l.name l.rows ≡ has_row l.name (drop l.row-index l.rows)
