-- What is left of the columns.
use Rattle.std.proofs.Common.{◌≡◌, drop}
use Rattle.dual_values.specs.Duals.{has_integer}
use Rattle.dual_values.proofs.by_certificate.has_integer.Given as goal

abbrev pub invariant-loop-column : goal.invariant-loop-column
invariant-loop-column l = has_integer l.columns ≡ has_integer (drop l.column-index l.columns)
