use Rattle.std.proofs.Common.{◌≡◌, ◌≤◌, drop}
use Rattle.fraction.specs.Fits.{part_max}
use Rattle.row_columns.specs.RowForms.{common_numerator}
use Rattle.row_columns.proofs.scaling.common_numerator.Given as goal

abbrev pub invariant-loop-number : goal.invariant-loop-number
invariant-loop-number l = record {
  done : common_numerator l.common (drop l.number-index l.numbers) ≡ common_numerator 0 l.numbers;
  fits : l.common ≤ part_max;
}
