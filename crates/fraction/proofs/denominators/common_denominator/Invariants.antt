use Rattle.std.proofs.Common.{◌≡◌, ◌<◌, ◌≤◌}
use Rattle.fraction.specs.Fits.{part_max}
use Rattle.rational.specs.Denominators.{prefix_denominator}
use Rattle.fraction.proofs.denominators.common_denominator.Given as goal

abbrev pub invariant-loop-number : goal.invariant-loop-number
invariant-loop-number l = record {
  done : l.common ≡ prefix_denominator l.numbers l.number-index;
  some : 0 < l.common;
  fits : l.common ≤ part_max;
}
