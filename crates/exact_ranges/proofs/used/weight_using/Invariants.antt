use Rattle.std.proofs.Common.{◌≡◌, drop}
use Rattle.rational.specs.Rational.{zero_ℚ}
use Rattle.exact_ranges.specs.Sought.{side_of}
use Rattle.exact_ranges.specs.Faults.{using_answer}
use Rattle.exact_ranges.proofs.used.weight_using.Given as goal

abbrev pub invariant-loop-item : goal.invariant-loop-item
invariant-loop-item l = using_answer l.row (side_of l.side) zero_ℚ l.items ≡ using_answer l.row (side_of l.side) l.total (drop l.item-index l.items)
