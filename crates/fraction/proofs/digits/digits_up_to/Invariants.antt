use Rattle.std.proofs.Common.{◌≡◌, ◌≤◌, drop}
use Rattle.std.specs.Option.{option_map}
use Rattle.fraction.specs.Literal.{digits_on}
use Rattle.fraction.specs.Reading.{clipped}
use Rattle.fraction.proofs.digits.digits_up_to.Given as goal

abbrev pub invariant-loop-c : goal.invariant-loop-c
invariant-loop-c l = (option_map (clipped l.limit) (digits_on l.number (drop l.c-index l.text)) ≡ option_map (clipped l.limit) (digits_on 0 l.text)) × (l.number ≤ l.limit)
