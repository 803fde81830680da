use Rattle.std.proofs.Common.{◌≡◌, drop, map}
use Rattle.gmpl_value.specs.Range.{number_tuple}
use Rattle.gmpl_value.specs.Sets.{with_all, set_of}
use Rattle.gmpl_value.proofs.progression.set_of_numbers.Given as goal

abbrev pub invariant-loop-number : goal.invariant-loop-number
invariant-loop-number l = with_all l.found (map number_tuple (drop l.number-index l.numbers)) ≡ set_of (map number_tuple l.numbers)
