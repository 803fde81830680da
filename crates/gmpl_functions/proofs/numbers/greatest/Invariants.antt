use Rattle.std.proofs.Common.{◌≡◌, drop, Ok}
use Rattle.std.specs.Prelude.{fold}
use Rattle.gmpl_functions.specs.Numbers.{greater_of, greatest_of}
use Rattle.gmpl_functions.proofs.numbers.greatest.Given as goal

abbrev pub invariant-loop-number : goal.invariant-loop-number
invariant-loop-number l = Ok (fold greater_of l.found (drop l.number-index l.rest)) ≡ greatest_of l.numbers
