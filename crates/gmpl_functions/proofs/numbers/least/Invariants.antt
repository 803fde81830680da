use Rattle.std.proofs.Common.{◌≡◌, drop, Ok}
use Rattle.std.specs.Prelude.{fold}
use Rattle.gmpl_functions.specs.Numbers.{lesser_of, least_of}
use Rattle.gmpl_functions.proofs.numbers.least.Given as goal

abbrev pub invariant-loop-number : goal.invariant-loop-number
invariant-loop-number l = Ok (fold lesser_of l.found (drop l.number-index l.rest)) ≡ least_of l.numbers
