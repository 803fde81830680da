use Rattle.std.proofs.Common.{take, IsTrue}
use Rattle.std.specs.List.{AllByRecursion}
use Rattle.fraction.specs.Fits.{fits}
use Rattle.partial_certificate.proofs.best.numbers_fit.Given as goal

abbrev pub invariant-loop-number : goal.invariant-loop-number
invariant-loop-number l = AllByRecursion (λ v. IsTrue (fits v)) (take l.number-index l.numbers)
