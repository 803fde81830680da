use Rattle.std.proofs.Common.{◌≡◌, ◌∙◌, ap, false}
use Rattle.rational.specs.Rational.{◌+ℚ◌}
use Rattle.fraction.specs.Fits.{fits}
use Rattle.fraction.proofs.FusedLemmas.{sum_false}
use Rattle.fraction.proofs.frac.Frac.fused_fault.Goals as goal

pub returns-in-Some-clause-fault : goal.returns-in-Some-clause-fault
returns-in-Some-clause-fault c =
    let e : fits (c.in-Some.product +ℚ c.args.b) ≡ false = ap (λ p. fits (p +ℚ c.args.b)) c.in-Some.ensures.1 ∙ c.requires in
    sum_false c.in-Some.product c.args.b e
