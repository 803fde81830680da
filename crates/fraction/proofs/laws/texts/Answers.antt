use Rattle.std.proofs.Common.{ap, ◌∙◌}
use Rattle.fraction.specs.Canonical.{plain_digits_of}
use Rattle.fraction.proofs.CanonicalLaw.{exact_of, plain_decimal, decimal_plain}
use Rattle.fraction.proofs.laws.texts.Goals as goal

pub returns-clause-fractions : goal.returns-clause-fractions
returns-clause-fractions c = exact_of

pub returns-clause-digits : goal.returns-clause-digits
returns-clause-digits c = λ text n small. (λ h. plain_decimal text n h small, λ h. ap plain_digits_of h ∙ decimal_plain n small)
