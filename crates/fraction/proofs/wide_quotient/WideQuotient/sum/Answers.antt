use Rattle.std.proofs.Common.{◌≡◌, ◌*◌, ◌/◌, subst}
use Rattle.std.specs.Prelude.{IsTrue, SomeIff, ◌+ℤ◌}
use Rattle.rational.specs.Rational.{Rational}
use Rattle.fraction.specs.Canonical.{signed}
use Rattle.fraction.specs.Fits.{fits}
use Rattle.fraction.proofs.WideLemmas.{sum_lowest, sum_value}
use Rattle.fraction.proofs.wide_quotient.WideQuotient.sum.Goals as goal

record IsScaled (c : goal.After-scaled) : Type 0 where
  total : signed c.signed_sum-total_negative.result.0 c.signed_sum-total_negative.result.1 ≡ signed c.args.self.negative (c.args.self.numerator * (c.sizes-negative.result.2 / c.common_divisor-common.result)) +ℤ signed c.sizes-negative.result.0 (c.args.self.denominator / c.common_divisor-common.result * c.sizes-negative.result.1)
  below : c.scaled.result ≡ c.args.self.denominator * (c.sizes-negative.result.2 / c.common_divisor-common.result)

scaled_is : (c : goal.After-scaled) → IsScaled c
scaled_is c = record { total = cc; below = cc }

pub reduced-requires-clause-lowest : goal.reduced-requires-clause-lowest
reduced-requires-clause-lowest c =
    let is = scaled_is c in
    let q = c.sizes-negative in
    sum_lowest c.args.self.negative q.result.0 c.signed_sum-total_negative.result.0 c.args.self.numerator c.args.self.denominator q.result.1 q.result.2 c.common_divisor-common.result c.signed_sum-total_negative.result.1 c.scaled.result c.args.other
    c.requires.lowest q.ensures.numerator q.ensures.denominator c.common_divisor-common.ensures.value is.total is.below

pub returns : goal.returns
returns c =
    let is = scaled_is c.before in
    let q = c.sizes-negative in
    subst (λ (r : Rational). SomeIff c.reduced.result (IsTrue (fits r)) r)
    (sum_value c.args.self.negative q.result.0 c.signed_sum-total_negative.result.0 c.args.self.numerator c.args.self.denominator q.result.1 q.result.2 c.common_divisor-common.result c.signed_sum-total_negative.result.1 c.scaled.result c.args.other
    c.requires.lowest q.ensures.numerator q.ensures.denominator c.common_divisor-common.ensures.value is.total is.below)
    c.reduced.ensures
