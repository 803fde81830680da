-- Quotients of wide numbers as rational numbers.
use Rattle.std.specs.Prelude.{◌^◌, ◌<◌}
use Rattle.integer.specs.Lowest.{IsLowest}
use Rattle.rational.specs.Rational.{Rational, over}
use Rattle.fraction.specs.Canonical.{signed}
use Rattle.fraction.specs.declared.wide_quotient.WideQuotient.{WideQuotient}

abbrev pub value_of : WideQuotient → Rational
value_of q = over (signed q.negative q.numerator) q.denominator

-- in lowest terms, with parts no larger than a product of two fractions has
pub record IsProduct (q : WideQuotient) : Type 0 where
  pub lowest : IsLowest (signed q.negative q.numerator) q.denominator
  pub num_small : q.numerator < 2 ^ 254
  pub den_small : q.denominator < 2 ^ 254
