-- Common denominators that do not fit.
use Rattle.std.specs.Prelude.{ℕ, pos, ◌≡◌, List, slice_get, Some}
use Rattle.rational.specs.Rational.{Rational, over}
use Rattle.rational.specs.Denominators.{prefix_denominator}
use Rattle.fraction.specs.Answers.{DoesNotFit}
use Rattle.fraction.specs.declared.frac.NoFit.{NoFit}

-- f is the sum of 1 / m and 1 / d, and does not fit
pub record IsShareFault (m d : ℕ) (f : NoFit) : Type 0 where
  pub left : f.a ≡ over (pos 1) m
  pub right : f.b ≡ over (pos 1) d
  pub not_fit : DoesNotFit f

-- f is the sum of 1 over the common denominator of the first numbers and 1 over the next number's, and does not fit
pub record IsDenominatorFault (numbers : List Rational) (f : NoFit) : Type 0 where
  pub index : ℕ
  pub number : Rational
  pub is_number : slice_get numbers index ≡ Some number
  pub fault : IsShareFault (prefix_denominator numbers index) number.denominator f
