-- Tests on rational numbers.
use Rattle.std.specs.Prelude.{pos, ◌*ℤ◌, Bool, ◌&&◌, ◌==◌, int_lt, int_le, unsigned_abs}
use Rattle.std.specs.Ordering.{int_eq}
use Rattle.rational.specs.Rational.{Rational, zero_ℚ}

abbrev pub is_less : Rational → Rational → Bool
is_less a b = int_lt (a.numerator *ℤ pos b.denominator) (b.numerator *ℤ pos a.denominator)

abbrev pub is_at_most : Rational → Rational → Bool
is_at_most a b = int_le (a.numerator *ℤ pos b.denominator) (b.numerator *ℤ pos a.denominator)

abbrev pub is_same : Rational → Rational → Bool
is_same a b = int_eq a.numerator b.numerator && (a.denominator == b.denominator)

abbrev pub is_whole : Rational → Bool
is_whole a = a.denominator == 1

abbrev pub is_zero : Rational → Bool
is_zero a = unsigned_abs a.numerator == 0

abbrev pub is_positive : Rational → Bool
is_positive a = is_less zero_ℚ a

abbrev pub is_negative : Rational → Bool
is_negative a = is_less a zero_ℚ
