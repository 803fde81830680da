-- Rational numbers of any size: a whole number over a positive one, in lowest terms, so that equal numbers are one value.
use Rattle.std.specs.Prelude.{ℕ, ℤ, pos, ◌+ℤ◌, ◌*ℤ◌, neg_ℤ, ◌≤ℤ◌, ◌<ℤ◌, ◌*◌, ◌/◌, unsigned_abs, int_div, max, cond, int_lt}
use Rattle.std.proofs.Math.Nat.{le-max_left}
use Rattle.std.specs.Ordering.{int_cmp}
use Rattle.std.specs.declared.cmp.Ordering.{Ordering}
use Rattle.std.specs.Int.{int_signum, int_div_euclid}
use Rattle.integer.specs.Gcd.{gcd}
use Rattle.integer.specs.Lowest.{IsLowest}
use Rattle.integer.proofs.Laws.{lowest_over, lowest_whole, lowest_neg}

pub record Rational : Type 0 where
  pub numerator : ℤ
  pub denominator : ℕ
  pub lowest : IsLowest numerator denominator

-- n / d in lowest terms, where a d of 0 counts as 1
unfoldable pub over : ℤ → ℕ → Rational
over n d = record {
  numerator = int_div n (pos (gcd (unsigned_abs n) (max 1 d)));
  denominator = max 1 d / gcd (unsigned_abs n) (max 1 d);
  lowest = lowest_over n (max 1 d) (le-max_left 1 d);
}

-- the order, by cross products
infix 4 ◌≤ℚ◌
pub record ◌≤ℚ◌ (a b : Rational) : Type 0 where
  pub cross : (a.numerator *ℤ pos b.denominator) ≤ℤ (b.numerator *ℤ pos a.denominator)

infixl 6 ◌+ℚ◌
unfoldable pub ◌+ℚ◌ : Rational → Rational → Rational
a +ℚ b = over (a.numerator *ℤ pos b.denominator +ℤ b.numerator *ℤ pos a.denominator) (a.denominator * b.denominator)

infixl 7 ◌*ℚ◌
unfoldable pub ◌*ℚ◌ : Rational → Rational → Rational
a *ℚ b = over (a.numerator *ℤ b.numerator) (a.denominator * b.denominator)

abbrev pub whole : ℤ → Rational
whole n = record { numerator = n; denominator = 1; lowest = lowest_whole n }

abbrev pub zero_ℚ : Rational
zero_ℚ = whole (pos 0)

abbrev pub one_ℚ : Rational
one_ℚ = whole (pos 1)

unfoldable pub neg_ℚ : Rational → Rational
neg_ℚ a = record { numerator = neg_ℤ a.numerator; denominator = a.denominator; lowest = lowest_neg a.numerator a.denominator a.lowest }

infixl 6 ◌-ℚ◌
abbrev pub ◌-ℚ◌ : Rational → Rational → Rational
a -ℚ b = a +ℚ neg_ℚ b

-- 1 / a, and 0 for 0
unfoldable pub inv_ℚ : Rational → Rational
inv_ℚ a = over (int_signum a.numerator *ℤ pos a.denominator) (unsigned_abs a.numerator)

infixl 7 ◌/ℚ◌
abbrev pub ◌/ℚ◌ : Rational → Rational → Rational
a /ℚ b = a *ℚ inv_ℚ b

infix 4 ◌<ℚ◌
pub record ◌<ℚ◌ (a b : Rational) : Type 0 where
  pub cross : (a.numerator *ℤ pos b.denominator) <ℤ (b.numerator *ℤ pos a.denominator)

-- the greatest whole number that is at most a
abbrev pub floor_ℚ : Rational → ℤ
floor_ℚ a = int_div_euclid a.numerator (pos a.denominator)

abbrev pub abs_ℚ : Rational → Rational
abs_ℚ a = cond (int_lt a.numerator (pos 0)) (neg_ℚ a) a

-- the order of two numbers
abbrev pub compare_ℚ : Rational → Rational → Ordering
compare_ℚ a b = int_cmp (a.numerator *ℤ pos b.denominator) (b.numerator *ℤ pos a.denominator)
