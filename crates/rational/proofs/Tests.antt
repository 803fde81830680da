-- What the tests on numbers tell.
use Rattle.std.proofs.Common.{◌≡◌, ◌==◌, true, false, subst, arith}
use Rattle.std.specs.Prelude.{ℕ, ℤ, pos, ◌*ℤ◌, ◌≤ℤ◌, ◌<ℤ◌, int_lt, int_le, unsigned_abs}
use Rattle.std.proofs.lemmas.Int.{ints}
use Rattle.std.proofs.lemmas.Bool.Decides.{nat_tests}
use Rattle.rational.specs.Rational.{Rational, zero_ℚ, ◌≤ℚ◌, ◌<ℚ◌}
use Rattle.rational.proofs.Value.{same_parts, value_same, value_self}
use Rattle.rational.specs.Compare.{is_less, is_at_most, is_same, is_whole, is_zero, is_positive, is_negative}

lt_true : (a b : ℤ) → int_lt a b ≡ true → a <ℤ b
lt_true a b h = grind (arith, ints)

lt_false : (a b : ℤ) → int_lt a b ≡ false → b ≤ℤ a
lt_false a b h = grind (arith, ints)

le_true : (a b : ℤ) → int_le a b ≡ true → a ≤ℤ b
le_true a b h = grind (arith, ints)

le_false : (a b : ℤ) → int_le a b ≡ false → b <ℤ a
le_false a b h = grind (arith, ints)

pub less_true : (a b : Rational) → is_less a b ≡ true → a <ℚ b
less_true a b h = record { cross = lt_true _ _ h }

pub less_false : (a b : Rational) → is_less a b ≡ false → b ≤ℚ a
less_false a b h = record { cross = lt_false _ _ h }

pub at_most_true : (a b : Rational) → is_at_most a b ≡ true → a ≤ℚ b
at_most_true a b h = record { cross = le_true _ _ h }

pub at_most_false : (a b : Rational) → is_at_most a b ≡ false → b <ℚ a
at_most_false a b h = record { cross = le_false _ _ h }

pub same_true : (a b : Rational) → is_same a b ≡ true → a ≡ b
same_true a b h = same_parts a b (grind (arith, ints, nat_tests)) (grind (arith, nat_tests))

pub whole_true : (a : Rational) → is_whole a ≡ true → a.denominator ≡ 1
whole_true a h = grind (arith, nat_tests)

-- ---- the other way

true_lt : (a b : ℤ) → a <ℤ b → int_lt a b ≡ true
true_lt a b h = grind (arith, ints)

false_lt : (a b : ℤ) → b ≤ℤ a → int_lt a b ≡ false
false_lt a b h = grind (arith, ints)

true_le : (a b : ℤ) → a ≤ℤ b → int_le a b ≡ true
true_le a b h = grind (arith, ints)

pub true_less : (a b : Rational) → a <ℚ b → is_less a b ≡ true
true_less a b h = true_lt _ _ h.cross

pub false_less : (a b : Rational) → b ≤ℚ a → is_less a b ≡ false
false_less a b h = false_lt _ _ h.cross

pub true_at_most : (a b : Rational) → a ≤ℚ b → is_at_most a b ≡ true
true_at_most a b h = true_le _ _ h.cross

pub true_same : (a b : Rational) → a ≡ b → is_same a b ≡ true
true_same a b e = let P : Rational → Type 0 = λ c. is_same a c ≡ true in subst P e (self a)
  where
    self : (a : Rational) → is_same a a ≡ true
    self a = grind (arith, ints, nat_tests)

-- ---- signs

zero_number : (n : ℤ) → (unsigned_abs n == 0) ≡ true → n ≡ pos 0
zero_number n h = let e : unsigned_abs n ≡ 0 = grind (arith, nat_tests) in omega (arith, ints)

pub zero_true : (a : Rational) → is_zero a ≡ true → a ≡ zero_ℚ
zero_true a h = value_same _ _ _ _ _ _ (value_self a) (value_self zero_ℚ) (rw (zero_number a.numerator h) (omega (arith, ints)))

below_zero : (n : ℤ) (d : ℕ) → int_lt n (pos 0) ≡ int_lt (n *ℤ pos 1) (pos 0 *ℤ pos d)
below_zero n d = grind (arith, ints)

above_zero : (n : ℤ) (d : ℕ) → int_lt (pos 0) n ≡ int_lt (pos 0 *ℤ pos d) (n *ℤ pos 1)
above_zero n d = grind (arith, ints)

pub negative_numerator : (a : Rational) → int_lt a.numerator (pos 0) ≡ is_negative a
negative_numerator a = below_zero a.numerator a.denominator

pub positive_numerator : (a : Rational) → int_lt (pos 0) a.numerator ≡ is_positive a
positive_numerator a = above_zero a.numerator a.denominator
