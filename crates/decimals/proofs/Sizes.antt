-- The parts of a fraction without its sign.
use Rattle.std.proofs.Common.{◌≡◌, Bool, true, false, refl, arith}
use Rattle.std.proofs.lemmas.Bool.Decides.{nat_tests}
use Rattle.std.specs.Prelude.{ℤ, pos, negsuc, neg_ℤ, unsigned_abs, int_lt, cond}
use Rattle.rational.specs.Rational.{Rational, neg_ℚ, abs_ℚ}

neg_size : (z : ℤ) → int_lt z (pos 0) ≡ true → neg_ℤ z ≡ pos (unsigned_abs z)
neg_size (pos n) h = absurd (grind (arith, nat_tests))
neg_size (negsuc n) h = refl

pos_size : (z : ℤ) → int_lt z (pos 0) ≡ false → z ≡ pos (unsigned_abs z)
pos_size (pos n) h = refl
pos_size (negsuc n) h = absurd cc

record HasParts (a q : Rational) : Type 0 where
  pub numerator : a.numerator ≡ pos (unsigned_abs q.numerator)
  pub denominator : a.denominator ≡ q.denominator

by_sign : (q : Rational) (t : Bool) → int_lt q.numerator (pos 0) ≡ t → HasParts (cond t (neg_ℚ q) q) q
unfolding neg_ℚ
by_sign q true e = record { numerator = neg_size q.numerator e; denominator = refl }
by_sign q false e = record { numerator = pos_size q.numerator e; denominator = refl }

pub abs_numerator : (q a : Rational) → a ≡ abs_ℚ q → a.numerator ≡ pos (unsigned_abs q.numerator)
abs_numerator q a e = rw e (by_sign q (int_lt q.numerator (pos 0)) refl).numerator

pub abs_denominator : (q a : Rational) → a ≡ abs_ℚ q → a.denominator ≡ q.denominator
abs_denominator q a e = rw e (by_sign q (int_lt q.numerator (pos 0)) refl).denominator
