-- The order of fractions is total, and two that tie are one.
use Rattle.std.proofs.Common.{◌≡◌, subst, refl, sym, Bool, true, false, arith}
use Rattle.std.specs.Prelude.{pos, ◌*ℤ◌, ◌<ℤ◌, ◌&&◌, ◌==◌}
use Rattle.std.proofs.lemmas.Int.{ints}
use Rattle.std.specs.Cmp.{IsTotalOrder, strict, int_ranks}
use Rattle.std.specs.Ordering.{MatchOrdering, eq_by_cmp, int_eq, is_eq}
use Rattle.std.specs.declared.cmp.Ordering.{Ordering}
use Rattle.std.specs.declared.cmp.Ordering.TheVariants.{Less, Equal, Greater}
use Rattle.rational.specs.Rational.{Rational, ◌<ℚ◌, compare_ℚ}
use Rattle.rational.proofs.Field as Q
use Rattle.rational.proofs.Value.{value_same, value_self, same_parts}
use Rattle.std.proofs.lemmas.Bool.Decides.{nat_tests}

ranks_by : (a b : Rational) (r : Ordering) → MatchOrdering r ((a.numerator *ℤ pos b.denominator) <ℤ (b.numerator *ℤ pos a.denominator)) (a.numerator *ℤ pos b.denominator ≡ b.numerator *ℤ pos a.denominator) ((b.numerator *ℤ pos a.denominator) <ℤ (a.numerator *ℤ pos b.denominator)) → MatchOrdering r (a <ℚ b) (a ≡ b) (b <ℚ a)
ranks_by a b Less h = record { cross = h }
ranks_by a b Equal h = value_same _ _ _ _ _ _ (value_self a) (value_self b) h
ranks_by a b Greater h = record { cross = h }

ranks : (a b : Rational) → MatchOrdering (compare_ℚ a b) (a <ℚ b) (a ≡ b) (b <ℚ a)
ranks a b = ranks_by a b (compare_ℚ a b) (int_ranks (a.numerator *ℤ pos b.denominator) (b.numerator *ℤ pos a.denominator))

irrefl : (a : Rational) → ¬ (a <ℚ a)
irrefl a h = Q.lt-not-le a a h (Q.le_refl a)

pub compare_total : IsTotalOrder compare_ℚ
compare_total = strict (λ (a b : Rational). a <ℚ b) irrefl Q.lt_trans compare_ℚ ranks

same_tests : (t u : Bool) → (t ≡ true → u ≡ true) → (u ≡ true → t ≡ true) → t ≡ u
same_tests true u f g = sym (f refl)
same_tests false true f g = g refl
same_tests false false f g = refl

parts_same : (a b : Rational) → (int_eq a.numerator b.numerator && (a.denominator == b.denominator)) ≡ true → a ≡ b
parts_same a b h = same_parts a b (grind (arith, ints, nat_tests)) (grind (arith, nat_tests))

self_same : (a : Rational) → (int_eq a.numerator a.numerator && (a.denominator == a.denominator)) ≡ true
self_same a = grind (arith, ints, nat_tests)

equal_self : (a : Rational) → eq_by_cmp compare_ℚ a a ≡ true
equal_self a = is_equal a (compare_ℚ a a) (ranks a a)
  where
    is_equal : (a : Rational) (r : Ordering) → MatchOrdering r (a <ℚ a) (a ≡ a) (a <ℚ a) → is_eq r ≡ true
    is_equal a Less h = absurd (irrefl a h)
    is_equal a Equal h = refl
    is_equal a Greater h = absurd (irrefl a h)

tied : (a b : Rational) (r : Ordering) → MatchOrdering r (a <ℚ b) (a ≡ b) (b <ℚ a) → is_eq r ≡ true → a ≡ b
tied a b Less h e = cc
tied a b Equal h e = h
tied a b Greater h e = cc

pub compare_ties : (a b : Rational) → (int_eq a.numerator b.numerator && (a.denominator == b.denominator)) ≡ eq_by_cmp compare_ℚ a b
compare_ties a b = same_tests _ _
    (λ h. let P : Rational → Type 0 = λ c. eq_by_cmp compare_ℚ a c ≡ true in subst P (parts_same a b h) (equal_self a))
    (λ h. let P : Rational → Type 0 = λ c. (int_eq a.numerator c.numerator && (a.denominator == c.denominator)) ≡ true in subst P (tied a b (compare_ℚ a b) (ranks a b) h) (self_same a))
