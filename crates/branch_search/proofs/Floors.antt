-- The greatest whole number that is not above a number.
use Rattle.std.proofs.Common.{◌≡◌, ℕ, suc, ◌*◌, ◌+◌, ◌/◌, ◌<◌, ◌≤◌, arith, div-add-mod', mod-lt, Bool, true, false, subst, refl}
use Rattle.std.specs.Prelude.{ℤ, pos, negsuc, ◌+ℤ◌, ◌*ℤ◌, neg_ℤ, ◌≤ℤ◌, ◌<ℤ◌}
use Rattle.std.specs.Int.{int_div_euclid}
use Rattle.std.proofs.lemmas.Int.{ints}
use Rattle.integer.proofs.Laws as Z
use Rattle.rational.specs.Rational.{Rational, ◌≤ℚ◌, ◌<ℚ◌, whole, floor_ℚ}
use Rattle.rational.proofs.Laws as Q
use Rattle.rational.specs.Compare.{is_less}
use Rattle.milp.specs.Points.{IsWhole}

under : (n : ℤ) (d : ℕ) → 0 < d → (int_div_euclid n (pos d) *ℤ pos d) ≤ℤ n
under (pos n) d h = let e : n / d * d ≤ n = omega (arith, div-add-mod' n d) in omega (arith, ints)
under (negsuc n) d h =
    let e : suc n ≤ suc (n / d) * d = omega (arith, div-add-mod' n d, mod-lt n h) in
    let f : neg_ℤ (pos (suc (n / d) * d)) ≤ℤ negsuc n = omega (arith, ints) in f

above : (n : ℤ) (d : ℕ) → 0 < d → n <ℤ ((int_div_euclid n (pos d) +ℤ pos 1) *ℤ pos d)
above (pos n) d h = let e : n < (n / d + 1) * d = omega (arith, div-add-mod' n d, mod-lt n h) in omega (arith, ints)
above (negsuc n) d h =
    let e : n / d * d ≤ n = omega (arith, div-add-mod' n d) in
    let k : (negsuc (n / d) +ℤ pos 1) ≡ neg_ℤ (pos (n / d)) = omega (arith, ints) in
    let f : negsuc n <ℤ neg_ℤ (pos (n / d * d)) = omega (arith, ints) in
    rw (k, Z.neg_mul) f

floor_le : (a : Rational) → whole (floor_ℚ a) ≤ℚ a
floor_le a = record { cross = Z.le_by _ _ _ _ refl (Z.mul-one a.numerator) (under a.numerator a.denominator a.lowest.positive) }

-- a number is below the whole number after its floor
pub lt-floor : (a : Rational) → a <ℚ whole (floor_ℚ a +ℤ pos 1)
lt-floor a = record { cross = Z.lt_by _ _ _ _ (Z.mul-one a.numerator) refl (above a.numerator a.denominator a.lowest.positive) }

-- a number that isn't whole is above its floor
pub floor-lt : (a : Rational) → ¬ (IsWhole a) → whole (floor_ℚ a) <ℚ a
floor-lt a h = go (is_less (whole (floor_ℚ a)) a) refl
  where
    go : (t : Bool) → is_less (whole (floor_ℚ a)) a ≡ t → whole (floor_ℚ a) <ℚ a
    go true e = Q.less_true _ _ e
    go false e = absurd (h (subst IsWhole (Q.le_antisymm (whole (floor_ℚ a)) a (floor_le a) (Q.less_false _ _ e)) refl))
