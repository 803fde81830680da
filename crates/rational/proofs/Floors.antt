-- The floor of a number, and the two sides of a split.
use Rattle.std.proofs.Common.{◌≡◌, ℕ, suc, ◌*◌, ◌+◌, ◌/◌, ◌<◌, ◌≤◌, arith, ◌⊎◌, inl, inr, div-add-mod', mod-lt}
use Rattle.std.specs.Prelude.{ℤ, pos, negsuc, ◌+ℤ◌, ◌*ℤ◌, neg_ℤ, ◌≤ℤ◌, ◌<ℤ◌}
use Rattle.std.specs.Int.{int_div_euclid}
use Rattle.std.proofs.lemmas.Int.{ints, by_lt_z}
use Rattle.integer.proofs.Laws as Z
use Rattle.rational.specs.Rational.{◌≤ℚ◌, whole}

under : (n : ℤ) (d : ℕ) → 0 < d → (int_div_euclid n (pos d) *ℤ pos d) ≤ℤ n
under (pos n) d h = let e : n / d * d ≤ n = omega (arith, div-add-mod' n d) in omega (arith, ints)
under (negsuc n) d h =
    let e : suc n ≤ suc (n / d) * d = omega (arith, div-add-mod' n d, mod-lt n h) in
    let f : neg_ℤ (pos (suc (n / d) * d)) ≤ℤ negsuc n = omega (arith, ints) in f

above : (n : ℤ) (d : ℕ) → 0 < d → n <ℤ ((int_div_euclid n (pos d) +ℤ pos 1) *ℤ pos d)
above (pos n) d h = let e : n < (n / d + 1) * d = omega (arith, div-add-mod' n d, mod-lt n h) in omega (arith, ints)
above (negsuc n) d h =
    let e : n / d * d ≤ n = omega (arith, div-add-mod' n d) in
    let k : (negsuc (n / d) +ℤ pos 1) ≡ neg_ℤ (pos (n / d)) = omega (arith, ints) in
    let f : negsuc n <ℤ neg_ℤ (pos (n / d * d)) = omega (arith, ints) in
    rw (k, Z.neg_mul) f

-- each whole number is on one side of the split at t
pub whole_sides : (n t : ℤ) → (whole n ≤ℚ whole t) ⊎ (whole (t +ℤ pos 1) ≤ℚ whole n)
whole_sides n t = by_lt_z t n (λ h. inr (record { cross = right n t h })) (λ h. inl (record { cross = left n t h }))
  where
    left : (n t : ℤ) → n ≤ℤ t → (n *ℤ pos 1) ≤ℤ (t *ℤ pos 1)
    left n t h = omega (arith, ints)

    right : (n t : ℤ) → t <ℤ n → ((t +ℤ pos 1) *ℤ pos 1) ≤ℤ (n *ℤ pos 1)
    right n t h = omega (arith, ints)
