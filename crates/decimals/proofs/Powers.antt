-- Powers of 10.
use Rattle.std.proofs.Common.{◌≡◌, ◌∙◌, ℕ, ◌+◌, ◌-◌, ◌*◌, ◌^◌, ◌<◌, ◌≤◌, sym, ap, arith, lit≤, lit<}
use Rattle.std.proofs.Math.Nat.{one-le-pow, pow-le-pow_right, mul_assoc, mul-le-mul_left, mul-pos}
use Rattle.std.proofs.lemmas.Nat.{pow-add}

pub tens_pos : (k : ℕ) → 0 < 10 ^ k
tens_pos k = one-le-pow k 10 (lit≤ tt)

pub tens_up : (j k : ℕ) → j ≤ k → 10 ^ j ≤ 10 ^ k
tens_up j k h = pow-le-pow_right {n = 10} (lit≤ tt) {i = j} {j = k} h

pub tens_parts : (j k : ℕ) → j ≤ k → 10 ^ k ≡ 10 ^ j * 10 ^ (k - j)
tens_parts j k h =
    let whole : k ≡ j + (k - j) = omega arith in
    ap (λ i. 10 ^ i) whole ∙ pow-add 10 j (k - j)

-- a power in a part
pub tens_in_part : (k : ℕ) → k ≤ 38 → 10 ^ k < 2 ^ 127
tens_in_part k h =
    let most : 10 ^ k ≤ 10 ^ 38 = tens_up k 38 h in
    let room : 10 ^ 38 < 2 ^ 127 = lit< tt in
    omega arith

-- a product by parts of the power
pub scaled_by_parts : (n p m j k : ℕ) → p ≡ 10 ^ j → m ≡ n * p → j ≤ k → m * 10 ^ (k - j) ≡ n * 10 ^ k
scaled_by_parts n p m j k e f h =
    ap (λ x. x * 10 ^ (k - j)) (f ∙ ap (λ x. n * x) e) ∙ mul_assoc n (10 ^ j) (10 ^ (k - j)) ∙ ap (λ x. n * x) (sym (tens_parts j k h))

pub scaled_small : (n j k : ℕ) → j ≤ k → n * 10 ^ j ≤ n * 10 ^ k
scaled_small n j k h = let up = tens_up j k h in mul-le-mul_left n up

pub times_tens_pos : (d k : ℕ) → 0 < d → 0 < d * 10 ^ k
times_tens_pos d k h = mul-pos h (tens_pos k)
