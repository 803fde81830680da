-- the laws of whole numbers as a commutative ring, and their order
use Rattle.std.proofs.Common.{◌≡◌, ℕ, ◌*◌, ◌+◌, ◌<◌, ◌≤◌, ap, arith, mul-le-mul_right, le_of_mul-le-mul_right, lt_of_mul-lt-mul_right, mul-lt-mul_of_pos_right, mul-pos, ◌⊎◌, inl, inr}
use Rattle.std.specs.Prelude.{ℤ, pos, negsuc, ◌+ℤ◌, ◌*ℤ◌, neg_ℤ, ◌≤ℤ◌, ◌<ℤ◌}
use Rattle.std.proofs.lemmas.Int.{ints, by_lt_z}
use Rattle.std.proofs.Math.Nat.{eq_of_mul-eq-mul_right}
use borrow.Author.Differences.{up, down, sum_is_lem, product_is, same_in, lt_out, le_out, neg_is}

pub add_comm : (a b : ℤ) → a +ℤ b ≡ b +ℤ a
add_comm a b = omega (arith, ints)

pub add_assoc : (a b c : ℤ) → (a +ℤ b) +ℤ c ≡ a +ℤ (b +ℤ c)
add_assoc a b c = omega (arith, ints)

pub add_left_comm : (a b c : ℤ) → a +ℤ (b +ℤ c) ≡ b +ℤ (a +ℤ c)
add_left_comm a b c = omega (arith, ints)

pub mul_comm : (a b : ℤ) → a *ℤ b ≡ b *ℤ a
mul_comm a b = omega (arith, ints)

pub up-mul : (a b : ℤ) → up (a *ℤ b) ≡ up a * up b + down a * down b
up-mul a b = (product_is a b).0

pub down-mul : (a b : ℤ) → down (a *ℤ b) ≡ up a * down b + down a * up b
down-mul a b = (product_is a b).1

pub mul_assoc : (a b c : ℤ) → (a *ℤ b) *ℤ c ≡ a *ℤ (b *ℤ c)
mul_assoc a b c = same_in _ _ (simp (up-mul, down-mul) (omega arith))

pub mul_left_comm : (a b c : ℤ) → a *ℤ (b *ℤ c) ≡ b *ℤ (a *ℤ c)
mul_left_comm a b c = same_in _ _ (simp (up-mul, down-mul) (omega arith))

pub mul_add : (a b c : ℤ) → a *ℤ (b +ℤ c) ≡ a *ℤ b +ℤ a *ℤ c
mul_add a b c = omega (arith, ints, ap (λ n. up a * n) (sum_is_lem b c), ap (λ n. down a * n) (sum_is_lem b c))

pub add_mul : (a b c : ℤ) → (a +ℤ b) *ℤ c ≡ a *ℤ c +ℤ b *ℤ c
add_mul a b c = omega (arith, ints, ap (λ n. n * up c) (sum_is_lem a b), ap (λ n. n * down c) (sum_is_lem a b))

pub mul_pos-mono : (a b : ℤ) (k : ℕ) → a ≤ℤ b → (a *ℤ pos k) ≤ℤ (b *ℤ pos k)
mul_pos-mono a b k h = omega (arith, ints, mul-le-mul_right k (le_out a b h))

pub mul_pos-cancel : (a b : ℤ) (k : ℕ) → 0 < k → (a *ℤ pos k) ≤ℤ (b *ℤ pos k) → a ≤ℤ b
mul_pos-cancel a b k p h =
    let e : (up a + down b) * k ≤ (up b + down a) * k = omega (arith, ints) in
    let f : up a + down b ≤ up b + down a = le_of_mul-le-mul_right e p in omega (arith, ints)

pub mul_pos-cancel_same : (a b : ℤ) (k : ℕ) → 0 < k → a *ℤ pos k ≡ b *ℤ pos k → a ≡ b
mul_pos-cancel_same a b k p e =
    let f : (up a + down b) * k ≡ (up b + down a) * k = omega (arith, ints) in
    same_in a b (eq_of_mul-eq-mul_right k p (up a + down b) (up b + down a) f)

pub up-neg : (a : ℤ) → up (neg_ℤ a) ≡ down a
up-neg a = (neg_is a).0

pub down-neg : (a : ℤ) → down (neg_ℤ a) ≡ up a
down-neg a = (neg_is a).1

pub neg_mul : (a b : ℤ) → neg_ℤ a *ℤ b ≡ neg_ℤ (a *ℤ b)
neg_mul a b = same_in _ _ (simp (up-mul, down-mul, up-neg, down-neg) (omega arith))

pub mul_neg : (a b : ℤ) → a *ℤ neg_ℤ b ≡ neg_ℤ (a *ℤ b)
mul_neg a b = same_in _ _ (simp (up-mul, down-mul, up-neg, down-neg) (omega arith))

pub neg_add : (a b : ℤ) → neg_ℤ (a +ℤ b) ≡ neg_ℤ a +ℤ neg_ℤ b
neg_add a b = omega (arith, ints)

-- the same, with a positive whole number as the factor
pub IsPositive-mul : (a b : ℤ) → pos 0 <ℤ a → pos 0 <ℤ b → pos 0 <ℤ (a *ℤ b)
IsPositive-mul (pos a) (pos b) p q = let h : 0 < a * b = mul-pos {m = a} {n = b} (omega (arith, ints, lt_out (pos 0) (pos a) p)) (omega (arith, ints, lt_out (pos 0) (pos b) q)) in omega (arith, ints)
IsPositive-mul (negsuc a) b p q = absurd (omega (arith, ints))
IsPositive-mul (pos a) (negsuc b) p q = absurd (omega (arith, ints))

pub IsPositive-pos : (n : ℕ) → 0 < n → pos 0 <ℤ pos n
IsPositive-pos n h = omega (arith, ints)

pub mul-mono : (a b k : ℤ) → pos 0 ≤ℤ k → a ≤ℤ b → (a *ℤ k) ≤ℤ (b *ℤ k)
mul-mono a b (pos k) p h = mul_pos-mono a b k h
mul-mono a b (negsuc k) p h = absurd (omega (arith, ints))

pub mul-cancel : (a b k : ℤ) → pos 0 <ℤ k → (a *ℤ k) ≤ℤ (b *ℤ k) → a ≤ℤ b
mul-cancel a b (pos k) p h = mul_pos-cancel a b k (omega (arith, ints)) h
mul-cancel a b (negsuc k) p h = absurd (omega (arith, ints))

pub mul-cancel_same : (a b k : ℤ) → pos 0 <ℤ k → a *ℤ k ≡ b *ℤ k → a ≡ b
mul-cancel_same a b (pos k) p h = mul_pos-cancel_same a b k (omega (arith, ints)) h
mul-cancel_same a b (negsuc k) p h = absurd (omega (arith, ints))

pub mul-one : (a : ℤ) → a *ℤ pos 1 ≡ a
mul-one a = omega (arith, ints)

pub one-mul : (a : ℤ) → pos 1 *ℤ a ≡ a
one-mul a = omega (arith, ints)

pub mul-zero : (a : ℤ) → a *ℤ pos 0 ≡ pos 0
mul-zero a = omega (arith, ints)

pub zero-mul : (a : ℤ) → pos 0 *ℤ a ≡ pos 0
zero-mul a = omega (arith, ints)

pub add-zero : (a : ℤ) → a +ℤ pos 0 ≡ a
add-zero a = omega (arith, ints)

pub zero-add : (a : ℤ) → pos 0 +ℤ a ≡ a
zero-add a = omega (arith, ints)

pub add_neg : (a : ℤ) → a +ℤ neg_ℤ a ≡ pos 0
add_neg a = omega (arith, ints)

pub neg_neg : (a : ℤ) → neg_ℤ (neg_ℤ a) ≡ a
neg_neg a = omega (arith, ints)

pub le_by : (a b x y : ℤ) → a ≡ x → b ≡ y → x ≤ℤ y → a ≤ℤ b
le_by a b x y e f h = omega (arith, ints)

pub le_trans : (a b c : ℤ) → a ≤ℤ b → b ≤ℤ c → a ≤ℤ c
le_trans a b c p q = omega (arith, ints)

pub le_antisymm : (a b : ℤ) → a ≤ℤ b → b ≤ℤ a → a ≡ b
le_antisymm a b p q = omega (arith, ints)

pub add-le-add : (a b c d : ℤ) → a ≤ℤ b → c ≤ℤ d → (a +ℤ c) ≤ℤ (b +ℤ d)
add-le-add a b c d p q = omega (arith, ints)

pub mul-non_negative : (a b : ℤ) → pos 0 ≤ℤ a → pos 0 ≤ℤ b → pos 0 ≤ℤ (a *ℤ b)
mul-non_negative (pos a) (pos b) p q = omega (arith, ints)
mul-non_negative (negsuc a) b p q = absurd (omega (arith, ints))
mul-non_negative (pos a) (negsuc b) p q = absurd (omega (arith, ints))

pub lt_by : (a b x y : ℤ) → a ≡ x → b ≡ y → x <ℤ y → a <ℤ b
lt_by a b x y e f h = omega (arith, ints)

pub lt_trans : (a b c : ℤ) → a <ℤ b → b <ℤ c → a <ℤ c
lt_trans a b c p q = omega (arith, ints)

pub mul-mono_lt : (a b k : ℤ) → pos 0 <ℤ k → a <ℤ b → (a *ℤ k) <ℤ (b *ℤ k)
mul-mono_lt a b (pos k) p h =
    let some : 0 < k = omega (arith, ints) in
    omega (arith, ints, mul-lt-mul_of_pos_right (lt_out a b h) some)
mul-mono_lt a b (negsuc k) p h = absurd (omega (arith, ints))

pub mul-cancel_lt : (a b k : ℤ) → pos 0 <ℤ k → (a *ℤ k) <ℤ (b *ℤ k) → a <ℤ b
mul-cancel_lt a b (pos k) p h =
    let e : (up a + down b) * k < (up b + down a) * k = omega (arith, ints) in
    let f : up a + down b < up b + down a = lt_of_mul-lt-mul_right k e in omega (arith, ints)
mul-cancel_lt a b (negsuc k) p h = absurd (omega (arith, ints))

pub le_total : (a b : ℤ) → (a ≤ℤ b) ⊎ (b ≤ℤ a)
le_total a b = by_lt_z a b (λ h. inl (le_of_lt a b h)) (λ h. inr h)
  where
    le_of_lt : (a b : ℤ) → a <ℤ b → a ≤ℤ b
    le_of_lt a b h = omega (arith, ints)

-- `simp ring` proves an equation of a commutative ring between variables; with `neg_mul`, `mul_neg` and `neg_add` where there are signs
pub ruleset ring = (add_assoc, add_comm, add_left_comm, mul_assoc, mul_comm, mul_left_comm, mul_add, add_mul)

pub ruleset units = (mul-one, one-mul, mul-zero, zero-mul, add-zero, zero-add)
