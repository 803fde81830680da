-- The least common denominator of a list of numbers makes each of them whole.
use Rattle.std.proofs.Common.{◌≡◌, ℕ, zero, suc, ◌*◌, ◌<◌, ◌/◌, List, [], ◌∷◌, length, sym, ap, subst, arith, mul-pos}
use Rattle.std.specs.Prelude.{ℤ, pos, ◌*ℤ◌}
use Rattle.std.specs.Int.{◌∣◌}
use Rattle.std.proofs.Math.Nat.{dvd-mul_left, dvd-mul_right, div-mul_cancel}
use Rattle.std.proofs.lemmas.Nat.Gcd.{dvd_trans, dvd_refl}
use Rattle.integer.specs.Gcd.{gcd}
use Rattle.integer.proofs.Laws.{gcd-is, ring}
use Rattle.integer.proofs.Laws as Z
use Rattle.rational.specs.Rational.{Rational, whole, ◌*ℚ◌}
use Rattle.rational.proofs.Laws.{value_same, value_self, value_mul}
use Rattle.milp.specs.Form.{number_at}
use Rattle.milp.specs.Points.{IsWhole}
use Rattle.rational.specs.Denominators.{common_denominator}

step_left : (m : ℕ) (a : Rational) → m ∣ m * (a.denominator / gcd m a.denominator)
step_left m a = dvd-mul_right m (a.denominator / gcd m a.denominator)

step_right : (m : ℕ) (a : Rational) → a.denominator ∣ m * (a.denominator / gcd m a.denominator)
step_right m a =
    let g = gcd m a.denominator in
    let left : m / gcd m a.denominator * gcd m a.denominator ≡ m = div-mul_cancel (gcd m a.denominator) (gcd-is m a.denominator).0 in
    let right : a.denominator / gcd m a.denominator * gcd m a.denominator ≡ a.denominator = div-mul_cancel (gcd m a.denominator) (gcd-is m a.denominator).1 in
    subst (λ t. a.denominator ∣ t) (same (m / gcd m a.denominator) (gcd m a.denominator) m a.denominator (a.denominator / gcd m a.denominator) left right) (dvd-mul_left a.denominator (m / gcd m a.denominator))
  where
    same : (q g m d e : ℕ) → q * g ≡ m → e * g ≡ d → q * d ≡ m * e
    same q g m d e h k = rw (← h, ← k) (swap q g e)
      where
        swap : (q g e : ℕ) → q * (e * g) ≡ (q * g) * e
        swap q g e = omega arith

pub common_of_start : (m : ℕ) (xs : List Rational) → m ∣ common_denominator m xs
common_of_start m [] = dvd_refl m
common_of_start m (a ∷ xs) = dvd_trans m (step_left m a) (common_of_start (m * (a.denominator / gcd m a.denominator)) xs)

pub common_of_number : (m : ℕ) (xs : List Rational) (j : ℕ) → j < length xs → (number_at xs j).denominator ∣ common_denominator m xs
common_of_number m [] j h = absurd (omega arith)
common_of_number m (a ∷ xs) zero h = dvd_trans a.denominator (step_right m a) (common_of_start (m * (a.denominator / gcd m a.denominator)) xs)
common_of_number m (a ∷ xs) (suc j) h = common_of_number (m * (a.denominator / gcd m a.denominator)) xs j (omega arith)

step_some : (m : ℕ) (a : Rational) → 0 < m → 0 < m * (a.denominator / gcd m a.denominator)
step_some m a h =
    let right : a.denominator / gcd m a.denominator * gcd m a.denominator ≡ a.denominator = div-mul_cancel (gcd m a.denominator) (gcd-is m a.denominator).1 in
    mul-pos h (some (a.denominator / gcd m a.denominator) (gcd m a.denominator) a.denominator right a.lowest.positive)
  where
    some : (q g d : ℕ) → q * g ≡ d → 0 < d → 0 < q
    some zero g d e h = absurd (omega arith)
    some (suc q) g d e h = omega arith

pub common_some : (m : ℕ) (xs : List Rational) → 0 < m → 0 < common_denominator m xs
common_some m [] h = h
common_some m (a ∷ xs) h = common_some (m * (a.denominator / gcd m a.denominator)) xs (step_some m a h)

-- a number times a multiple of its denominator
pub multiple_whole : (a : Rational) (m : ℕ) → a.denominator ∣ m → IsWhole (a *ℚ whole (pos m))
multiple_whole a m h =
    let e : m / a.denominator * a.denominator ≡ m = div-mul_cancel a.denominator h in
    ap (λ (q : Rational). q.denominator) (value_same _ _ _ _ _ _ (value_mul _ _ _ _ _ _ (value_self a) (value_self (whole (pos m)))) (value_self (whole (a.numerator *ℤ pos (m / a.denominator))))
    (parts a.numerator (pos m) (pos a.denominator) (pos (m / a.denominator)) (ap pos (sym e))))
  where
    parts : (n m d t : ℤ) → m ≡ t *ℤ d → (n *ℤ m) *ℤ pos 1 ≡ (n *ℤ t) *ℤ (d *ℤ pos 1)
    parts n m d t e = rw e (order n t d)
      where
        order : (n t d : ℤ) → (n *ℤ (t *ℤ d)) *ℤ pos 1 ≡ (n *ℤ t) *ℤ (d *ℤ pos 1)
        order n t d = simp (ring, Z.units)
