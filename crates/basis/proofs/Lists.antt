-- Places in lists that are put together.
use Rattle.std.proofs.Common.{◌≡◌, ◌∙◌, ℕ, zero, suc, ◌+◌, ◌<◌, List, [], ◌∷◌, ◌++◌, length, refl, ap, arith, Some, slice_get}
use Rattle.rational.specs.Rational.{Rational}
use Rattle.milp.specs.Form.{number_at}
use Rattle.basis.specs.Weights.{numbers_from}

pub slice_get_left : {X : Type 0} (xs ys : List X) (i : ℕ) → i < length xs → slice_get (xs ++ ys) i ≡ slice_get xs i
slice_get_left [] ys i h = absurd (omega arith)
slice_get_left (x ∷ xs) ys zero h = refl
slice_get_left (x ∷ xs) ys (suc i) h = slice_get_left xs ys i (omega arith)

pub slice_get_right : {X : Type 0} (xs ys : List X) (n i : ℕ) → length xs ≡ n → slice_get (xs ++ ys) (n + i) ≡ slice_get ys i
slice_get_right [] ys n i h = let e : n + i ≡ i = omega arith in ap (slice_get ys) e
slice_get_right (x ∷ xs) ys zero i h = absurd (omega arith)
slice_get_right (x ∷ xs) ys (suc n) i h = let e : suc n + i ≡ suc (n + i) = omega arith in ap (slice_get (x ∷ (xs ++ ys))) e ∙ slice_get_right xs ys n i (omega arith)

pub length-numbers : (i count : ℕ) (f : ℕ → Rational) → length (numbers_from i count f) ≡ count
length-numbers i zero f = refl
length-numbers i (suc count) f = let e = length-numbers (suc i) count f in omega arith

pub number_at-numbers : (i count : ℕ) (f : ℕ → Rational) (j : ℕ) → j < count → number_at (numbers_from i count f) j ≡ f (i + j)
number_at-numbers i zero f j h = absurd (omega arith)
number_at-numbers i (suc count) f zero h = let e : i ≡ i + 0 = omega arith in ap f e
number_at-numbers i (suc count) f (suc j) h = let e : suc i + j ≡ i + suc j = omega arith in number_at-numbers (suc i) count f j (omega arith) ∙ ap f e

pub numbers-below : (n : ℕ) (f : ℕ → Rational) (j : ℕ) → j < n → number_at (numbers_from 0 n f) j ≡ f j
numbers-below n f j h = let e : 0 + j ≡ j = omega arith in number_at-numbers 0 n f j h ∙ ap f e

pub slice_get_some : {X : Type 0} (xs : List X) (i : ℕ) → i < length xs → (x : X) × (slice_get xs i ≡ Some x)
slice_get_some [] i h = absurd (omega arith)
slice_get_some (x ∷ xs) zero h = (x, refl)
slice_get_some (x ∷ xs) (suc i) h = slice_get_some xs i (omega arith)
