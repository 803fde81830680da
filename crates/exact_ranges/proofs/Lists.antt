-- Lists that grow at their end.
use Rattle.std.proofs.Common.{◌≡◌, ◌∙◌, ◌+◌, ◌<◌, ℕ, zero, suc, List, [], ◌∷◌, ◌++◌, length, get_or, refl, sym, ap, Some, IfSome, slice_get, arith}
use Rattle.std.specs.List.{AllByRecursion}

-- what holds of each element by its place holds with one more
pub one_more : {A : Type 0} (P : ℕ → A → Type 0) (xs : List A) (y : A) → ((k : ℕ) → IfSome (slice_get xs k) (P k)) → P (length xs) y → (k : ℕ) → IfSome (slice_get (xs ++ y ∷ []) k) (P k)
one_more P [] y h last zero = last
one_more P [] y h last (suc k) = tt
one_more P (x ∷ xs) y h last zero = h zero
one_more P (x ∷ xs) y h last (suc k) = one_more (λ n. P (suc n)) xs y (λ n. h (suc n)) last k

pub all_append : {A : Type 0} (P : A → Type 0) (xs ys : List A) → AllByRecursion P xs → AllByRecursion P ys → AllByRecursion P (xs ++ ys)
all_append P [] ys a b = b
all_append P (x ∷ xs) ys a b = (a.0, all_append P xs ys a.1 b)

pub more : {A : Type 0} (xs : List A) (y : A) → length (xs ++ y ∷ []) ≡ length xs + 1
more [] y = refl
more (x ∷ xs) y = let rest = more xs y in omega (arith, rest)

pub one_longer : {A : Type 0} (xs : List A) (y : A) (zs : List A) (n : ℕ) → length xs ≡ n → zs ≡ xs ++ y ∷ [] → length zs ≡ n + 1
one_longer xs y zs n e is = ap length is ∙ more xs y ∙ ap (λ k. k + 1) e

-- an element by its place
pub element_at : {A : Type 0} (xs : List A) (i : ℕ) (x : A) → i < length xs → x ≡ get_or xs i x → slice_get xs i ≡ Some x
element_at [] i x lt is = absurd (omega arith)
element_at (y ∷ xs) zero x lt is = ap (λ z. Some z) (sym is)
element_at (y ∷ xs) (suc i) x lt is = element_at xs i x (omega arith) is
