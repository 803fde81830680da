-- Elements of lists by their places, and what they stand for.
use Rattle.std.proofs.Common.{◌≡◌, ◌∙◌, ℕ, zero, suc, ◌<◌, List, [], ◌∷◌, ◌++◌, length, map, get_or, take, reverse, refl, sym, ap, subst, arith, take-suc}
use Rattle.std.proofs.lemmas.List.{reverse-append, length-map}
use Rattle.std.proofs.Math.ListN.{get_or-map}

-- the last element comes first
pub back : {X : Type 0} (xs : List X) (n : ℕ) (x : X) → n < length xs → x ≡ get_or xs n x → reverse (take (suc n) xs) ≡ x ∷ reverse (take n xs)
back xs n x h e =
    let taken : take (suc n) xs ≡ take n xs ++ (x ∷ []) = take-suc xs n x h ∙ ap (λ y. take n xs ++ (y ∷ [])) (sym e) in
    ap reverse taken ∙ reverse-append (take n xs) (x ∷ [])

-- there is an element at a place within a list
pub element_at : {X : Type 0} (xs : List X) (n : ℕ) → n < length xs → (x : X) × (x ≡ get_or xs n x)
element_at [] n h = absurd (omega arith)
element_at (y ∷ ys) zero h = (y, refl)
element_at (y ∷ ys) (suc n) h = element_at ys n (omega arith)

-- an element of a list by what it stands for
pub stands_for : {A B : Type 0} → (f : A → B) (xs : List A) (ys : List B) (n : ℕ) (x : A) → map f xs ≡ ys → x ≡ get_or xs n x → f x ≡ get_or ys n (f x)
stands_for f xs ys n x e is = subst (λ zs. f x ≡ get_or zs n (f x)) e (ap f is ∙ sym (get_or-map f xs n x))

pub same_length : {A B : Type 0} → (f : A → B) (xs : List A) (ys : List B) → map f xs ≡ ys → length ys ≡ length xs
same_length f xs ys e = sym (ap length e) ∙ length-map xs f
