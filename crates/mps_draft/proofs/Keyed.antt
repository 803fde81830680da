-- Lists whose elements have names of their own: what is found and changed by name is so by its place among the names.
use Rattle.std.proofs.Common.{suc, ◌≡◌, ℕ, ◌+◌, ◌<◌, ◌≤◌, Bool, true, false, List, [], ◌∷◌, length, map, get_or, set, slice_get, Some, None, sym, ap, add_comm, refl, ◌∙◌, add-one, arith}
use Rattle.std.proofs.lemmas.Option.{slice_get-get_or, slice_get_past}
use Rattle.std.proofs.lemmas.List.Folds.{find_at}
use Rattle.std.specs.List.{position, position_or_len, list_any, find}
use Rattle.mps_draft.specs.Declaration.{with_first_changed}
use Rattle.model_text.specs.Names.{is_name}
use Rattle.model_text.proofs.Laws.{position-same, list_any-same, place-some, place-none}

changed-by : {X : Type 0} (p : X → Bool) (f : X → X) → (x : X) (xs : List X) (d : X) (n : ℕ) (b : Bool) → p x ≡ b → position_or_len p xs ≡ n → (n < length xs → with_first_changed p f xs ≡ set xs n (f (get_or xs n d))) → (m : ℕ) → m ≡ position_or_len p (x ∷ xs) → m < length (x ∷ xs) → with_first_changed p f (x ∷ xs) ≡ set (x ∷ xs) m (f (get_or (x ∷ xs) m d))
changed-by p f x xs d n true e s more m t h = let z : m ≡ 0 = t ∙ (rw e refl) in rw (e, z) refl
changed-by p f x xs d n false e s more m t h = let z : m ≡ suc n = t ∙ (rw (e, s) (add_comm 1 n ∙ add-one n)) in let less : n < length xs = omega arith in rw (e, z) (ap (λ ys. x ∷ ys) (more less))

changed-at : {X : Type 0} (p : X → Bool) (f : X → X) → (xs : List X) (d : X) → position_or_len p xs < length xs → with_first_changed p f xs ≡ set xs (position_or_len p xs) (f (get_or xs (position_or_len p xs) d))
changed-at p f [] d h = absurd (omega arith)
changed-at p f (x ∷ xs) d h = changed-by p f x xs d (position_or_len p xs) (p x) refl refl (changed-at p f xs d) (position_or_len p (x ∷ xs)) refl h

unchanged-by : {X : Type 0} (p : X → Bool) (f : X → X) → (x : X) (xs : List X) (b : Bool) → p x ≡ b → (length xs ≤ position_or_len p xs → with_first_changed p f xs ≡ xs) → length (x ∷ xs) ≤ position_or_len p (x ∷ xs) → with_first_changed p f (x ∷ xs) ≡ x ∷ xs
unchanged-by p f x xs true e more h = let t : position_or_len p (x ∷ xs) ≡ 0 = rw e refl in absurd (omega arith)
unchanged-by p f x xs false e more h = let t : position_or_len p (x ∷ xs) ≡ 1 + position_or_len p xs = rw e refl in rw e (ap (λ ys. x ∷ ys) (more (omega arith)))

unchanged : {X : Type 0} (p : X → Bool) (f : X → X) → (xs : List X) → length xs ≤ position_or_len p xs → with_first_changed p f xs ≡ xs
unchanged p f [] h = refl
unchanged p f (x ∷ xs) h = unchanged-by p f x xs (p x) refl (unchanged p f xs) h

none-any : {X : Type 0} (p : X → Bool) → (x : X) (xs : List X) (b : Bool) → p x ≡ b → (find p xs ≡ None → list_any p xs ≡ false) → find p (x ∷ xs) ≡ None → list_any p (x ∷ xs) ≡ false
none-any p x xs true e more h = let t = rw e at h in cc
none-any p x xs false e more h = let t = rw e at h in rw e (more t)

pub none-found : {X : Type 0} (p : X → Bool) → (xs : List X) → find p xs ≡ None → list_any p xs ≡ false
none-found p [] h = refl
none-found p (x ∷ xs) h = none-any p x xs (p x) refl (none-found p xs) h

pub changed-found : {X : Type 0} (p : X → Bool) (f : X → X) → (xs : List X) (i : ℕ) (x : X) → position p xs ≡ Some i → x ≡ get_or xs i x → with_first_changed p f xs ≡ set xs i (f x)
changed-found p f xs i x e g = let s = place-some p xs i e in changed-at p f xs x (rw s.0 s.1) ∙ (rw (s.0, ← g) refl)

pub changed-got : {X : Type 0} (p : X → Bool) (f : X → X) → (xs : List X) (i : ℕ) (x : X) → position p xs ≡ Some i → slice_get xs i ≡ Some x → with_first_changed p f xs ≡ set xs i (f x)
changed-got p f xs i x e g = let s = place-some p xs i e in let here : Some (get_or xs i x) ≡ Some x = sym (slice_get-get_or xs i x s.1) ∙ g in let same : x ≡ get_or xs i x = cc in changed-found p f xs i x e same

pub unchanged-past : {X : Type 0} (p : X → Bool) (f : X → X) → (xs : List X) → position p xs ≡ None → with_first_changed p f xs ≡ xs
unchanged-past p f xs e = unchanged p f xs (place-none p xs e)

module _ {X : Type 0} (key : X → List ℕ) (name : List ℕ) (names : List (List ℕ)) (xs : List X) (index : names ≡ map key xs) where
  abbrev test : X → Bool
  test x = is_name name (key x)

  place-in : (i : ℕ) → position (is_name name) names ≡ Some i → position test xs ≡ Some i
  place-in i e = position-same key test (is_name name) (λ x. refl) xs ∙ (rw index at e)

  no-place-in : position (is_name name) names ≡ None → position test xs ≡ None
  no-place-in e = position-same key test (is_name name) (λ x. refl) xs ∙ (rw index at e)

  pub found : (i : ℕ) (x : X) → position (is_name name) names ≡ Some i → x ≡ get_or xs i x → find test xs ≡ Some x
  found i x e g = let p = place-some test xs i (place-in i e) in find_at test xs ∙ (rw p.0 (slice_get-get_or xs i x p.1 ∙ ap Some (sym g)))

  pub not-found : position (is_name name) names ≡ None → find test xs ≡ None
  not-found e = let p = place-none test xs (no-place-in e) in find_at test xs ∙ slice_get_past xs (position_or_len test xs) p

  pub changed : (f : X → X) (i : ℕ) (x : X) → position (is_name name) names ≡ Some i → x ≡ get_or xs i x → with_first_changed test f xs ≡ set xs i (f x)
  changed f i x e g = changed-found test f xs i x (place-in i e) g

  pub not-changed : (f : X → X) → position (is_name name) names ≡ None → with_first_changed test f xs ≡ xs
  not-changed f e = unchanged-past test f xs (no-place-in e)

  pub new-name : find test xs ≡ None → list_any (is_name name) names ≡ false
  new-name e = rw index (sym (list_any-same key test (is_name name) (λ x. refl) xs) ∙ none-found test xs e)
