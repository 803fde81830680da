-- The names of a set's keys.
use Rattle.std.proofs.Common.{◌≡◌, ◌∙◌, ℕ, Bool, true, false, List, [], ◌∷◌, ◌++◌, length, map, fold, Result, Ok, Err, OnOk, if◌then◌else◌, refl}
use Rattle.std.proofs.lemmas.List.{length-map, map-append}
use Rattle.std.specs.List.{position, position_or_len, list_any}
use Rattle.gmpl_names.specs.Names.{is_name, has, place_of, with_name, with_names}

module _ {X : Type 0} (key : X → List ℕ) where
  pub has-key : (name : List ℕ) (xs : List X) → list_any (λ x. is_name name (key x)) xs ≡ has name (map key xs)
  has-key name [] = refl
  has-key name (x ∷ xs) = rw (has-key name xs) refl

  place-or-len : (name : List ℕ) (xs : List X) → position_or_len (λ x. is_name name (key x)) xs ≡ position_or_len (is_name name) (map key xs)
  place-or-len name [] = refl
  place-or-len name (x ∷ xs) = rw (place-or-len name xs) refl

  pub place-of-key : (name : List ℕ) (xs : List X) → position (λ x. is_name name (key x)) xs ≡ place_of name (map key xs)
  place-of-key name xs = let n = place-or-len name xs in let l : length (map key xs) ≡ length xs = length-map xs key in cc

  -- the keys after one is inserted
  abbrev pub inserted : List X → X → List X
  inserted xs x = if list_any (λ y. is_name (key x) (key y)) xs then xs else xs ++ x ∷ []

  by-test : (xs : List X) (x : X) (b : Bool) → map key (if b then xs else xs ++ x ∷ []) ≡ (if b then map key xs else map key xs ++ key x ∷ [])
  by-test xs x true = refl
  by-test xs x false = map-append key xs (x ∷ [])

  pub insert-key : (xs : List X) (x : X) → map key (inserted xs x) ≡ with_name (map key xs) (key x)
  insert-key xs x = rw (← has-key (key x) xs) (by-test xs x (list_any (λ y. is_name (key x) (key y)) xs))

  pub insert-keys : (xs ys : List X) → map key (fold inserted xs ys) ≡ with_names (map key xs) (map key ys)
  insert-keys xs [] = refl
  insert-keys xs (y ∷ ys) = insert-keys (inserted xs y) ys ∙ (rw (insert-key xs y) refl)

pub on_ok : {A E : Type 0} {P Q : Type 0} (r : Result A E) → (P → Q) → OnOk r P → OnOk r Q
on_ok (Ok a) f p = f p
on_ok (Err e) f p = tt

pub same-with : {xs ys more others : List (List ℕ)} → xs ≡ ys → more ≡ others → with_names xs more ≡ with_names ys others
same-with e f = rw (e, f) refl
