-- Places in lists that are seen by a function.
use Rattle.std.proofs.Common.{◌≡◌, ◌+◌, Bool, List, [], ◌∷◌, length, map, refl, sym, ap, ◌∙◌, Some, None, cond, nat_lt}
use Rattle.std.specs.List.{position, position_or_len, prefix_len}
use Rattle.std.specs.Prelude.{not}
use Rattle.std.proofs.lemmas.List.{length-map}

prefix_seen : {A B : Type 0} (f : A → B) (p : B → Bool) (xs : List A) → prefix_len (λ x. p (f x)) xs ≡ prefix_len p (map f xs)
prefix_seen f p [] = refl
prefix_seen f p (x ∷ xs) = ap (λ n. cond (p (f x)) (1 + n) 0) (prefix_seen f p xs)

pub position_seen : {A B : Type 0} (f : A → B) (p : B → Bool) (xs : List A) → position (λ x. p (f x)) xs ≡ position p (map f xs)
position_seen f p xs =
    ap (λ n. cond (nat_lt n (length xs)) (Some n) None) (prefix_seen f (λ x. not (p x)) xs)
    ∙ ap (λ n. cond (nat_lt (position_or_len p (map f xs)) n) (Some (position_or_len p (map f xs))) None) (sym (length-map xs f))
