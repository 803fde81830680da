-- Reading a list one after the other, as a loop does.
use Rattle.std.proofs.Common.{◌≡◌, List, [], ◌∷◌, ◌++◌, Result, Ok, Err, refl, ap, append_assoc}
use Rattle.certificate_lines.specs.Fields.{◌>>=◌}

-- what was read before, and what is still read
abbrev pub with_front : {A E : Type 0} → List A → Result (List A) E → Result (List A) E
with_front front read = read >>= λ xs. Ok (front ++ xs)

pub with_front-cons : {A E : Type 0} (front : List A) (x : A) (read : Result (List A) E) → with_front front (read >>= λ xs. Ok (x ∷ xs)) ≡ with_front (front ++ x ∷ []) read
with_front-cons front x (Ok xs) = ap (λ (ys : List _). Ok ys) (simp append_assoc)
with_front-cons front x (Err e) = refl

-- the same, with what is left after it
abbrev pub with_front_of : {A R E : Type 0} → List A → Result (List A × R) E → Result (List A × R) E
with_front_of front read = read >>= λ xs. Ok (front ++ xs.0, xs.1)

pub with_front_of-cons : {A R E : Type 0} (front : List A) (x : A) (read : Result (List A × R) E) → with_front_of front (read >>= λ xs. Ok (x ∷ xs.0, xs.1)) ≡ with_front_of (front ++ x ∷ []) read
with_front_of-cons front x (Ok xs) = ap (λ (ys : List _). Ok (ys, xs.1)) (simp append_assoc)
with_front_of-cons front x (Err e) = refl
