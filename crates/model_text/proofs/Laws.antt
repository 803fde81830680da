-- The laws of names and of lists whose elements have names, which readers cite.
use Rattle.std.proofs.Common.{suc, ◌≡◌, ℕ, ◌+◌, ◌<◌, ◌≤◌, Bool, true, false, not, cond, ltb, List, [], ◌∷◌, ◌++◌, length, map, take, get_or, set, Option, Some, None, is_some, IfSome, if◌then◌else◌, inl, inr, Bor, sym, ap, refl, ◌∙◌, arith}
use Rattle.std.proofs.lemmas.Bool.Decides.{same_from_decides, nat_tests}
use Rattle.std.proofs.lemmas.Slice.Eq.{bytes_eq-Decides}
use Rattle.std.proofs.lemmas.List.{length-append, length-map, map-append, take-append-le, take-map, get_or-map, get_or_append_left}
use Rattle.std.proofs.lemmas.List.Sums.{prefix_len-le-length}
use Rattle.std.proofs.Math.Seq.{take-append_seam, get_or-append_seam, map-set_same}
use Rattle.std.proofs.lemmas.Bool.{cases_lt}
use Rattle.std.specs.List.{position, position_or_len, list_any}
use Rattle.std.specs.Str.{bytes_eq}
use Rattle.model_text.specs.Names.{is_name, AreNew}

pub bytes_eq-sym : (xs ys : List ℕ) → bytes_eq xs ys ≡ bytes_eq ys xs
bytes_eq-sym xs ys = let a = bytes_eq-Decides xs ys in let b = bytes_eq-Decides ys xs in same_from_decides (bytes_eq xs ys) (bytes_eq ys xs) a ((λ e. sym (b.0 e)), (λ e. b.1 (sym e)))

-- the same place by another test over other elements
pub position_or_len-same : {X Y : Type 0} (f : X → Y) (p : X → Bool) (q : Y → Bool) → ((x : X) → p x ≡ q (f x)) → (xs : List X) → position_or_len p xs ≡ position_or_len q (map f xs)
position_or_len-same f p q same [] = refl
position_or_len-same f p q same (x ∷ xs) = rw (same x, position_or_len-same f p q same xs) refl

pub position-same : {X Y : Type 0} (f : X → Y) (p : X → Bool) (q : Y → Bool) → ((x : X) → p x ≡ q (f x)) → (xs : List X) → position p xs ≡ position q (map f xs)
position-same f p q same xs = let n = position_or_len-same f p q same xs in let l : length (map f xs) ≡ length xs = length-map xs f in cc

pub list_any-same : {X Y : Type 0} (f : X → Y) (p : X → Bool) (q : Y → Bool) → ((x : X) → p x ≡ q (f x)) → (xs : List X) → list_any p xs ≡ list_any q (map f xs)
list_any-same f p q same [] = refl
list_any-same f p q same (x ∷ xs) = rw (same x, list_any-same f p q same xs) refl

-- one more name, which is new
pub AreNew-push : (names : List (List ℕ)) (name : List ℕ) → AreNew names → list_any (is_name name) names ≡ false → AreNew (names ++ name ∷ [])
AreNew-push names name before new = λ i h. elim (cases_lt i (length names)) [
  | inl less ↦ rw (take-append-le i names (name ∷ []) (omega arith), get_or_append_left names (name ∷ []) [] i less) (before i less)
  | inr more ↦ let e : i ≡ length names = omega (arith, length-append names (name ∷ [])) in rw (e, take-append_seam names (name ∷ []), get_or-append_seam names name [] []) new
]

-- the keys of a set with one more name, which is new
pub keys-push : (keys more : List (Bor (List ℕ))) (names : List (List ℕ)) (name : Bor (List ℕ)) → map (λ k. k.now) keys ≡ names → list_any (is_name name.now) names ≡ false → more ≡ (if list_any (λ (k : Bor (List ℕ)). bytes_eq name.now k.now) keys then keys else keys ++ name ∷ []) → map (λ k. k.now) more ≡ names ++ name.now ∷ []
keys-push keys more names name here new e =
    let absent : list_any (λ (k : Bor (List ℕ)). bytes_eq name.now k.now) keys ≡ false = list_any-same (λ k. k.now) (λ (k : Bor (List ℕ)). bytes_eq name.now k.now) (is_name name.now) (λ k. bytes_eq-sym name.now k.now) keys ∙ (rw here new) in
    rw (e, absent, map-append (λ k. k.now) keys (name ∷ []), here) refl

-- the same of elements that have names
pub keyed-push : {X : Type 0} (key : X → List ℕ) (equal : X → Bool) (keys more : List X) (names : List (List ℕ)) (x : X) → ((k : X) → equal k ≡ is_name (key x) (key k)) → map key keys ≡ names → list_any (is_name (key x)) names ≡ false → more ≡ (if list_any equal keys then keys else keys ++ x ∷ []) → map key more ≡ names ++ key x ∷ []
keyed-push key equal keys more names x same here new e =
    let absent : list_any equal keys ≡ false = list_any-same key equal (is_name (key x)) same keys ∙ (rw here new) in
    rw (e, absent, map-append key keys (x ∷ []), here) refl

-- ---- places of what passes a test

pub place-some : {X : Type 0} (p : X → Bool) → (xs : List X) (i : ℕ) → position p xs ≡ Some i → (position_or_len p xs ≡ i) × (i < length xs)
place-some p xs i e = grind (arith, nat_tests)

pub place-none : {X : Type 0} (p : X → Bool) → (xs : List X) → position p xs ≡ None → length xs ≤ position_or_len p xs
place-none p xs e = grind (arith, nat_tests)

-- what isn't found has its place at the end
pub place-past : {X : Type 0} (p : X → Bool) → (xs : List X) → None ≡ position p xs → length xs ≡ position_or_len p xs
place-past p xs e = let most : position_or_len p xs ≤ length xs = prefix_len-le-length (λ x. not (p x)) xs in let least = place-none p xs (sym e) in omega arith

pub place-within : {X : Type 0} (p : X → Bool) → (xs : List X) (found : Option ℕ) → found ≡ position p xs → IfSome found (λ i. i < length xs)
place-within p xs None e = tt
place-within p xs (Some i) e = (place-some p xs i (sym e)).1

none-by : {X : Type 0} (p : X → Bool) (x : X) (xs : List X) (b : Bool) → p x ≡ b → (length xs ≤ position_or_len p xs → list_any p xs ≡ false) → length (x ∷ xs) ≤ position_or_len p (x ∷ xs) → list_any p (x ∷ xs) ≡ false
none-by p x xs true e more h = let t : position_or_len p (x ∷ xs) ≡ 0 = rw e refl in absurd (omega arith)
none-by p x xs false e more h = let t : position_or_len p (x ∷ xs) ≡ 1 + position_or_len p xs = rw e refl in rw e (more (omega arith))

pub none-passes : {X : Type 0} (p : X → Bool) (xs : List X) → length xs ≤ position_or_len p xs → list_any p xs ≡ false
none-passes p [] h = refl
none-passes p (x ∷ xs) h = none-by p x xs (p x) refl (none-passes p xs) h

some-when : (b : Bool) (n : ℕ) → is_some (cond b (Some n) None) ≡ b
some-when true n = refl
some-when false n = refl

lt-zero : (n : ℕ) → ltb 0 (suc n) ≡ true
lt-zero n = grind (arith, nat_tests)

lt-next : (m n : ℕ) → ltb (1 + m) (suc n) ≡ ltb m n
lt-next m n = grind (arith, nat_tests)

any-by : {X : Type 0} (p : X → Bool) → (x : X) (xs : List X) (b : Bool) → p x ≡ b → ltb (position_or_len p xs) (length xs) ≡ list_any p xs → ltb (position_or_len p (x ∷ xs)) (length (x ∷ xs)) ≡ list_any p (x ∷ xs)
any-by p x xs true e more = rw e (lt-zero (length xs))
any-by p x xs false e more = rw e (lt-next (position_or_len p xs) (length xs) ∙ more)

any-below : {X : Type 0} (p : X → Bool) → (xs : List X) → ltb (position_or_len p xs) (length xs) ≡ list_any p xs
any-below p [] = refl
any-below p (x ∷ xs) = any-by p x xs (p x) refl (any-below p xs)

any-at : {X : Type 0} (p : X → Bool) → (xs : List X) → is_some (position p xs) ≡ list_any p xs
any-at p xs = some-when (ltb (position_or_len p xs) (length xs)) (position_or_len p xs) ∙ any-below p xs

-- ---- lists whose elements have names: what is found by name is so by its place among the names

module _ {X : Type 0} (key : X → List ℕ) (name : List ℕ) (names : List (List ℕ)) (xs : List X) (index : names ≡ map key xs) where
  abbrev test : X → Bool
  test x = is_name name (key x)

  pub same-place : position (is_name name) names ≡ position test xs
  same-place = rw index (sym (position-same key test (is_name name) (λ x. refl) xs))

  pub any-name : list_any (is_name name) names ≡ list_any test xs
  any-name = rw index (sym (list_any-same key test (is_name name) (λ x. refl) xs))

  pub has-name : is_some (position (is_name name) names) ≡ list_any test xs
  has-name = ap is_some same-place ∙ any-at test xs

-- another element of the same name in its place
pub same-names : {X : Type 0} (key : X → List ℕ) (names : List (List ℕ)) (xs : List X) → names ≡ map key xs → (i : ℕ) (x y : X) → x ≡ get_or xs i x → key y ≡ key x → names ≡ map key (set xs i y)
same-names key names xs index i x y g k = index ∙ sym (map-set_same key xs i y x (k ∙ ap key g))

-- one more element, whose name is new
pub push-kept : {X : Type 0} (key : X → List ℕ) (names more : List (List ℕ)) (name : List ℕ) (xs ys : List X) (x : X) → names ≡ map key xs → AreNew names → list_any (is_name name) names ≡ false → more ≡ names ++ name ∷ [] → ys ≡ xs ++ x ∷ [] → name ≡ key x → (more ≡ map key ys) × AreNew more
push-kept key names more name xs ys x index all new e f k =
    let one : map key ys ≡ map key xs ++ key x ∷ [] = ap (map key) f ∙ map-append key xs (x ∷ []) in
    (e ∙ (rw (index, k) (sym one)), rw e (AreNew-push names name all new))

-- a name is none before it
pub new-at : {X : Type 0} (key : X → List ℕ) (xs : List X) (i : ℕ) (x : X) → AreNew (map key xs) → i < length xs → x ≡ get_or xs i x → list_any (λ y. bytes_eq (key y) (key x)) (take i xs) ≡ false
new-at key xs i x new h e =
    let within : i < length (map key xs) = omega (arith, length-map xs key) in
    let name : get_or (map key xs) i [] ≡ key x = get_or-map key xs i x [] h ∙ ap key (sym e) in
    list_any-same key (λ y. bytes_eq (key y) (key x)) (is_name (key x)) (λ y. refl) (take i xs) ∙ (rw (← take-map key i xs, ← name) (new i within))
