-- The element at a place, changed.
use Rattle.std.proofs.Common.{◌≡◌, ◌∙◌, ℕ, zero, suc, ◌+◌, ◌<◌, ◌≤◌, List, [], ◌∷◌, length, get_or, set, slice_get, Some, sym, ap, refl, arith}
use Rattle.std.proofs.lemmas.Option.{slice_get-get_or}
use Rattle.std.specs.List.{All}
use Rattle.std.proofs.lemmas.List.Elements.{All-cons, All-head, All-tail}
use Rattle.milp.specs.Problem.{Row, Column}
use Rattle.cplex_lp_draft.specs.declared.column_change.ColumnChange.{ColumnChange}
use Rattle.cplex_lp_draft.specs.declared.column_change.ColumnChange.TheVariants.{Kept, Bounded, Freed, MadeInteger, MadeBinary}
use Rattle.cplex_lp_tokens.specs.declared.token.Relation.TheVariants.{AtMost, AtLeast, Exactly}
use Rattle.cplex_lp_draft.specs.Declaration.{with_changed}
use Rattle.cplex_lp_draft.specs.Changes.{changed}
use Rattle.cplex_lp_draft.specs.Rows.{entry_count}

changed-get : {X : Type 0} (place : ℕ) (f : X → X) (xs : List X) (d : X) → place < length xs → with_changed place f xs ≡ set xs place (f (get_or xs place d))
changed-get place f [] d h = absurd (omega arith)
changed-get zero f (x ∷ xs) d h = refl
changed-get (suc place) f (x ∷ xs) d h = ap (λ ys. x ∷ ys) (changed-get place f xs d (omega arith))

pub changed-at : {X : Type 0} (place : ℕ) (f : X → X) (xs : List X) (x : X) → place < length xs → x ≡ get_or xs place x → with_changed place f xs ≡ set xs place (f x)
changed-at place f xs x h e = changed-get place f xs x h ∙ ap (λ y. set xs place (f y)) (sym e)

pub changed-got : {X : Type 0} (place : ℕ) (f : X → X) (xs : List X) (x : X) → place < length xs → slice_get xs place ≡ Some x → with_changed place f xs ≡ set xs place (f x)
changed-got place f xs x h g = let here : Some (get_or xs place x) ≡ Some x = sym (slice_get-get_or xs place x h) ∙ g in let same : x ≡ get_or xs place x = cc in changed-at place f xs x h same

pub changed-past : {X : Type 0} (place : ℕ) (f : X → X) (xs : List X) → length xs ≤ place → with_changed place f xs ≡ xs
changed-past place f [] h = refl
changed-past zero f (x ∷ xs) h = absurd (omega arith)
changed-past (suc place) f (x ∷ xs) h = ap (λ ys. x ∷ ys) (changed-past place f xs (omega arith))

pub length-changed : {X : Type 0} (place : ℕ) (f : X → X) (xs : List X) → length (with_changed place f xs) ≡ length xs
length-changed place f [] = refl
length-changed zero f (x ∷ xs) = refl
length-changed {X} (suc place) f (x ∷ xs) = let e = length-changed place f xs in omega arith

pub All-changed : {X : Type 0} (P : X → Type 0) (place : ℕ) (f : X → X) → ((x : X) → P x → P (f x)) → (xs : List X) → All P xs → All P (with_changed place f xs)
All-changed P place f keeps [] a = a
All-changed P zero f keeps (x ∷ xs) a = All-cons P (f x) xs (keeps x (All-head P x xs a)) (All-tail P x xs a)
All-changed P (suc place) f keeps (x ∷ xs) a = All-cons P x (with_changed place f xs) (All-head P x xs a) (All-changed P place f keeps xs (All-tail P x xs a))

-- a changed column keeps its name
pub changed-name : (change : ColumnChange) (c : Column) → (changed change c).name ≡ c.name
changed-name Kept c = refl
changed-name (Bounded AtMost limit) c = refl
changed-name (Bounded AtLeast limit) c = refl
changed-name (Bounded Exactly limit) c = refl
changed-name Freed c = refl
changed-name MadeInteger c = refl
changed-name MadeBinary c = refl

-- ---- the entries of rows

-- a row in another's place
pub count-set : (rs : List Row) (i : ℕ) (r d : Row) → i < length rs → entry_count (set rs i r) + length (get_or rs i d).entries ≡ entry_count rs + length r.entries
count-set [] i r d h = absurd (omega arith)
count-set (q ∷ rs) zero r d h = omega arith
count-set (q ∷ rs) (suc i) r d h = let e = count-set rs i r d (omega arith) in omega arith

pub count-least : (rs : List Row) (i : ℕ) (d : Row) → i < length rs → length (get_or rs i d).entries ≤ entry_count rs
count-least [] i d h = absurd (omega arith)
count-least (q ∷ rs) zero d h = omega arith
count-least (q ∷ rs) (suc i) d h = let e = count-least rs i d (omega arith) in omega arith
