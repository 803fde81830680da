-- The column whose lines may go on is one of the columns.
use Rattle.std.proofs.Common.{◌≡◌, ◌∙◌, ℕ, ◌||◌, Bool, true, false, List, [], ◌∷◌, ◌++◌, Some, None, refl}
use Rattle.std.specs.declared.option.Option.{Option}
use Rattle.std.specs.List.{list_any}
use Rattle.std.proofs.lemmas.Slice.Eq.{bytes_eq-Decides}
use Rattle.rational.specs.Rational.{Rational}
use Rattle.milp.specs.Problem.{Column}
use Rattle.model_text.specs.Columns.{is_column_named, new_column}
use Rattle.mps_draft.specs.declared.bound.BoundKind.{BoundKind}
use Rattle.mps_draft.specs.Bounds.{bounded}
use Rattle.mps_draft.specs.Consistent.{IsDeclared}
use Rattle.mps_draft.specs.Declaration.{with_first_changed}
use Rattle.mps_draft.proofs.Bounded.{bounded-name}
use Rattle.mps_draft.proofs.Kept.{either}

or-true : (b : Bool) → (b || true) ≡ true
or-true true = refl
or-true false = refl

-- a new column
pub last-there : (name : List ℕ) (integer : Bool) (columns : List Column) → list_any (is_column_named name) (columns ++ new_column name integer ∷ []) ≡ true
last-there name integer [] = rw ((bytes_eq-Decides name name).1 refl) refl
last-there name integer (c ∷ columns) = rw (last-there name integer columns) (or-true (is_column_named name c))

any-changed : {X : Type 0} (p q : X → Bool) (f : X → X) → ((x : X) → p (f x) ≡ p x) → (xs : List X) → list_any p (with_first_changed q f xs) ≡ list_any p xs
any-changed p q f same [] = refl
any-changed {X} p q f same (x ∷ xs) = let e = any-changed p q f same xs in either (λ (ys : List X). list_any p ys ≡ list_any p (x ∷ xs)) (q x) (f x ∷ xs) (x ∷ with_first_changed q f xs) (rw (same x) refl) (rw e refl)

-- a bound of a column
pub bound-keeps : (current : Option (List ℕ)) (name : List ℕ) (kind : BoundKind) (v : Rational) (columns : List Column) → IsDeclared current columns → IsDeclared current (with_first_changed (is_column_named name) (bounded kind v) columns)
bound-keeps None name kind v columns declared = tt
bound-keeps (Some there) name kind v columns declared = any-changed (is_column_named there) (is_column_named name) (bounded kind v) (λ c. rw (bounded-name kind v c) refl) columns ∙ declared
