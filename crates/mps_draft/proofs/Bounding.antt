-- The bound of the column of a name.
use Rattle.std.proofs.Common.{◌≡◌, ◌∙◌, ℕ, Bool, true, false, List, map, get_or, set, slice_get, [], Some, None, is_some, Ok, Err, Result, OnErr, ap, sym, refl, subst, if◌then◌else◌, arith}
use Rattle.std.specs.declared.option.Option.{Option}
use Rattle.std.specs.List.{position, list_any}
use Rattle.std.proofs.lemmas.Option.{slice_get-get_or}
use Rattle.rational.specs.Rational.{Rational}
use Rattle.milp.specs.Problem.{Column}
use Rattle.model_text.specs.Columns.{is_column_named, new_column}
use Rattle.model_text.specs.declared.error.ReadError.{ReadError}
use Rattle.model_text.specs.declared.fault.FaultKind.{FaultKind}
use Rattle.model_text.specs.declared.fault.FaultKind.TheVariants.{Unknown}
use Rattle.model_text.specs.Follows.{Follows}
use Rattle.model_text.specs.Steps.{then_do}
use Rattle.model_text.proofs.Laws.{has-name, same-place, place-some}
use Rattle.mps_draft.specs.declared.bound.BoundKind.{BoundKind}
use Rattle.mps_draft.specs.Bounds.{bounded, columns_bounded}
use Rattle.mps_draft.specs.Consistent.{IsConsistent, IsDeclared}
use Rattle.mps_draft.specs.Declaration.{DeclaredRow, with_first_changed}
use Rattle.mps_draft.proofs.Keyed.{changed-got}
use Rattle.mps_draft.proofs.Kept.{columns-keep, length-changed}
use Rattle.mps_draft.proofs.Current.{bound-keeps}
use Rattle.mps_draft.proofs.Taking.{follows-into}

has-place : (name : List ℕ) (columns : List Column) → is_some (position (is_column_named name) columns) ≡ list_any (is_column_named name) columns
has-place name columns = ap is_some (sym (same-place (λ (c : Column). c.name) name (map (λ (c : Column). c.name) columns) columns refl)) ∙ has-name (λ (c : Column). c.name) name (map (λ (c : Column). c.name) columns) columns refl

pub bound-follows : (kind : BoundKind) (name : List ℕ) (number : Result Rational FaultKind) (columns : List Column) (i : ℕ) → position (is_column_named name) columns ≡ Some i → (result : Result (Unit {0}) (ReadError FaultKind)) (new : List Column) → ((column : Column) → slice_get columns i ≡ Some column → Follows result new (then_do (λ v. Ok (set columns i (bounded kind v column))) number)) → Follows result new (columns_bounded kind name number columns)
bound-follows kind name number columns i e result new h =
    let column = get_or columns i (new_column [] false) in
    let here : slice_get columns i ≡ Some column = slice_get-get_or columns i (new_column [] false) (place-some (is_column_named name) columns i e).1 in
    let there : list_any (is_column_named name) columns ≡ true = sym (has-place name columns) ∙ ap is_some e in
    rw there (follows-into (λ v. set columns i (bounded kind v column)) (λ v. with_first_changed (is_column_named name) (bounded kind v) columns) (λ xs. xs) (λ v. changed-got (is_column_named name) (bounded kind v) columns i column e here) number result new (h column here))

pub bound-unknown : (kind : BoundKind) (name : List ℕ) (number : Result Rational FaultKind) (columns : List Column) → position (is_column_named name) columns ≡ None → columns_bounded kind name number columns ≡ Err Unknown
bound-unknown kind name number columns e = let none : list_any (is_column_named name) columns ≡ false = sym (has-place name columns) ∙ ap is_some e in rw none refl

-- what holds of the columns with a bound changed holds of those that are left
bounded-are : (P : List Column → Type 0) (kind : BoundKind) (name : List ℕ) (number : Result Rational FaultKind) (columns new : List Column) (there : Bool) → ((v : Rational) → P (with_first_changed (is_column_named name) (bounded kind v) columns)) → (if there then then_do (λ value. Ok (with_first_changed (is_column_named name) (bounded kind value) columns)) number else Err Unknown) ≡ Ok new → P new
bounded-are P kind name number columns new false all h = absurd cc
bounded-are P kind name (Err fault) columns new true all h = absurd cc
bounded-are P kind name (Ok v) columns new true all h = let e : with_first_changed (is_column_named name) (bounded kind v) columns ≡ new = cc in subst P e (all v)

abbrev pub AreKept : Option DeclaredRow → List DeclaredRow → ℕ → Option (List ℕ) → List Column → Type 0
AreKept objective rows count current columns = IsConsistent objective rows columns count × IsDeclared current columns

pub bounds-keep : (objective : Option DeclaredRow) (rows : List DeclaredRow) (count : ℕ) (current : Option (List ℕ)) (columns : List Column) → AreKept objective rows count current columns → (kind : BoundKind) (name : List ℕ) (number : Result Rational FaultKind) (new : List Column) (result : Result (Unit {0}) (ReadError FaultKind)) → Follows result new (columns_bounded kind name number columns) → OnErr result (new ≡ columns) → AreKept objective rows count current new
bounds-keep objective rows count current columns k kind name number new (Ok u) h kept =
    bounded-are (AreKept objective rows count current) kind name number columns new (list_any (is_column_named name) columns) (λ v. (columns-keep k.0 _ (omega (arith, length-changed (is_column_named name) (bounded kind v) columns)), bound-keeps current name kind v columns k.1)) h
bounds-keep objective rows count current columns k kind name number new (Err error) h kept = rw kept k
