-- The columns and rows of a problem with cuts as rows, by their places.
use Rattle.std.proofs.Common.{◌≡◌, ◌∙◌, ℕ, zero, suc, ◌-◌, ◌<◌, ◌≤◌, List, [], ◌∷◌, ◌&&◌, refl, ap, Option, Some, None, slice_get, length}
use Rattle.rational.specs.Compare.{is_whole}
use Rattle.milp.specs.Form.{Entry}
use Rattle.milp.specs.Problem.{Column, Row, Problem}
use Rattle.verdicts.specs.Certificate.{Derived}
use Rattle.verdicts.specs.Proves.{is_integer, is_whole_form}
use Rattle.row_columns.proofs.ExtendedParts.{get_front, get_behind}
use Rattle.cut_rows.specs.CutProblem.{IsCutRow, AreCutRows, IsCutProblem}

pub row_of_problem : (p q : Problem) (cuts : List Derived) → IsCutProblem p cuts q → (i : ℕ) → i < length p.rows → slice_get q.rows i ≡ slice_get p.rows i
row_of_problem p q cuts h i k = ap (λ rs. slice_get rs i) h.all_rows ∙ get_front p.rows h.rows i k

-- a cut and its row, or neither
abbrev pub IsCutAt : Option Derived → Option Row → Type 0
IsCutAt None None = Unit {0}
IsCutAt None (Some r) = ⊥
IsCutAt (Some d) None = ⊥
IsCutAt (Some d) (Some r) = IsCutRow d r

cut_at : (cuts : List Derived) (rows : List Row) → AreCutRows cuts rows → (m : ℕ) → IsCutAt (slice_get cuts m) (slice_get rows m)
cut_at [] rows h m = rw h tt
cut_at (d ∷ cuts) [] h m = absurd h
cut_at (d ∷ cuts) (r ∷ rows) h zero = h.0
cut_at (d ∷ cuts) (r ∷ rows) h (suc m) = cut_at cuts rows h.1 m

pub row_of_cut : (p q : Problem) (cuts : List Derived) → IsCutProblem p cuts q → (i : ℕ) → length p.rows ≤ i → IsCutAt (slice_get cuts (i - length p.rows)) (slice_get q.rows i)
row_of_cut p q cuts h i k =
    let e = ap (λ rs. slice_get rs i) h.all_rows ∙ get_behind p.rows h.rows i k in
    rw e (cut_at cuts h.rows h.are_rows (i - length p.rows))

pub same_whole : (p q : Problem) → q.columns ≡ p.columns → (form : List Entry) → is_whole_form q form ≡ is_whole_form p form
same_whole p q h [] = refl
same_whole p q h (e ∷ es) =
    ap (λ (cs : List Column). (is_whole e.coefficient && is_integer (slice_get cs e.column)) && is_whole_form q es) h
    ∙ ap (λ b. (is_whole e.coefficient && is_integer (slice_get p.columns e.column)) && b) (same_whole p q h es)
