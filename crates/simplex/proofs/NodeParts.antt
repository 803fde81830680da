-- The system of a node, from its parts.
use Rattle.std.proofs.Common.{◌≡◌, ◌∙◌, ℕ, zero, suc, ◌+◌, ◌<◌, ◌&&◌, nat_le, nat_lt, not, List, [], ◌∷◌, ◌++◌, length, map, drop, refl, sym, ap, arith, true, Option, Some, IfSome, slice_get}
use Rattle.std.specs.Prelude.{option_and_then}
use Rattle.std.specs.List.{list_all, AllByRecursion}
use Rattle.std.proofs.lemmas.Bool.{and_parts, leb-true}
use Rattle.std.proofs.lemmas.List.{drop_all}
use Rattle.rational.specs.Rational.{Rational}
use Rattle.milp.specs.Form.{Entry}
use Rattle.milp.specs.declared.Direction.{Direction}
use mathlib.Core.Path.{ap₂}
use Rattle.milp.specs.Problem.{Column, Row, Problem}
use Rattle.milp.specs.Points.{sign_of}
use Rattle.verdicts.specs.WeightedSums.{scaled}
use Rattle.verdicts.specs.Certificate.{Side, Derived}
use Rattle.certificate.specs.Written.{count_max, IsDerived}
use Rattle.rational.specs.Compare.{is_zero}
use Rattle.instance.specs.WellFormed.{are_entries_from, IsWellFormed}
use Rattle.basis.specs.System.{Bounds}
use Rattle.basis.specs.Node.{column_bounds, row_bounds, derived_bounds, system_of}
use Rattle.dictionary.specs.Ascending.{IsAscending, AreAscending}
use Rattle.simplex.specs.Bounds as B

-- ---- its parts

pub drop_at : {X : Type 0} (xs : List X) (i : ℕ) → i < length xs → (x : X) × (slice_get xs i ≡ Some x) × (drop i xs ≡ x ∷ drop (suc i) xs)
drop_at [] i h = absurd (omega arith)
drop_at (x ∷ xs) zero h = (x, refl, refl)
drop_at (x ∷ xs) (suc i) h = drop_at xs i (omega arith)

columns_from : (p : Problem) (j count : ℕ) → j + count ≡ length p.columns → column_bounds p [] j count ≡ map B.column_bounds (drop j p.columns)
columns_from p j zero h = sym (ap (map B.column_bounds) (drop_all j p.columns (omega arith)))
columns_from p j (suc count) h =
    let here = drop_at p.columns j (omega arith) in
    ap (λ (o : Option Column). record { lower = option_and_then (λ (c : Column). c.lower) o; upper = option_and_then (λ (c : Column). c.upper) o } ∷ column_bounds p [] (suc j) count) here.1
    ∙ ap (λ (rest : List Bounds). B.column_bounds here.0 ∷ rest) (columns_from p (suc j) count (omega arith))
    ∙ sym (ap (map B.column_bounds) here.2)

pub columns_alone : (p : Problem) → map B.column_bounds p.columns ≡ column_bounds p [] 0 (length p.columns)
columns_alone p = sym (columns_from p 0 (length p.columns) (omega arith))

pub is_made : (p : Problem) (ds : List Derived) (sides : List Side) (columns : List Column) (form : List Entry) (direction : Direction) (rows : List Row) (more : List Derived) (forms : List (List Entry)) (bounds : List Bounds) (objective : List Entry)
    → columns ≡ p.columns → rows ≡ p.rows → more ≡ ds → form ≡ p.objective → direction ≡ p.direction
    → forms ≡ map (λ (r : Row). r.entries) rows ++ map (λ (d : Derived). d.form) more
    → bounds ≡ column_bounds p sides 0 (length p.columns) ++ (map row_bounds p.rows ++ map derived_bounds ds) → objective ≡ scaled (sign_of direction) form
    → record { columns = length columns; forms = forms; bounds = bounds; objective = objective } ≡ system_of p ds sides
is_made p ds sides columns form direction rows more forms bounds objective a b c d e f g h =
    let k : forms ≡ map (λ (r : Row). r.entries) p.rows ++ map (λ (d : Derived). d.form) ds = f ∙ ap₂ (λ (rs : List Row) (es : List Derived). map (λ (r : Row). r.entries) rs ++ map (λ (d : Derived). d.form) es) b c in
    let m : objective ≡ scaled (sign_of p.direction) p.objective = h ∙ ap₂ (λ (w : Direction) (es : List Entry). scaled (sign_of w) es) e d in
    rw (a, k, g, m) refl

-- ---- its forms are ascending

ascending : (n least : ℕ) (form : List Entry) → are_entries_from least n form ≡ true → IsAscending least form
ascending n least [] h = tt
ascending n least (e ∷ es) h =
    let low = and_parts (nat_le least e.column) (nat_lt e.column n && (not (is_zero e.coefficient) && are_entries_from (e.column + 1) n es)) h in
    let column = and_parts (nat_lt e.column n) (not (is_zero e.coefficient) && are_entries_from (e.column + 1) n es) low.1 in
    let rest = and_parts (not (is_zero e.coefficient)) (are_entries_from (e.column + 1) n es) column.1 in
    (leb-true least e.column low.0, ascending n (e.column + 1) es rest.1)

scaled_ascending : (w : Rational) (least : ℕ) (form : List Entry) → IsAscending least form → IsAscending least (scaled w form)
scaled_ascending w least [] h = tt
scaled_ascending w least (e ∷ es) h = (h.0, scaled_ascending w (e.column + 1) es h.1)

derived_ascending : (ds : List Derived) → AllByRecursion IsDerived ds → (k : ℕ) → IfSome (slice_get (map (λ (d : Derived). d.form) ds) k) (IsAscending 0)
derived_ascending [] h k = tt
derived_ascending (d ∷ ds) h zero = ascending count_max 0 d.form h.0.form.entries
derived_ascending (d ∷ ds) h (suc k) = derived_ascending ds h.1 k

rows_ascending : (n : ℕ) (rows : List Row) (rest : List (List Entry)) → list_all (λ (r : Row). are_entries_from 0 n r.entries) rows ≡ true → ((k : ℕ) → IfSome (slice_get rest k) (IsAscending 0))
    → (i : ℕ) → IfSome (slice_get (map (λ (r : Row). r.entries) rows ++ rest) i) (IsAscending 0)
rows_ascending n [] rest h k i = k i
rows_ascending n (r ∷ rows) rest h k zero = let parts = and_parts (are_entries_from 0 n r.entries) (list_all (λ (s : Row). are_entries_from 0 n s.entries) rows) h in ascending n 0 r.entries parts.0
rows_ascending n (r ∷ rows) rest h k (suc i) = let parts = and_parts (are_entries_from 0 n r.entries) (list_all (λ (s : Row). are_entries_from 0 n s.entries) rows) h in rows_ascending n rows rest parts.1 k i

pub are_ascending : (p : Problem) (ds : List Derived) (sides : List Side) → IsWellFormed p.columns p.rows p.objective → AllByRecursion IsDerived ds → AreAscending (system_of p ds sides)
are_ascending p ds sides h k = record {
  forms = rows_ascending (length p.columns) p.rows (map (λ (d : Derived). d.form) ds) h.row_forms (derived_ascending ds k);
  objective = scaled_ascending (sign_of p.direction) 0 p.objective (ascending (length p.columns) 0 p.objective h.objective_form);
}
