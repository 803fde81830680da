-- The columns and rows of a problem with columns for forms, by their places.
use Rattle.std.proofs.Common.{◌≡◌, ◌∙◌, ℕ, zero, suc, ◌+◌, ◌-◌, ◌<◌, ◌≤◌, List, [], ◌∷◌, ◌++◌, map, refl, ap, Option, Some, None, IfSome, slice_get, length, arith}
use Rattle.std.specs.Prelude.{option_map, get_or}
use Rattle.std.proofs.lemmas.Option.{slice_get-map}
use Rattle.std.proofs.lemmas.List.{length-map}
use Rattle.milp.specs.Form.{Entry}
use Rattle.milp.specs.Problem.{Column, Row, Problem}
use Rattle.row_columns.specs.Extended.{moved_row, IsFormColumn, AreFormColumns, IsTyingRow, AreTyingRows, IsExtended}

pub get_front : {T : Type 0} (xs ys : List T) (k : ℕ) → k < length xs → slice_get (xs ++ ys) k ≡ slice_get xs k
get_front [] ys k h = absurd (omega arith)
get_front (x ∷ xs) ys zero h = refl
get_front (x ∷ xs) ys (suc k) h = get_front xs ys k (omega arith)

pub get_behind : {T : Type 0} (xs ys : List T) (k : ℕ) → length xs ≤ k → slice_get (xs ++ ys) k ≡ slice_get ys (k - length xs)
get_behind [] ys k h = let e : k ≡ k - 0 = omega arith in ap (slice_get ys) e
get_behind (x ∷ xs) ys zero h = absurd (omega arith)
get_behind (x ∷ xs) ys (suc k) h = let e : k - length xs ≡ suc k - suc (length xs) = omega arith in get_behind xs ys k (omega arith) ∙ ap (slice_get ys) e

-- ---- columns

pub as_many_columns : (forms : List (List Entry)) (columns : List Column) → AreFormColumns forms columns → length columns ≡ length forms
as_many_columns [] columns h = ap length h
as_many_columns (form ∷ forms) [] h = absurd h
as_many_columns (form ∷ forms) (c ∷ columns) h = ap suc (as_many_columns forms columns h.1)

form_column : (forms : List (List Entry)) (columns : List Column) → AreFormColumns forms columns → (j : ℕ) → IfSome (slice_get columns j) (λ c. IsFormColumn c)
form_column [] columns h j = rw h tt
form_column (form ∷ forms) [] h j = absurd h
form_column (form ∷ forms) (c ∷ columns) h zero = h.0
form_column (form ∷ forms) (c ∷ columns) h (suc j) = form_column forms columns h.1 j

pub column_of_form : (p q : Problem) (forms : List (List Entry)) → IsExtended p forms q → (j : ℕ) → j < length forms → IfSome (slice_get q.columns j) (λ c. IsFormColumn c)
column_of_form p q forms h j k =
    let many = as_many_columns forms h.columns h.are_columns in
    let e = ap (λ cs. slice_get cs j) h.all_columns ∙ get_front h.columns p.columns j (omega arith) in
    rw e (form_column forms h.columns h.are_columns j)

pub column_of_problem : (p q : Problem) (forms : List (List Entry)) → IsExtended p forms q → (j : ℕ) → length forms ≤ j → slice_get q.columns j ≡ slice_get p.columns (j - length forms)
column_of_problem p q forms h j k =
    let many = as_many_columns forms h.columns h.are_columns in
    ap (λ cs. slice_get cs j) h.all_columns ∙ get_behind h.columns p.columns j (omega arith) ∙ ap (λ n. slice_get p.columns (j - n)) many

-- ---- rows

pub row_of_problem : (p q : Problem) (forms : List (List Entry)) → IsExtended p forms q → (i : ℕ) → i < length p.rows → slice_get q.rows i ≡ option_map (moved_row (length forms)) (slice_get p.rows i)
row_of_problem p q forms h i k =
    let many = length-map p.rows (moved_row (length forms)) in
    ap (λ rs. slice_get rs i) h.all_rows ∙ get_front (map (moved_row (length forms)) p.rows) h.rows i (omega arith) ∙ slice_get-map (moved_row (length forms)) p.rows i

-- the row ties the column j
pub record Ties (forms : List (List Entry)) (j : ℕ) (r : Row) : Type 0 where
  pub within : j < length forms
  pub tying : IsTyingRow (length forms) j (get_or forms j []) r

abbrev TiesBehind : ℕ → ℕ → List (List Entry) → ℕ → Row → Type 0
TiesBehind count first forms m r = (m < length forms) × IsTyingRow count (first + m) (get_or forms m []) r

tying_at : (count first : ℕ) (forms : List (List Entry)) (rows : List Row) → AreTyingRows count first forms rows → (m : ℕ) → IfSome (slice_get rows m) (TiesBehind count first forms m)
tying_at count first [] rows h m = rw h tt
tying_at count first (form ∷ forms) [] h m = absurd h
tying_at count first (form ∷ forms) (r ∷ rows) h zero = let e : first ≡ first + 0 = omega arith in (omega arith, rw (← e) h.0)
tying_at count first (form ∷ forms) (r ∷ rows) h (suc m) = later (slice_get rows m) (tying_at count (suc first) forms rows h.1 m)
  where
    later : (o : Option Row) → IfSome o (TiesBehind count (suc first) forms m) → IfSome o (TiesBehind count first (form ∷ forms) (suc m))
    later None k = tt
    later (Some r) k = let low = k.0 in let e : suc first + m ≡ first + suc m = omega arith in (omega arith, rw e at k.1)

pub row_of_form : (p q : Problem) (forms : List (List Entry)) → IsExtended p forms q → (i : ℕ) → length p.rows ≤ i → IfSome (slice_get q.rows i) (λ r. Ties forms (i - length p.rows) r)
row_of_form p q forms h i k =
    let many = length-map p.rows (moved_row (length forms)) in
    let e = ap (λ rs. slice_get rs i) h.all_rows ∙ get_behind (map (moved_row (length forms)) p.rows) h.rows i (omega arith) ∙ ap (λ n. slice_get h.rows (i - n)) many in
    rw e (from_first (slice_get h.rows (i - length p.rows)) (tying_at (length forms) 0 forms h.rows h.are_rows (i - length p.rows)))
  where
    from_first : (o : Option Row) → IfSome o (TiesBehind (length forms) 0 forms (i - length p.rows)) → IfSome o (λ r. Ties forms (i - length p.rows) r)
    from_first None t = tt
    from_first (Some r) t = let e : 0 + (i - length p.rows) ≡ i - length p.rows = omega arith in record { within = t.0; tying = rw e at t.1 }
