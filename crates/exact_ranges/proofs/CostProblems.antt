-- The parts that are made for a cost's end are those of its auxiliary problem.
use Rattle.std.proofs.Common.{◌≡◌, ◌∙◌, ◌+◌, ◌<◌, ◌≤◌, ◌==◌, cond, if◌then◌else◌, ℕ, zero, suc, Bool, true, false, List, [], ◌∷◌, ◌++◌, length, refl, sym, ap, subst, Some, None, IsTrue, arith}
use Rattle.std.proofs.lemmas.Bool.{and_from}
use Rattle.rational.specs.Rational.{Rational, zero_ℚ, one_ℚ, neg_ℚ, ◌*ℚ◌}
use Rattle.rational.specs.Compare.{is_zero}
use Rattle.milp.specs.Form.{Entry}
use Rattle.milp.specs.Problem.{Column, Row, Problem}
use Rattle.milp.specs.declared.Direction.{Direction}
use Rattle.milp.specs.declared.Direction.TheVariants.{Min, Max}
use Rattle.milp.specs.Points.{sign_of}
use Rattle.verdicts.specs.WeightedSums.{coefficient_of}
use Rattle.instance.specs.WellFormed.{are_entries_from, are_entries}
use Rattle.branch_search.specs.Plain.{NoneInteger}
use Rattle.ranging.specs.PlaceNames.{column_name, row_name, named_columns, named_rows}
use Rattle.ranging.specs.TightBounds.{tight_forms}
use Rattle.ranging.specs.CostAuxiliary.{entry_unless_zero, coefficients_at, cost_row, cost_rows, weight_columns, cost_auxiliary}
use Rattle.exact_ranges.specs.Reached.{reached}
use Rattle.exact_ranges.specs.CostParts.{weights_for, cost_columns, entries_from, at_column, table_from, row_at, rows_from}
use Rattle.exact_ranges.specs.Parts.{AreForms, problem_of}
use Rattle.exact_ranges.proofs.Entries.{from_lower, one_before}
use Rattle.exact_ranges.proofs.ReachedForms.{reached_tight}

-- ---- what the forms have at a column

put_before : (i : ℕ) (c : Rational) (es : List Entry) → entry_unless_zero i c [] ++ es ≡ entry_unless_zero i c es
put_before i c es = go (is_zero c)
  where
    go : (b : Bool) → (if b then [] else record { column = i; coefficient = c } ∷ []) ++ es ≡ (if b then es else record { column = i; coefficient = c } ∷ es)
    go true = refl
    go false = refl

pub entries_are : (k i : ℕ) (fs : List (List Entry)) → entries_from k i fs ≡ coefficients_at k i fs
entries_are k i [] = refl
entries_are k i (f ∷ fs) =
    let on : i + 1 ≡ suc i = omega arith in
    put_before i (coefficient_of f k) (entries_from k (i + 1) fs) ∙ ap (entry_unless_zero i (coefficient_of f k)) (entries_are k (i + 1) fs ∙ ap (λ n. coefficients_at k n fs) on)

-- ---- the columns

abbrev weight_at : ℕ → Column
weight_at i = record { name = column_name i; lower = Some zero_ℚ; upper = None; integer = false }

abbrev first_column : Column
first_column = record { name = column_name 0; lower = None; upper = None; integer = false }

weights_named : (i : ℕ) (fs : List (List Entry)) → named_columns i (weights_for fs) ≡ weight_columns i fs
weights_named i [] = refl
weights_named i (f ∷ fs) = ap (λ cs. weight_at i ∷ cs) (weights_named (suc i) fs)

-- ---- the rows

abbrev row_with : Problem → ℕ → ℕ → List Entry → Row
row_with p j k es = record {
  name = row_name k;
  lower = Some (cond (k == j) zero_ℚ (sign_of p.direction *ℚ coefficient_of p.objective k));
  upper = Some (cond (k == j) zero_ℚ (sign_of p.direction *ℚ coefficient_of p.objective k));
  entries = entry_unless_zero 0 (cond (k == j) (neg_ℚ (sign_of p.direction)) zero_ℚ) es;
}

rows_named : (p : Problem) (x : List Rational) (j k : ℕ) (cs : List Column) → named_rows k (rows_from p.direction j k (table_from p (tight_forms p x) k cs)) ≡ cost_rows p x j k (length cs)
rows_named p x j k [] = refl
rows_named p x j k (c ∷ cs) =
    let on : k + 1 ≡ suc k = omega arith in
    let fs = tight_forms p x in
    let first : record (row_at p.direction j k (at_column p fs k)) { name = row_name k } ≡ cost_row p x j k = ap (row_with p j k) (entries_are k 1 fs) in
    let rest : named_rows (suc k) (rows_from p.direction j (k + 1) (table_from p fs (k + 1) cs)) ≡ cost_rows p x j (suc k) (length cs) = ap (λ n. named_rows (suc k) (rows_from p.direction j n (table_from p fs n cs))) on ∙ rows_named p x j (suc k) cs in
    ap (λ r. r ∷ named_rows (suc k) (rows_from p.direction j (k + 1) (table_from p fs (k + 1) cs))) first ∙ ap (λ rs. cost_row p x j k ∷ rs) rest

-- ---- the problem

abbrev with_parts : Direction → List Column → List Row → Problem
with_parts wanted cs rs = record {
  columns = cs;
  rows = rs;
  direction = wanted;
  objective_name = [];
  objective = record { column = 0; coefficient = one_ℚ } ∷ [];
  constant = zero_ℚ;
}

pub is_auxiliary : (p : Problem) (x : List Rational) (j : ℕ) (wanted : Direction) (cs : List Column) (rs : List Row)
    → cs ≡ cost_columns (reached p x) → rs ≡ rows_from p.direction j 0 (table_from p (reached p x) 0 p.columns)
    → problem_of cs rs wanted 0 ≡ cost_auxiliary p x j wanted
is_auxiliary p x j wanted cs rs is_cs is_rs =
    let fs = tight_forms p x in
    let columns : named_columns 0 cs ≡ first_column ∷ weight_columns 1 fs = ap (named_columns 0) (is_cs ∙ ap cost_columns (reached_tight p x)) ∙ ap (λ ds. first_column ∷ ds) (weights_named 1 fs) in
    let rows : named_rows 0 rs ≡ cost_rows p x j 0 (length p.columns) = ap (named_rows 0) (is_rs ∙ ap (λ gs. rows_from p.direction j 0 (table_from p gs 0 p.columns)) (reached_tight p x)) ∙ rows_named p x j 0 p.columns in
    ap (λ ds. with_parts wanted ds (named_rows 0 rs)) columns ∙ ap (with_parts wanted (first_column ∷ weight_columns 1 fs)) rows

-- ---- it is well formed

weight_count : (fs : List (List Entry)) → length (weights_for fs) ≡ length fs
weight_count [] = refl
weight_count (f ∷ fs) = ap suc (weight_count fs)

entries_ordered : (k i n : ℕ) (fs : List (List Entry)) → i + length fs ≤ n → IsTrue (are_entries_from i n (entries_from k i fs))
entries_ordered k i n [] h = refl
entries_ordered k i n (f ∷ fs) h =
    let c = coefficient_of f k in
    let rest : IsTrue (are_entries_from (i + 1) n (entries_from k (i + 1) fs)) = entries_ordered k (i + 1) n fs (omega arith) in
    subst (λ es. IsTrue (are_entries_from i n es)) (sym (put_before i c (entries_from k (i + 1) fs))) (go c (is_zero c) refl rest)
  where
    go : (c : Rational) (b : Bool) → is_zero c ≡ b → IsTrue (are_entries_from (i + 1) n (entries_from k (i + 1) fs)) → IsTrue (are_entries_from i n (entry_unless_zero i c (entries_from k (i + 1) fs)))
    go c true e r = rw e (from_lower i (i + 1) n (entries_from k (i + 1) fs) (omega arith) r)
    go c false e r = rw e (one_before i n i c (entries_from k (i + 1) fs) (omega arith) (omega arith) e r)

sign_not_zero : (d : Direction) → is_zero (neg_ℚ (sign_of d)) ≡ false
unfolding neg_ℚ
sign_not_zero Min = refl
sign_not_zero Max = refl

row_ordered : (d : Direction) (b : Bool) (n : ℕ) (es : List Entry) → 0 < n → IsTrue (are_entries_from 1 n es) → IsTrue (are_entries n (entry_unless_zero 0 (cond b (neg_ℚ (sign_of d)) zero_ℚ) es))
row_ordered d true n es some h = rw (sign_not_zero d) (one_before 0 n 0 (neg_ℚ (sign_of d)) es (omega arith) some (sign_not_zero d) h)
row_ordered d false n es some h = from_lower 0 1 n es (omega arith) h

rows_ordered : (p : Problem) (fs : List (List Entry)) (j k n : ℕ) (cs : List Column) → 1 + length fs ≤ n → AreForms n (rows_from p.direction j k (table_from p fs k cs))
rows_ordered p fs j k n [] h = refl
rows_ordered p fs j k n (c ∷ cs) h = and_from _ _ (row_ordered p.direction (k == j) n (entries_from k 1 fs) (omega arith) (entries_ordered k 1 n fs h)) (rows_ordered p fs j (k + 1) n cs h)

pub are_forms : (p : Problem) (x : List Rational) (j : ℕ) (cs : List Column) (rs : List Row)
    → cs ≡ cost_columns (reached p x) → rs ≡ rows_from p.direction j 0 (table_from p (reached p x) 0 p.columns)
    → AreForms (length cs) rs
are_forms p x j cs rs is_cs is_rs =
    let count = weight_count (reached p x) in
    rw (is_cs, is_rs) (rows_ordered p (reached p x) j 0 (suc (length (weights_for (reached p x)))) p.columns (omega (arith, count)))

pub has_first : (fs : List (List Entry)) (cs : List Column) → cs ≡ cost_columns fs → 0 < length cs
has_first fs cs is = rw is (omega arith)

none_integer : (i : ℕ) (fs : List (List Entry)) → NoneInteger (weight_columns i fs)
none_integer i [] j = tt
none_integer i (f ∷ fs) zero = refl
none_integer i (f ∷ fs) (suc j) = none_integer (suc i) fs j

pub auxiliary_continuous : (p : Problem) (x : List Rational) (j : ℕ) (wanted : Direction) → NoneInteger (cost_auxiliary p x j wanted).columns
auxiliary_continuous p x j wanted zero = refl
auxiliary_continuous p x j wanted (suc k) = none_integer 1 (tight_forms p x) k
