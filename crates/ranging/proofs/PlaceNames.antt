-- Names change no point and no ray of a problem; names by place differ.
use Rattle.std.proofs.Common.{◌≡◌, ◌∙◌, ◌<◌, ◌+◌, ◌^◌, ℕ, zero, suc, Bool, List, [], ◌∷◌, refl, sym, ap, Option, IfSome, IsTrue, slice_get, length, drop, arith}
use Rattle.std.specs.Fmt.{decimal}
use Rattle.std.proofs.lemmas.Fmt.{decimal_injective}
use Rattle.rational.specs.Rational.{Rational}
use Rattle.milp.specs.Form.{Entry, number_at, sum_at}
use Rattle.milp.specs.Problem.{Column, Row, Problem}
use Rattle.milp.specs.Points.{IsWithin, IsHarmless, IsWhole, Feasible, IsOptimal, IsImprovingRay, IsUnbounded}
use Rattle.ranging.specs.PlaceNames.{column_name, row_name, named_columns, named_rows, named_by_place}

-- ---- what is said of bounds and integrality is said of the named columns, and back

columns_named : (F : Option Rational → Option Rational → Bool → Type 0) (k : ℕ) (cs : List Column) (j : ℕ) → IfSome (slice_get cs j) (λ c. F c.lower c.upper c.integer) → IfSome (slice_get (named_columns k cs) j) (λ c. F c.lower c.upper c.integer)
columns_named F k [] j h = tt
columns_named F k (c ∷ cs) zero h = h
columns_named F k (c ∷ cs) (suc j) h = columns_named F (suc k) cs j h

columns_unnamed : (F : Option Rational → Option Rational → Bool → Type 0) (k : ℕ) (cs : List Column) (j : ℕ) → IfSome (slice_get (named_columns k cs) j) (λ c. F c.lower c.upper c.integer) → IfSome (slice_get cs j) (λ c. F c.lower c.upper c.integer)
columns_unnamed F k [] j h = tt
columns_unnamed F k (c ∷ cs) zero h = h
columns_unnamed F k (c ∷ cs) (suc j) h = columns_unnamed F (suc k) cs j h

rows_named : (F : Option Rational → Option Rational → List Entry → Type 0) (k : ℕ) (rs : List Row) (i : ℕ) → IfSome (slice_get rs i) (λ r. F r.lower r.upper r.entries) → IfSome (slice_get (named_rows k rs) i) (λ r. F r.lower r.upper r.entries)
rows_named F k [] i h = tt
rows_named F k (r ∷ rs) zero h = h
rows_named F k (r ∷ rs) (suc i) h = rows_named F (suc k) rs i h

rows_unnamed : (F : Option Rational → Option Rational → List Entry → Type 0) (k : ℕ) (rs : List Row) (i : ℕ) → IfSome (slice_get (named_rows k rs) i) (λ r. F r.lower r.upper r.entries) → IfSome (slice_get rs i) (λ r. F r.lower r.upper r.entries)
rows_unnamed F k [] i h = tt
rows_unnamed F k (r ∷ rs) zero h = h
rows_unnamed F k (r ∷ rs) (suc i) h = rows_unnamed F (suc k) rs i h

length-named : (k : ℕ) (cs : List Column) → length (named_columns k cs) ≡ length cs
length-named k [] = refl
length-named k (c ∷ cs) = ap suc (length-named (suc k) cs)

pub named_feasible : (p : Problem) (x : List Rational) → Feasible p x → Feasible (named_by_place p) x
named_feasible p x f = record {
  relaxed = record {
    size = f.relaxed.size ∙ sym (length-named 0 p.columns);
    columns = λ j. columns_named (λ l u w. IsWithin l u (number_at x j)) 0 p.columns j (f.relaxed.columns j);
    rows = λ i. rows_named (λ l u es. IsWithin l u (sum_at x es)) 0 p.rows i (f.relaxed.rows i);
  };
  integers = λ j. columns_named (λ l u w. IsTrue w → IsWhole (number_at x j)) 0 p.columns j (f.integers j);
}

pub unnamed_feasible : (p : Problem) (x : List Rational) → Feasible (named_by_place p) x → Feasible p x
unnamed_feasible p x f = record {
  relaxed = record {
    size = f.relaxed.size ∙ length-named 0 p.columns;
    columns = λ j. columns_unnamed (λ l u w. IsWithin l u (number_at x j)) 0 p.columns j (f.relaxed.columns j);
    rows = λ i. rows_unnamed (λ l u es. IsWithin l u (sum_at x es)) 0 p.rows i (f.relaxed.rows i);
  };
  integers = λ j. columns_unnamed (λ l u w. IsTrue w → IsWhole (number_at x j)) 0 p.columns j (f.integers j);
}

pub unnamed_optimal : (p : Problem) (x : List Rational) → IsOptimal (named_by_place p) x → IsOptimal p x
unnamed_optimal p x h = record { feasible = unnamed_feasible p x h.feasible; best = λ y f b. h.best y (named_feasible p y f) b }

unnamed_ray : (p : Problem) (r : List Rational) → IsImprovingRay (named_by_place p) r → IsImprovingRay p r
unnamed_ray p r h = record {
  size = h.size ∙ length-named 0 p.columns;
  columns = λ j. columns_unnamed (λ l u w. IsHarmless l u (number_at r j)) 0 p.columns j (h.columns j);
  rows = λ i. rows_unnamed (λ l u es. IsHarmless l u (sum_at r es)) 0 p.rows i (h.rows i);
  integers = λ j. columns_unnamed (λ l u w. IsTrue w → IsWhole (number_at r j)) 0 p.columns j (h.integers j);
  improves = h.improves;
}

pub unnamed_unbounded : (p : Problem) (x r : List Rational) → IsUnbounded (named_by_place p) x r → IsUnbounded p x r
unnamed_unbounded p x r h = record { feasible = unnamed_feasible p x h.feasible; ray = unnamed_ray p r h.ray }

-- ---- the names

same_place : (i j : ℕ) → i < 2 ^ 32 → j < 2 ^ 32 → decimal (i + 1) ≡ decimal (j + 1) → i ≡ j
same_place i j h k e = let s = decimal_injective (i + 1) (j + 1) (omega arith) (omega arith) e in omega arith

pub column_names_differ : (i j : ℕ) → i < 2 ^ 32 → j < 2 ^ 32 → column_name i ≡ column_name j → i ≡ j
column_names_differ i j h k e = same_place i j h k (ap (drop 2) e)

pub row_names_differ : (i j : ℕ) → i < 2 ^ 32 → j < 2 ^ 32 → row_name i ≡ row_name j → i ≡ j
row_names_differ i j h k e = same_place i j h k (ap (drop 2) e)
