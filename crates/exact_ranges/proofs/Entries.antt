-- Forms over the columns of a problem.
use Rattle.std.proofs.Common.{◌≡◌, ◌+◌, ◌<◌, ◌≤◌, ◌&&◌, not, nat_le, nat_lt, ℕ, false, List, [], ◌∷◌, length, refl, ap, IsTrue, arith}
use Rattle.std.specs.List.{list_all}
use Rattle.std.proofs.lemmas.Bool.{and_parts, and_from, not_from_false, leb-true, le-leb, ltb-true, lt-ltb}
use Rattle.rational.specs.Rational.{Rational}
use Rattle.rational.specs.Compare.{is_zero}
use Rattle.milp.specs.Form.{Entry}
use Rattle.milp.specs.Problem.{Row, Problem}
use Rattle.verdicts.specs.WeightedSums.{scaled, AllBelow}
use Rattle.instance.specs.WellFormed.{are_entries_from, are_entries, IsWellFormed}
use Rattle.cert_check.specs.Parts.{ascending}
use Rattle.ranging.specs.TightBounds.{RowsInRange, FormsInRange}

-- ---- places in range

below : (least n : ℕ) (es : List Entry) → IsTrue (are_entries_from least n es) → AllBelow n es
below least n [] h = tt
below least n (e ∷ es) h =
    let low = and_parts (nat_le least e.column) (nat_lt e.column n && (not (is_zero e.coefficient) && are_entries_from (e.column + 1) n es)) h in
    let high = and_parts (nat_lt e.column n) (not (is_zero e.coefficient) && are_entries_from (e.column + 1) n es) low.1 in
    let some = and_parts (not (is_zero e.coefficient)) (are_entries_from (e.column + 1) n es) high.1 in
    (ltb-true e.column n high.0, below (e.column + 1) n es some.1)

rows_below : (n : ℕ) (rs : List Row) → IsTrue (list_all (λ (r : Row). are_entries n r.entries) rs) → RowsInRange n rs
rows_below n [] h = tt
rows_below n (r ∷ rs) h =
    let parts = and_parts (are_entries n r.entries) (list_all (λ (r : Row). are_entries n r.entries) rs) h in
    (below 0 n r.entries parts.0, rows_below n rs parts.1)

pub in_range : (p : Problem) → IsWellFormed p.columns p.rows p.objective → FormsInRange p
in_range p formed = record {
  rows = rows_below (length p.columns) p.rows formed.row_forms;
  objective = below 0 (length p.columns) p.objective formed.objective_form;
}

-- ---- entries from a greater place on are entries from a lesser one on

pub from_lower : (low least n : ℕ) (es : List Entry) → low ≤ least → IsTrue (are_entries_from least n es) → IsTrue (are_entries_from low n es)
from_lower low least n [] le h = refl
from_lower low least n (e ∷ es) le h =
    let parts = and_parts (nat_le least e.column) (nat_lt e.column n && (not (is_zero e.coefficient) && are_entries_from (e.column + 1) n es)) h in
    let at : least ≤ e.column = leb-true least e.column parts.0 in
    and_from _ _ (le-leb low e.column (omega arith)) parts.1

-- a column and a form behind it
pub one_before : (least n i : ℕ) (c : Rational) (es : List Entry) → least ≤ i → i < n → is_zero c ≡ false → IsTrue (are_entries_from (i + 1) n es) → IsTrue (are_entries_from least n (record { column = i; coefficient = c } ∷ es))
one_before least n i c es low high some h = and_from _ _ (le-leb least i low) (and_from _ _ (lt-ltb i n high) (and_from _ _ (not_from_false (is_zero c) some) h))

-- ---- order of columns

pub scaled_ascends : (w : Rational) (least : ℕ) (es : List Entry) → ascending least (scaled w es) ≡ ascending least es
scaled_ascends w least [] = refl
scaled_ascends w least (e ∷ es) = ap (λ b. nat_le least e.column && b) (scaled_ascends w (e.column + 1) es)
