-- Weights that refute a problem use bounds that it has.
use Rattle.std.proofs.Common.{◌≡◌, ◌+◌, ◌⊎◌, inl, inr, length, ℕ, zero, suc, List, [], ◌∷◌, ◌++◌, map, Bool, true, false, refl, subst, arith, Option, Some, None, IsTrue, slice_get, option_and_then, if◌then◌else◌}
use Rattle.rational.specs.Rational.{Rational, zero_ℚ, one_ℚ}
use Rattle.rational.specs.Compare.{is_less}
use Rattle.milp.specs.Form.{Entry}
use Rattle.milp.specs.Problem.{Column, Row, Problem}
use Rattle.verdicts.specs.WeightedSums.{Weighted}
use Rattle.verdicts.specs.Certificate.{Item, Weights}
use Rattle.verdicts.specs.Proves.{term, bound_used, row_term, column_term, terms, refutes}
use Rattle.infeasible_subset.specs.Members.{Side, Lower, Upper, Member, OfRow, OfColumn, same_member, has, both}
use Rattle.infeasible_subset.specs.Subsets.{side_used, row_used, column_used, AllUse, UsesOnly, Refutes}
use Rattle.infeasible_subset.specs.Listed.{if_there, row_bounds, column_bounds, all_bounds}
use Rattle.infeasible_subset.proofs.Lists.{or_left, or_right, is_same, in_front, behind, front_or_behind, in_both}
use Rattle.infeasible_subset.proofs.Subsets.{gathered_kept}

-- ---- a bound that is there is listed

if_some : (o : Option Rational) (m : Member) (w : Rational) (form : List Entry) (t : Weighted) → term w form o ≡ Some t → IsTrue (has (if_there o m) m)
if_some None m w form t h = cc
if_some (Some b) m w form t h = or_left (same_member m m) false (is_same m)

side_there : (lower upper : Option Rational) (of : Side → Member) (w : Rational) (form : List Entry) (t : Weighted) → term w form (bound_used w lower upper) ≡ Some t → IsTrue (has (if_there lower (of Lower) ++ if_there upper (of Upper)) (of (side_used w)))
side_there lower upper of w form t h = go (is_less zero_ℚ w) h
  where
    go : (b : Bool) → term w form (if b then lower else upper) ≡ Some t → IsTrue (has (if_there lower (of Lower) ++ if_there upper (of Upper)) (of (if b then Lower else Upper)))
    go true k = in_front (if_there lower (of Lower)) (if_there upper (of Upper)) (of Lower) (if_some lower (of Lower) w form t k)
    go false k = behind (if_there lower (of Lower)) (if_there upper (of Upper)) (of Upper) (if_some upper (of Upper) w form t k)

row_there : (n i : ℕ) (rs : List Row) (w : Rational) (t : Weighted) → option_and_then (λ r. term w r.entries (bound_used w r.lower r.upper)) (slice_get rs i) ≡ Some t → IsTrue (has (row_bounds n rs) (OfRow (n + i) (side_used w)))
row_there n i [] w t h = cc
row_there n zero (r ∷ rs) w t h =
    let on : n + zero ≡ n = omega arith in
    rw on (in_front (if_there r.lower (OfRow n Lower) ++ if_there r.upper (OfRow n Upper)) (row_bounds (n + 1) rs) (OfRow n (side_used w)) (side_there r.lower r.upper (OfRow n) w r.entries t h))
row_there n (suc i) (r ∷ rs) w t h =
    let on : n + suc i ≡ n + 1 + i = omega arith in
    rw on (behind (if_there r.lower (OfRow n Lower) ++ if_there r.upper (OfRow n Upper)) (row_bounds (n + 1) rs) (OfRow (n + 1 + i) (side_used w)) (row_there (n + 1) i rs w t h))

column_there : (n j : ℕ) (cs : List Column) (w : Rational) (form : List Entry) (t : Weighted) → term w form (bound_used w (option_and_then (λ c. c.lower) (slice_get cs j)) (option_and_then (λ c. c.upper) (slice_get cs j))) ≡ Some t → IsTrue (has (column_bounds n cs) (OfColumn (n + j) (side_used w)))
column_there n j [] w form t h = absurd (nothing (is_less zero_ℚ w) h)
  where
    nothing : (b : Bool) → term w form (if b then None else None) ≡ Some t → ⊥
    nothing true k = cc
    nothing false k = cc
column_there n zero (c ∷ cs) w form t h =
    let on : n + zero ≡ n = omega arith in
    rw on (in_front (if_there c.lower (OfColumn n Lower) ++ if_there c.upper (OfColumn n Upper)) (column_bounds (n + 1) cs) (OfColumn n (side_used w)) (side_there c.lower c.upper (OfColumn n) w form t h))
column_there n (suc j) (c ∷ cs) w form t h =
    let on : n + suc j ≡ n + 1 + j = omega arith in
    rw on (behind (if_there c.lower (OfColumn n Lower) ++ if_there c.upper (OfColumn n Upper)) (column_bounds (n + 1) cs) (OfColumn (n + 1 + j) (side_used w)) (column_there (n + 1) j cs w form t h))

item_row_there : (p : Problem) (i : Item) (t : Weighted) → row_term p i ≡ Some t → IsTrue (has (all_bounds p) (row_used i))
item_row_there p i t h =
    let on : 0 + i.index ≡ i.index = omega arith in
    let found : IsTrue (has (row_bounds 0 p.rows) (OfRow i.index (side_used i.weight))) = subst (λ n. IsTrue (has (row_bounds 0 p.rows) (OfRow n (side_used i.weight)))) on (row_there 0 i.index p.rows i.weight t h) in
    in_front (row_bounds 0 p.rows) (column_bounds 0 p.columns) (row_used i) found

item_column_there : (p : Problem) (i : Item) (t : Weighted) → column_term p [] i ≡ Some t → IsTrue (has (all_bounds p) (column_used i))
item_column_there p i t h =
    let on : 0 + i.index ≡ i.index = omega arith in
    let found : IsTrue (has (column_bounds 0 p.columns) (OfColumn i.index (side_used i.weight))) = subst (λ n. IsTrue (has (column_bounds 0 p.columns) (OfColumn n (side_used i.weight)))) on (column_there 0 i.index p.columns i.weight (record { column = i.index; coefficient = one_ℚ } ∷ []) t h) in
    behind (row_bounds 0 p.rows) (column_bounds 0 p.columns) (column_used i) found

terms_there : (p : Problem) (w : Weights) (ts : List Weighted) → terms p [] [] [] w ≡ Some ts → UsesOnly (has (all_bounds p)) w
terms_there p w ts h =
    let rows = gathered_kept (row_term p) row_used (has (all_bounds p)) (item_row_there p) w.rows _ ts h in
    let columns = gathered_kept (column_term p []) column_used (has (all_bounds p)) (item_column_there p) w.columns _ rows.1.0 rows.1.1 in
    record { rows = rows.0; columns = columns.0 }

-- weights that refute the problem use bounds that it has
pub bounds_there : (p : Problem) (w : Weights) → Refutes p w → UsesOnly (has (all_bounds p)) w
bounds_there p w r = go (terms p [] [] [] w) refl r.passes
  where
    go : (o : Option (List Weighted)) → terms p [] [] [] w ≡ o → refutes (length p.columns) o ≡ true → UsesOnly (has (all_bounds p)) w
    go None e k = cc
    go (Some ts) e k = terms_there p w ts e

-- ---- what weights use is left of the members

use_left : (f : Item → Member) (front ms ks : List Member) (is : List Item) → ((m : Member) → IsTrue (has (map f is) m) → IsTrue (has ks m)) → AllUse f (has (front ++ ms)) is → AllUse f (has (front ++ both ms ks)) is
use_left f front ms ks [] g h = tt
use_left f front ms ks (i ∷ is) g h =
    (go (front_or_behind front ms (f i) h.0), use_left f front ms ks is (λ m t. g m (or_right (same_member (f i) m) (has (map f is) m) t)) h.1)
  where
    go : IsTrue (has front (f i)) ⊎ IsTrue (has ms (f i)) → IsTrue (has (front ++ both ms ks) (f i))
    go (inl t) = in_front front (both ms ks) (f i) t
    go (inr t) = behind front (both ms ks) (f i) (in_both ms ks (f i) t (g (f i) (or_left (same_member (f i) (f i)) (has (map f is) (f i)) (is_same (f i)))))

pub uses_left : (front ms : List Member) (w : Weights) → UsesOnly (has (front ++ ms)) w → UsesOnly (has (front ++ both ms (map row_used w.rows ++ map column_used w.columns))) w
uses_left front ms w h = record {
  rows = use_left row_used front ms _ w.rows (λ m t. in_front (map row_used w.rows) (map column_used w.columns) m t) h.rows;
  columns = use_left column_used front ms _ w.columns (λ m t. behind (map row_used w.rows) (map column_used w.columns) m t) h.columns;
}
