-- The forms of the bounds that a point reaches: which they are, how many, and that each is in order of column.
use Rattle.std.proofs.Common.{◌≡◌, ◌∙◌, ◌+◌, ◌*◌, ◌≤◌, nat_le, negsuc, if◌then◌else◌, ℕ, suc, Bool, true, false, List, [], ◌∷◌, ◌++◌, length, refl, sym, ap, subst, Option, Some, None, IsTrue, arith}
use Rattle.std.specs.List.{list_all}
use Rattle.std.proofs.lemmas.Bool.{and_parts, and_from, le-leb}
use Rattle.std.proofs.lemmas.List.{append_assoc, length-append}
use Rattle.rational.specs.Rational.{Rational, one_ℚ, whole, ◌*ℚ◌}
use Rattle.rational.proofs.Laws as Q
use Rattle.rational.specs.Compare.{is_same}
use Rattle.milp.specs.Form.{Entry, number_at, sum_at}
use Rattle.milp.specs.Problem.{Column, Row, Problem}
use Rattle.verdicts.specs.WeightedSums.{scaled}
use Rattle.instance.specs.WellFormed.{are_entries, IsWellFormed, IsWithinLimits}
use Rattle.cert_check.specs.Parts.{ascending}
use Rattle.cert_check.proofs.Laws.{entries_ascend}
use Rattle.ranging.specs.TightBounds.{if_tight, tight_at, tight_rows, tight_columns, tight_forms}
use Rattle.exact_ranges.specs.Reached.{does_reach, if_reached, reached_by, unit_form, reached_columns, reached_rows, reached, AllAscend}
use Rattle.exact_ranges.proofs.Lists.{all_append}
use Rattle.exact_ranges.proofs.Entries.{scaled_ascends}

-- ---- they are the tight forms

one_tight : (o : Option Rational) (v : Rational) (f : List Entry) (rest : List (List Entry)) → if_tight o v f rest ≡ if_reached o v f ++ rest
one_tight None v f rest = refl
one_tight (Some b) v f rest = go (is_same b v)
  where
    go : (t : Bool) → (if t then f ∷ rest else rest) ≡ (if t then f ∷ [] else []) ++ rest
    go true = refl
    go false = refl

both_tight : (x : List Rational) (f : List Entry) (lower upper : Option Rational) (rest more : List (List Entry)) → rest ≡ more → tight_at x f lower upper rest ≡ reached_by (sum_at x f) f lower upper ++ more
both_tight x f lower upper rest more e =
    let v = sum_at x f in
    let g = scaled (whole (negsuc 0)) f in
    one_tight lower v f (if_tight upper v g rest)
    ∙ ap (λ fs. if_reached lower v f ++ fs) (one_tight upper v g rest ∙ ap (λ fs. if_reached upper v g ++ fs) e)
    ∙ sym (append_assoc (if_reached lower v f) (if_reached upper v g) more)

rows_tight : (x : List Rational) (rs : List Row) → tight_rows x rs ≡ reached_rows x rs
rows_tight x [] = refl
rows_tight x (r ∷ rs) = both_tight x r.entries r.lower r.upper (tight_rows x rs) (reached_rows x rs) (rows_tight x rs)

columns_tight : (x : List Rational) (j : ℕ) (cs : List Column) (rest : List (List Entry)) → tight_columns x j cs rest ≡ reached_columns x j cs ++ rest
columns_tight x j [] rest = refl
columns_tight x j (c ∷ cs) rest =
    let next : j + 1 ≡ suc j = omega arith in
    let here = reached_by (sum_at x (unit_form j)) (unit_form j) c.lower c.upper in
    both_tight x (unit_form j) c.lower c.upper (tight_columns x (suc j) cs rest) (reached_columns x (j + 1) cs ++ rest) (columns_tight x (suc j) cs rest ∙ ap (λ i. reached_columns x i cs ++ rest) (sym next))
    ∙ sym (append_assoc here (reached_columns x (j + 1) cs) rest)

pub reached_tight : (p : Problem) (x : List Rational) → reached p x ≡ tight_forms p x
reached_tight p x = ap (λ fs. reached_columns x 0 p.columns ++ fs) (sym (rows_tight x p.rows)) ∙ sym (columns_tight x 0 p.columns (tight_rows x p.rows))

-- ---- in order of column

one_ascends : (o : Option Rational) (v : Rational) (f : List Entry) → IsTrue (ascending 0 f) → AllAscend (if_reached o v f)
one_ascends o v f h = go (does_reach o v)
  where
    go : (t : Bool) → AllAscend (if t then f ∷ [] else [])
    go true = (h, tt)
    go false = tt

both_ascend : (v : Rational) (f : List Entry) (lower upper : Option Rational) → IsTrue (ascending 0 f) → AllAscend (reached_by v f lower upper)
both_ascend v f lower upper h =
    let P : List Entry → Type 0 = λ g. IsTrue (ascending 0 g) in
    all_append P (if_reached lower v f) (if_reached upper v (scaled (whole (negsuc 0)) f)) (one_ascends lower v f h) (one_ascends upper v (scaled (whole (negsuc 0)) f) (scaled_ascends (whole (negsuc 0)) 0 f ∙ h))

rows_ascend : (n : ℕ) (x : List Rational) (rs : List Row) → IsTrue (list_all (λ (r : Row). are_entries n r.entries) rs) → AllAscend (reached_rows x rs)
rows_ascend n x [] h = tt
rows_ascend n x (r ∷ rs) h =
    let parts = and_parts (are_entries n r.entries) (list_all (λ (r : Row). are_entries n r.entries) rs) h in
    all_append (λ g. IsTrue (ascending 0 g)) (reached_by (sum_at x r.entries) r.entries r.lower r.upper) (reached_rows x rs) (both_ascend (sum_at x r.entries) r.entries r.lower r.upper (entries_ascend 0 n r.entries parts.0)) (rows_ascend n x rs parts.1)

columns_ascend : (x : List Rational) (j : ℕ) (cs : List Column) → AllAscend (reached_columns x j cs)
columns_ascend x j [] = tt
columns_ascend x j (c ∷ cs) =
    let unit : IsTrue (ascending 0 (unit_form j)) = and_from (nat_le 0 j) true (le-leb 0 j (omega arith)) refl in
    all_append (λ g. IsTrue (ascending 0 g)) (reached_by (sum_at x (unit_form j)) (unit_form j) c.lower c.upper) (reached_columns x (j + 1) cs) (both_ascend (sum_at x (unit_form j)) (unit_form j) c.lower c.upper unit) (columns_ascend x (j + 1) cs)

pub reached_ascend : (p : Problem) (x : List Rational) → IsWellFormed p.columns p.rows p.objective → AllAscend (reached p x)
reached_ascend p x formed = all_append (λ g. IsTrue (ascending 0 g)) (reached_columns x 0 p.columns) (reached_rows x p.rows) (columns_ascend x 0 p.columns) (rows_ascend (length p.columns) x p.rows formed.row_forms)

-- ---- two at most of each column and row

one_or_none : (o : Option Rational) (v : Rational) (f : List Entry) → length (if_reached o v f) ≤ 1
one_or_none o v f = go (does_reach o v)
  where
    go : (t : Bool) → length (if t then f ∷ [] else []) ≤ 1
    go true = omega arith
    go false = omega arith

two_at_most : (v : Rational) (f : List Entry) (lower upper : Option Rational) → length (reached_by v f lower upper) ≤ 2
two_at_most v f lower upper =
    let g = scaled (whole (negsuc 0)) f in
    let a = one_or_none lower v f in
    let b = one_or_none upper v g in
    let both = length-append (if_reached lower v f) (if_reached upper v g) in
    subst (λ n. n ≤ 2) (sym both) (omega (arith, a, b))

few_rows : (x : List Rational) (rs : List Row) → length (reached_rows x rs) ≤ 2 * length rs
few_rows x [] = omega arith
few_rows x (r ∷ rs) =
    let a = two_at_most (sum_at x r.entries) r.entries r.lower r.upper in
    let b = few_rows x rs in
    let both = length-append (reached_by (sum_at x r.entries) r.entries r.lower r.upper) (reached_rows x rs) in
    subst (λ n. n ≤ 2 * suc (length rs)) (sym both) (omega (arith, a, b))

few_columns : (x : List Rational) (j : ℕ) (cs : List Column) → length (reached_columns x j cs) ≤ 2 * length cs
few_columns x j [] = omega arith
few_columns x j (c ∷ cs) =
    let a = two_at_most (sum_at x (unit_form j)) (unit_form j) c.lower c.upper in
    let b = few_columns x (j + 1) cs in
    let both = length-append (reached_by (sum_at x (unit_form j)) (unit_form j) c.lower c.upper) (reached_columns x (j + 1) cs) in
    subst (λ n. n ≤ 2 * suc (length cs)) (sym both) (omega (arith, a, b))

pub few_reached : (p : Problem) (x : List Rational) → IsWithinLimits p.columns p.rows → length (reached p x) ≤ 4000000
few_reached p x limits =
    let a = few_columns x 0 p.columns in
    let b = few_rows x p.rows in
    let both = length-append (reached_columns x 0 p.columns) (reached_rows x p.rows) in
    let c = limits.columns in
    let d = limits.rows in
    subst (λ n. n ≤ 4000000) (sym both) (omega (arith, a, b, c, d))

-- ---- the form of one column

pub unit_value : (x : List Rational) (j : ℕ) → number_at x j ≡ sum_at x (unit_form j)
unit_value x j = sym (Q.add-zero (one_ℚ *ℚ number_at x j) ∙ Q.one-mul (number_at x j))
