-- The terms of a form, in order of column.
use Rattle.std.proofs.Common.{◌≡◌, ℕ, ◌+◌, ◌<◌, ◌≤◌, nat_le, nat_lt, ◌&&◌, not, Bool, true, false, List, [], ◌∷◌, refl, arith}
use Rattle.std.proofs.lemmas.Bool.{and_parts, and_from, le-leb, lt-ltb, leb-true, ltb-true}
use Rattle.rational.specs.Compare.{is_zero}
use Rattle.milp.specs.Form.{Entry}
use Rattle.instance.specs.WellFormed.{are_entries_from}
use Rattle.cplex_lp_draft.specs.Declaration.{entries_of}
use Rattle.cplex_lp_draft.specs.Consistent.{are_terms_from}

-- ---- fewer and more columns

pub terms-least : (m n count : ℕ) → m ≤ n → (es : List Entry) → are_terms_from n count es ≡ true → are_terms_from m count es ≡ true
terms-least m n count h [] t = refl
terms-least m n count h (e ∷ es) t =
    let p = and_parts _ _ t in
    let from : n ≤ e.column = leb-true n e.column p.0 in
    and_from _ _ (le-leb m e.column (omega arith)) p.1

pub terms-within : (least m n : ℕ) → m ≤ n → (es : List Entry) → are_terms_from least m es ≡ true → are_terms_from least n es ≡ true
terms-within least m n h [] t = refl
terms-within least m n h (e ∷ es) t =
    let p = and_parts _ _ t in
    let q = and_parts _ _ p.1 in
    let below : e.column < m = ltb-true e.column m q.0 in
    and_from _ _ p.0 (and_from _ _ (lt-ltb e.column n (omega arith)) (terms-within (e.column + 1) m n h es q.1))

-- ---- the entries but for zeros

term-from : (least count : ℕ) (e : Entry) (es : List Entry) → are_terms_from least count (e ∷ es) ≡ true → least ≤ e.column
term-from least count e es t = leb-true least e.column (and_parts (nat_le least e.column) (nat_lt e.column count && are_terms_from (e.column + 1) count es) t).0

term-below : (least count : ℕ) (e : Entry) (es : List Entry) → are_terms_from least count (e ∷ es) ≡ true → nat_lt e.column count ≡ true
term-below least count e es t = (and_parts (nat_lt e.column count) (are_terms_from (e.column + 1) count es) (and_parts (nat_le least e.column) (nat_lt e.column count && are_terms_from (e.column + 1) count es) t).1).0

terms-after : (least count : ℕ) (e : Entry) (es : List Entry) → are_terms_from least count (e ∷ es) ≡ true → are_terms_from (e.column + 1) count es ≡ true
terms-after least count e es t = (and_parts (nat_lt e.column count) (are_terms_from (e.column + 1) count es) (and_parts (nat_le least e.column) (nat_lt e.column count && are_terms_from (e.column + 1) count es) t).1).1

entries-whole : (least count : ℕ) (e : Entry) (es : List Entry) → least ≤ e.column → nat_lt e.column count ≡ true → not (is_zero e.coefficient) ≡ true → are_entries_from (e.column + 1) count es ≡ true → are_entries_from least count (e ∷ es) ≡ true
entries-whole least count e es a b c d = and_from (nat_le least e.column) _ (le-leb least e.column a) (and_from (nat_lt e.column count) _ b (and_from (not (is_zero e.coefficient)) (are_entries_from (e.column + 1) count es) c d))

kept-by : (least count : ℕ) (e : Entry) (es : List Entry) (b : Bool) → is_zero e.coefficient ≡ b → are_terms_from least count (e ∷ es) ≡ true → ((from : ℕ) → are_terms_from from count es ≡ true → are_entries_from from count (entries_of es) ≡ true) → are_entries_from least count (entries_of (e ∷ es)) ≡ true
kept-by least count e es true z t more =
    let from : least ≤ e.column = term-from least count e es t in
    let later : least ≤ e.column + 1 = omega arith in
    let fewer : are_terms_from least count es ≡ true = terms-least least (e.column + 1) count later es (terms-after least count e es t) in
    rw z (more least fewer)
kept-by least count e es false z t more =
    let some : not (is_zero e.coefficient) ≡ true = rw z refl in
    let whole : are_entries_from least count (e ∷ entries_of es) ≡ true = entries-whole least count e (entries_of es) (term-from least count e es t) (term-below least count e es t) some (more (e.column + 1) (terms-after least count e es t)) in
    rw z whole

pub entries-kept : (least count : ℕ) (es : List Entry) → are_terms_from least count es ≡ true → are_entries_from least count (entries_of es) ≡ true
entries-kept least count [] t = refl
entries-kept least count (e ∷ es) t = kept-by least count e es (is_zero e.coefficient) refl t (λ from. entries-kept from count es)
