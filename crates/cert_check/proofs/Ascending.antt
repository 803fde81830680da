-- Forms with their entries in ascending order of column.
use Rattle.std.proofs.Common.{◌≡◌, ◌∙◌, ℕ, zero, suc, Some, None, ◌+◌, ◌<◌, ◌≤◌, ◌==◌, ◌&&◌, nat_le, nat_lt, not, true, false, length, get_or, drop, add-one, List, [], ◌∷◌, refl, sym, ap, subst, arith}
use mathlib.Core.Path.{ap₂}
use Rattle.std.proofs.Math.Decide.{ℕ_discrete}
use Rattle.std.proofs.lemmas.Bool.{and_parts, leb-true, eq-eqb}
use Rattle.std.proofs.lemmas.Bool.Decides.{nat_tests}
use Rattle.std.proofs.lemmas.Option.{same_Some}
use Rattle.rational.specs.Rational.{Rational, zero_ℚ}
use Rattle.rational.proofs.Laws as Q
use Rattle.milp.specs.Form.{Entry}
use Rattle.rational.specs.Compare.{is_zero}
use Rattle.instance.specs.WellFormed.{are_entries_from}
use Rattle.verdicts.specs.WeightedSums.{coefficient_of}
use Rattle.cert_check.specs.Sums.{products}
use Rattle.cert_check.specs.Lookup.{entry_at}
use Rattle.cert_check.specs.Parts.{ascending}
use Rattle.cert_check.proofs.Products.{next}

pub entries_ascend : (least n : ℕ) (es : List Entry) → are_entries_from least n es ≡ true → ascending least es ≡ true
entries_ascend least n [] h = refl
entries_ascend least n (e ∷ es) h =
    let low = and_parts (nat_le least e.column) (nat_lt e.column n && (not (is_zero e.coefficient) && are_entries_from (e.column + 1) n es)) h in
    let column = and_parts (nat_lt e.column n) (not (is_zero e.coefficient) && are_entries_from (e.column + 1) n es) low.1 in
    let rest = and_parts (not (is_zero e.coefficient)) (are_entries_from (e.column + 1) n es) column.1 in
    rw (low.0, entries_ascend (e.column + 1) n es rest.1) refl

other : (a b : ℕ) → a < b → (b == a) ≡ false
other a b h = grind (arith, nat_tests)

-- a column before the first has no entry
before : (least : ℕ) (es : List Entry) (j : ℕ) → ascending least es ≡ true → j < least → coefficient_of es j ≡ zero_ℚ
before least [] j h k = refl
before least (e ∷ es) j h k =
    let parts = and_parts (nat_le least e.column) (ascending (e.column + 1) es) h in
    let low : least ≤ e.column = leb-true least e.column parts.0 in
    let rest : coefficient_of es j ≡ zero_ℚ = before (e.column + 1) es j parts.1 (omega arith) in
    rw (other j e.column (omega arith), rest) (Q.add-zero zero_ℚ)

rest_ascends : (least : ℕ) (es : List Entry) (i : ℕ) (e : Entry) → ascending least es ≡ true → i < length es → e ≡ get_or es i e → ascending (e.column + 1) (drop (suc i) es) ≡ true
rest_ascends least [] i e h k is = absurd (omega arith)
rest_ascends least (f ∷ fs) zero e h k is =
    let parts = and_parts (nat_le least f.column) (ascending (f.column + 1) fs) h in
    subst (λ (g : Entry). ascending (g.column + 1) fs ≡ true) (sym is) parts.1
rest_ascends least (f ∷ fs) (suc i) e h k is =
    let parts = and_parts (nat_le least f.column) (ascending (f.column + 1) fs) h in
    rest_ascends (f.column + 1) fs i e parts.1 (omega arith) is

-- one entry of another column less
not_here : (e : Entry) (es : List Entry) (j : ℕ) → ¬ (e.column ≡ j) → entry_at (e ∷ es) j ≡ entry_at es j
not_here e es j h = let it : (e.column == j) ≡ false = grind (arith, nat_tests) in rw it refl

column_from : (least : ℕ) (es : List Entry) (n : ℕ) (x : Entry) → ascending least es ≡ true → n < length es → x ≡ get_or es n x → least ≤ x.column
column_from least [] n x h small is = absurd (omega arith)
column_from least (e ∷ es) zero x h small is =
    let parts = and_parts (nat_le least e.column) (ascending (e.column + 1) es) h in
    subst (λ (y : Entry). least ≤ y.column) (sym is) (leb-true least e.column parts.0)
column_from least (e ∷ es) (suc n) x h small is =
    let parts = and_parts (nat_le least e.column) (ascending (e.column + 1) es) h in
    let rest : e.column + 1 ≤ x.column = column_from (e.column + 1) es n x parts.1 (omega arith) is in
    omega (arith, rest, leb-true least e.column parts.0)

skipped : (least : ℕ) (es : List Entry) (n : ℕ) (x : Entry) (j : ℕ) → ascending least es ≡ true → n < length es → x ≡ get_or es n x → x.column < j → entry_at (drop (suc n) es) j ≡ entry_at es j
skipped least [] n x j h small is low = absurd (omega arith)
skipped least (e ∷ es) zero x j h small is low = let same : x.column ≡ e.column = ap (λ (y : Entry). y.column) is in sym (not_here e es j (λ k. absurd (omega arith)))
skipped least (e ∷ es) (suc n) x j h small is low =
    let parts = and_parts (nat_le least e.column) (ascending (e.column + 1) es) h in
    let rest : e.column + 1 ≤ x.column = column_from (e.column + 1) es n x parts.1 (omega arith) is in
    skipped (e.column + 1) es n x j parts.1 (omega arith) is low ∙ sym (not_here e es j (λ k. absurd (omega (arith, rest, low, k))))

pub entry_skipped : (es : List Entry) (n : ℕ) (x : Entry) (j : ℕ) → ascending 0 es ≡ true → n < length es → x ≡ get_or es n x → x.column < j → entry_at (drop (n + 1) es) j ≡ entry_at es j
entry_skipped es n x j h small is low = rw (add-one n) (skipped 0 es n x j h small is low)

none_before : (least : ℕ) (es : List Entry) (j : ℕ) → ascending least es ≡ true → j < least → (entry_at es j ≡ None) × ((w : Rational) → products w es j ≡ [])
none_before least [] j h k = (refl, λ w. refl)
none_before least (e ∷ es) j h k =
    let parts = and_parts (nat_le least e.column) (ascending (e.column + 1) es) h in
    let low : least ≤ e.column = leb-true least e.column parts.0 in
    let rest = none_before (e.column + 1) es j parts.1 (omega arith) in
    let not_it : (e.column == j) ≡ false = other j e.column (omega arith) in
    (rw not_it rest.0, λ w. rw not_it (rest.1 w))

pub none_after : (es : List Entry) (n : ℕ) (x : Entry) (j : ℕ) → ascending 0 es ≡ true → n < length es → x ≡ get_or es n x → j < x.column → entry_at (drop n es) j ≡ None
none_after es n x j h small is high =
    ap (λ xs. entry_at xs j) (next es n x small is) ∙ not_here x (drop (n + 1) es) j (λ k. absurd (omega arith)) ∙ rw (add-one n) (none_before (x.column + 1) (drop (suc n) es) j (rest_ascends 0 es n x h small is) (omega arith)).0

-- ---- what the entry says of the form

found : (least : ℕ) (es : List Entry) (j : ℕ) (c : Rational) → ascending least es ≡ true → entry_at es j ≡ Some c → (coefficient_of es j ≡ c) × ((w : Rational) → products w es j ≡ record { weight = w; factor = c } ∷ [])
found least [] j c h e = cc
found least (f ∷ es) j c h e =
    let parts = and_parts (nat_le least f.column) (ascending (f.column + 1) es) h in
    elim (ℕ_discrete f.column j) [
      | yes q ↦
          let it : (f.column == j) ≡ true = eq-eqb f.column j q in
          let same : f.coefficient ≡ c = same_Some f.coefficient c (rw it at e) in
          let none = none_before (f.column + 1) es j parts.1 (omega arith) in
          let rest : coefficient_of es j ≡ zero_ℚ = before (f.column + 1) es j parts.1 (omega arith) in
          (rw (it, rest) (Q.add-zero f.coefficient ∙ same), λ w. rw it (ap₂ (λ c ps. record { weight = w; factor = c } ∷ ps) same (none.1 w)))
      | no d ↦
          let it : (f.column == j) ≡ false = grind (arith, nat_tests) in
          let rest = found (f.column + 1) es j c parts.1 (rw it at e) in
          (rw it (Q.zero-add (coefficient_of es j) ∙ rest.0), λ w. rw it (rest.1 w))
    ]

missing : (es : List Entry) (j : ℕ) → entry_at es j ≡ None → (coefficient_of es j ≡ zero_ℚ) × ((w : Rational) → products w es j ≡ [])
missing [] j e = (refl, λ w. refl)
missing (f ∷ es) j e = elim (ℕ_discrete f.column j) [
  | yes q ↦ let it : (f.column == j) ≡ true = eq-eqb f.column j q in absurd (not_none f.coefficient (rw it at e))
  | no d ↦
      let it : (f.column == j) ≡ false = grind (arith, nat_tests) in
      let rest = missing es j (rw it at e) in
      (rw it (Q.zero-add (coefficient_of es j) ∙ rest.0), λ w. rw it (rest.1 w))
]
  where
    not_none : (a : Rational) → Some a ≡ None → ⊥
    not_none a e = cc

pub coefficient_found : (es : List Entry) (j : ℕ) (c : Rational) → ascending 0 es ≡ true → entry_at es j ≡ Some c → coefficient_of es j ≡ c
coefficient_found es j c h e = (found 0 es j c h e).0

pub coefficient_none : (es : List Entry) (j : ℕ) → entry_at es j ≡ None → coefficient_of es j ≡ zero_ℚ
coefficient_none es j e = (missing es j e).0

pub products_found : (w : Rational) (es : List Entry) (j : ℕ) (c : Rational) → ascending 0 es ≡ true → entry_at es j ≡ Some c → products w es j ≡ record { weight = w; factor = c } ∷ []
products_found w es j c h e = (found 0 es j c h e).1 w

pub products_none : (w : Rational) (es : List Entry) (j : ℕ) → entry_at es j ≡ None → products w es j ≡ []
products_none w es j e = (missing es j e).1 w
