-- Variables as forms over columns, and forms that agree at the points of a system.
use Rattle.std.proofs.Common.{◌≡◌, ◌∙◌, ℕ, zero, suc, ◌+◌, ◌-◌, ◌≤◌, List, [], ◌∷◌, ◌<◌, refl, sym, ap, subst, arith, ◌==◌, cond, Bool, true, false, length, get_or, Option, IfSome}
use Rattle.std.specs.Prelude.{nat_lt}
use Rattle.std.proofs.lemmas.Bool.Decides.{nat_tests}
use Rattle.std.proofs.lemmas.Option.{slice_get-get_or}
use Rattle.std.proofs.lemmas.Bool.{and_from}
use mathlib.Core.Path.{ap₂}
use Rattle.rational.specs.Rational.{Rational, ◌+ℚ◌, zero_ℚ, one_ℚ}
use Rattle.milp.specs.Form.{Entry, value_at}
use Rattle.verdicts.specs.WeightedSums.{coefficient_of, AllBelow}
use Rattle.rational.specs.Compare.{is_same}
use Rattle.verdicts.specs.Proves.{same_form}
use Rattle.rational.proofs.Laws as Q
use Rattle.basis.specs.System.{System, size, Satisfies, IsSystem, form_of, unit_form, extended}
use Rattle.basis.proofs.Values.{value-unit}
use Rattle.basis.proofs.Unique.{part}
use Rattle.basis.proofs.Start.{extended_satisfies, extended-column, same_below}

pub form_value : (s : System) (y : ℕ → Rational) (v : ℕ) → Satisfies s y → v < size s → value_at y (form_of s v) ≡ y v
form_value s y v h k = go (nat_lt v s.columns) refl
  where
    go : (t : Bool) → nat_lt v s.columns ≡ t → value_at y (cond t (unit_form v) (get_or s.forms (v - s.columns) [])) ≡ y v
    go true e = value-unit y v
    go false e =
        let past : s.columns ≤ v = grind (arith, nat_tests) in
        let place : s.columns + (v - s.columns) ≡ v = omega arith in
        let inside : v - s.columns < length s.forms = omega arith in
        let P : Option (List Entry) → Type 0 = λ o. IfSome o (λ f. y (s.columns + (v - s.columns)) ≡ value_at y f) in
        sym (subst P (slice_get-get_or s.forms (v - s.columns) [] inside) (h.values (v - s.columns))) ∙ ap y place

pub form_below : (s : System) (v : ℕ) → IsSystem s → v < size s → AllBelow s.columns (form_of s v)
form_below s v h k = go (nat_lt v s.columns) refl
  where
    go : (t : Bool) → nat_lt v s.columns ≡ t → AllBelow s.columns (cond t (unit_form v) (get_or s.forms (v - s.columns) []))
    go true e = let low : v < s.columns = grind (arith, nat_tests) in (low, tt)
    go false e =
        let past : s.columns ≤ v = grind (arith, nat_tests) in
        let inside : v - s.columns < length s.forms = omega arith in
        let P : Option (List Entry) → Type 0 = λ o. IfSome o (AllBelow s.columns) in
        subst P (slice_get-get_or s.forms (v - s.columns) [] inside) (h.forms (v - s.columns))

-- ---- the point of one column

abbrev pub unit_point : ℕ → ℕ → Rational
unit_point j v = cond (v == j) one_ℚ zero_ℚ

pub value_at-unit : (j : ℕ) (f : List Entry) → value_at (unit_point j) f ≡ coefficient_of f j
value_at-unit j [] = refl
value_at-unit j (e ∷ f) = ap₂ ◌+ℚ◌ (part e.coefficient one_ℚ (e.column == j) ∙ Q.one-mul _) (value_at-unit j f)

-- a form over columns at the point of the system where column j is 1 and the other columns are 0
coefficient-value : (s : System) (j : ℕ) (f : List Entry) → AllBelow s.columns f → value_at (extended s (unit_point j)) f ≡ coefficient_of f j
coefficient-value s j f h = same_below s.columns (extended s (unit_point j)) (unit_point j) f (extended-column s (unit_point j)) h ∙ value_at-unit j f

same_form-from : (n : ℕ) (f g : List Entry) → ((j : ℕ) → j < n → coefficient_of f j ≡ coefficient_of g j) → same_form n f g ≡ true
same_form-from zero f g h = refl
same_form-from (suc n) f g h = and_from (is_same (coefficient_of f n) (coefficient_of g n)) (same_form n f g) (Q.true_same _ _ (h n (omega arith))) (same_form-from n f g (λ j k. h j (omega arith)))

-- forms over columns that have one value at each point of the system are the same
pub same_forms : (s : System) (f g : List Entry) → IsSystem s → AllBelow s.columns f → AllBelow s.columns g → ((y : ℕ → Rational) → Satisfies s y → value_at y f ≡ value_at y g) → same_form s.columns f g ≡ true
same_forms s f g h k l e = same_form-from s.columns f g (λ j m. sym (coefficient-value s j f k) ∙ e (extended s (unit_point j)) (extended_satisfies s (unit_point j) h) ∙ coefficient-value s j g l)

pub form-column : (s : System) (v : ℕ) → v < s.columns → form_of s v ≡ unit_form v
form-column s v h = let e : nat_lt v s.columns ≡ true = grind (arith, nat_tests) in rw e refl

pub form-beyond : (s : System) (i : ℕ) → form_of s (s.columns + i) ≡ get_or s.forms i []
form-beyond s i =
    let e : nat_lt (s.columns + i) s.columns ≡ false = grind (arith, nat_tests) in
    let f : s.columns + i - s.columns ≡ i = omega arith in
    rw e (ap (λ k. get_or s.forms k []) f)
