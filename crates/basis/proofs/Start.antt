-- The first basis has the system's own forms as its dictionary.
use Rattle.std.proofs.Common.{◌≡◌, ◌∙◌, ℕ, ◌+◌, ◌-◌, ◌≤◌, List, [], ◌∷◌, ◌<◌, ◌≢◌, refl, sym, ap, subst, arith, length, get_or, slice_get, Option, Some, None, IfSome}
use Rattle.std.proofs.Math.Decide.{dec_lt}
use Rattle.std.proofs.lemmas.Option.{slice_get-get_or, slice_get_past}
use Rattle.std.specs.Prelude.{nat_lt, true, false}
use Rattle.std.proofs.lemmas.Bool.Decides.{nat_tests}
use mathlib.Core.Path.{ap₂}
use Rattle.rational.specs.Rational.{Rational, ◌+ℚ◌, ◌*ℚ◌}
use Rattle.milp.specs.Form.{Entry, value_at}
use Rattle.verdicts.specs.WeightedSums.{AllBelow}
use Rattle.basis.specs.System.{System, lower_of, upper_of, Satisfies, IsSystem, extended}
use Rattle.basis.specs.Dictionary.{place_of, IsBasic, IsResting, AllResting, Solves, IsDictionary, RestsAt, IsBasicPoint}
use Rattle.basis.specs.Bland.{IsStart, first_place, start_dictionary, first_number, start_point}
use Rattle.basis.specs.declared.Place.{Place}
use Rattle.basis.specs.declared.Place.TheVariants.{Basic}
use Rattle.basis.proofs.Places.{basic_known}

first_rests : (l u : Option Rational) → first_place l u ≢ Basic
first_rests (Some l) u e = cc
first_rests None (Some u) e = cc
first_rests None None e = cc

module _ (s : System) (b : List Place) (h : IsSystem s) (k : IsStart s b) where
  column_rests : (v : ℕ) → v < s.columns → IsResting b v
  column_rests v j = record { known = let n = k.size in omega arith; not_basic = λ e. first_rests (lower_of s v) (upper_of s v) (sym (k.columns v j) ∙ e) }

  all_rest : (f : List Entry) → AllBelow s.columns f → AllResting b f
  all_rest [] j = tt
  all_rest (e ∷ f) j = (column_rests e.column j.0, all_rest f j.1)

  -- a basic variable is that of a form
  is_form : (v : ℕ) → IsBasic b v → (s.columns ≤ v) × (v - s.columns < length s.forms)
  is_form v j = elim (dec_lt v s.columns) [
    | yes low ↦ absurd ((column_rests v low).not_basic j)
    | no high ↦ let n = basic_known b v j in let m = k.size in (omega arith, omega arith)
  ]

  form_at : (v : ℕ) → IsBasic b v → slice_get s.forms (v - s.columns) ≡ Some (get_or s.forms (v - s.columns) [])
  form_at v j = slice_get-get_or s.forms (v - s.columns) [] (is_form v j).1

  sums_of : (x : ℕ → Rational) → Satisfies s x → (v : ℕ) → IsBasic b v → x v ≡ value_at x (get_or s.forms (v - s.columns) [])
  sums_of x l v j =
      let P : Option (List Entry) → Type 0 = λ o. IfSome o (λ f. x (s.columns + (v - s.columns)) ≡ value_at x f) in
      let low = (is_form v j).0 in
      let same : s.columns + (v - s.columns) ≡ v = omega arith in
      ap x (sym same) ∙ subst P (form_at v j) (l.values (v - s.columns))

  back : (x : ℕ → Rational) → Solves b (start_dictionary s) x → (i : ℕ) → IfSome (slice_get s.forms i) (λ f. x (s.columns + i) ≡ value_at x f)
  back x l i = elim (dec_lt i (length s.forms)) [
    | yes inside ↦
        let P : Option (List Entry) → Type 0 = λ o. IfSome o (λ f. x (s.columns + i) ≡ value_at x f) in
        let N : ℕ → Type 0 = λ n. x (s.columns + i) ≡ value_at x (get_or s.forms n []) in
        let same : s.columns + i - s.columns ≡ i = omega arith in
        subst P (sym (slice_get-get_or s.forms i [] inside)) (subst N same (l.values (s.columns + i) (k.forms i inside)))
    | no past ↦
        let P : Option (List Entry) → Type 0 = λ o. IfSome o (λ f. x (s.columns + i) ≡ value_at x f) in
        subst P (sym (slice_get_past s.forms i (omega arith))) tt
  ]

  row_rests : (v : ℕ) → IsBasic b v → AllResting b (get_or s.forms (v - s.columns) [])
  row_rests v j =
      let P : Option (List Entry) → Type 0 = λ o. IfSome o (AllBelow s.columns) in
      all_rest (get_or s.forms (v - s.columns) []) (subst P (form_at v j) (h.forms (v - s.columns)))

  pub start_is_dictionary : IsDictionary s b (start_dictionary s)
  start_is_dictionary = record {
    size = k.size;
    over_resting = record { rows = row_rests; objective = all_rest s.objective h.objective };
    same_points = λ x. (λ l. record { values = sums_of x l }, λ l. record { values = back x l });
    same_objective = λ x l. refl;
  }

-- ---- the points of a system, by their columns

pub same_below : (n : ℕ) (x y : ℕ → Rational) (f : List Entry) → ((v : ℕ) → v < n → x v ≡ y v) → AllBelow n f → value_at x f ≡ value_at y f
same_below n x y [] h k = refl
same_below n x y (e ∷ f) h k = ap₂ (λ a b. e.coefficient *ℚ a +ℚ b) (h e.column k.0) (same_below n x y f h k.1)

pub extended-column : (s : System) (z : ℕ → Rational) (v : ℕ) → v < s.columns → extended s z v ≡ z v
extended-column s z v j = let e : nat_lt v s.columns ≡ true = grind (arith, nat_tests) in rw e refl

extended-form : (s : System) (z : ℕ → Rational) (v : ℕ) → s.columns ≤ v → extended s z v ≡ value_at z (get_or s.forms (v - s.columns) [])
extended-form s z v j = let e : nat_lt v s.columns ≡ false = grind (arith, nat_tests) in rw e refl

pub extended_satisfies : (s : System) (z : ℕ → Rational) → IsSystem s → Satisfies s (extended s z)
extended_satisfies s z h = record { values = values }
  where
    values : (i : ℕ) → IfSome (slice_get s.forms i) (λ f. extended s z (s.columns + i) ≡ value_at (extended s z) f)
    values i = elim (dec_lt i (length s.forms)) [
      | yes inside ↦
          let same : s.columns + i - s.columns ≡ i = omega arith in
          let P : Option (List Entry) → Type 0 = λ o. IfSome o (λ f. extended s z (s.columns + i) ≡ value_at (extended s z) f) in
          let R : Option (List Entry) → Type 0 = λ o. IfSome o (AllBelow s.columns) in
          let form = slice_get-get_or s.forms i [] inside in
          subst P (sym form) (extended-form s z (s.columns + i) (omega arith) ∙ ap (λ n. value_at z (get_or s.forms n [])) same
          ∙ sym (same_below s.columns (extended s z) z (get_or s.forms i []) (extended-column s z) (subst R form (h.forms i))))
      | no past ↦
          let P : Option (List Entry) → Type 0 = λ o. IfSome o (λ f. extended s z (s.columns + i) ≡ value_at (extended s z) f) in
          subst P (sym (slice_get_past s.forms i (omega arith))) tt
    ]

-- ---- the first point

first_rests_at : (s : System) (v : ℕ) (l u : Option Rational) → lower_of s v ≡ l → upper_of s v ≡ u → RestsAt s (first_place l u) v (first_number l u)
first_rests_at s v (Some l) u e f = e
first_rests_at s v None (Some u) e f = f
first_rests_at s v None None e f = (e, f, refl)

pub start_is_point : (s : System) (b : List Place) → IsSystem s → IsStart s b → IsBasicPoint s b (start_point s)
start_is_point s b h k = record { rests = rests; solves = extended_satisfies s (λ j. first_number (lower_of s j) (upper_of s j)) h }
  where
    rests : (v : ℕ) → v < length b → RestsAt s (place_of b v) v (start_point s v)
    rests v j = elim (dec_lt v s.columns) [
      | yes low ↦ rw (k.columns v low, extended-column s (λ i. first_number (lower_of s i) (upper_of s i)) v low) (first_rests_at s v (lower_of s v) (upper_of s v) refl refl)
      | no high ↦
          let n = k.size in
          let same : s.columns + (v - s.columns) ≡ v = omega arith in
          let P : ℕ → Type 0 = λ u. place_of b u ≡ Basic in
          let basic : place_of b v ≡ Basic = subst P same (k.forms (v - s.columns) (omega arith)) in
          rw basic tt
    ]
