-- A basic point pins the numbers of all columns.
use Rattle.std.proofs.Common.{◌≡◌, ◌∙◌, ℕ, zero, suc, ◌+◌, ◌-◌, ◌<◌, ◌≤◌, List, [], ◌∷◌, length, refl, sym, ap, subst, arith, Bool, true, false, Option, Some, None, IfSome, slice_get, inl, inr}
use Rattle.std.specs.Prelude.{◌⊎◌, cond, nat_lt, get_or, option_map}
use Rattle.std.proofs.lemmas.Bool.Decides.{nat_tests}
use Rattle.std.proofs.Math.Decide.{dec_lt}
use mathlib.Core.Path.{ap₂}
use Rattle.rational.specs.Rational.{Rational, ◌+ℚ◌, ◌*ℚ◌}
use Rattle.milp.specs.Form.{Entry, number_at, value_at}
use Rattle.milp.specs.Problem.{Row, Problem}
use Rattle.verdicts.specs.Certificate.{Side as SideOf, Weights, Derived}
use Rattle.verdicts.specs.WeightedSums.{AllBelow}
use Rattle.basis.specs.System.{System, size, Satisfies}
use Rattle.basis.specs.Dictionary.{place_of, IsResting, AllResting, Dictionary, IsDictionary, RestsAt, IsBasicPoint}
use Rattle.basis.specs.Node.{system_of, IsOverColumns}
use Rattle.basis.specs.Relaxation.{IsOptimalRelaxation}
use Rattle.basis.specs.declared.Place.{Place}
use Rattle.basis.specs.declared.Place.TheVariants.{Basic, AtLower, AtUpper, AtZero}
use Rattle.basis.proofs.Laws.{same_below, numbers-below, row_form, derived_form, node_size}
use Rattle.search_tree.specs.Pinned.{number_of, IsAtRest, at_lower, at_upper, at_zero, AgreeAtRest, IsPinned}

-- ---- a basic point

rests_by : (s : System) (x : List Rational) (p : Place) (u : ℕ) → RestsAt s p u (number_of s x u) → (p ≡ Basic) ⊎ IsAtRest s x u
rests_by s x Basic u h = inl refl
rests_by s x AtLower u h = inr (at_lower h)
rests_by s x AtUpper u h = inr (at_upper h)
rests_by s x AtZero u h = inr (at_zero h.0 h.1 h.2)

same_values : (b : List Place) (x y : ℕ → Rational) (f : List Entry) → ((u : ℕ) → IsResting b u → y u ≡ x u) → AllResting b f → value_at y f ≡ value_at x f
same_values b x y [] h k = refl
same_values b x y (e ∷ f) h k = ap₂ (λ a c. e.coefficient *ℚ a +ℚ c) (h e.column k.0) (same_values b x y f h k.1)

basic_pins : (s : System) (b : List Place) (d : Dictionary) (z : ℕ → Rational) (x : List Rational) → IsDictionary s b d → IsBasicPoint s b z → ((u : ℕ) → u < size s → number_of s x u ≡ z u)
    → (v : ℕ) → v < size s → number_at x v ≡ z v → IsPinned s x v
basic_pins s b d z x h k same v known number = record { tells = tells }
  where
    rests : (u : ℕ) → u < size s → (place_of b u ≡ Basic) ⊎ IsAtRest s x u
    rests u j = rests_by s x (place_of b u) u (subst (RestsAt s (place_of b u) u) (sym (same u j)) (k.rests u (subst (λ n. u < n) (sym h.size) j)))

    tells : (y : ℕ → Rational) → Satisfies s y → AgreeAtRest s x y → y v ≡ number_at x v
    tells y solves agree = elim (rests v known) [
      | inl basic ↦ ((h.same_points y).0 solves).values v basic ∙ same_values b z y (d.row v) resting (h.over_resting.rows v basic) ∙ sym (((h.same_points z).0 k.solves).values v basic) ∙ sym number
      | inr rest ↦ agree v known rest ∙ same v known ∙ sym number
    ]
      where
        resting : (u : ℕ) → IsResting b u → y u ≡ z u
        resting u r =
            let j : u < size s = subst (λ n. u < n) h.size r.known in
            elim (rests u j) [
              | inl basic ↦ absurd (r.not_basic basic)
              | inr rest ↦ agree u j rest ∙ same u j
            ]

-- ---- the numbers of a node's point

of_rows : (n : ℕ) (o : Option Row) → IfSome o (λ r. AllBelow n r.entries) → IfSome (option_map (λ (r : Row). r.entries) o) (AllBelow n)
of_rows n None k = tt
of_rows n (Some r) k = k

of_derived : (n : ℕ) (o : Option Derived) → IfSome o (λ d. AllBelow n d.form) → IfSome (option_map (λ (d : Derived). d.form) o) (AllBelow n)
of_derived n None k = tt
of_derived n (Some d) k = k

forms_below : (p : Problem) (ds : List Derived) (sides : List SideOf) → IsOverColumns p ds sides → (i : ℕ) → IfSome (slice_get ((system_of p ds sides).forms) i) (AllBelow (length p.columns))
forms_below p ds sides h i = elim (dec_lt i (length p.rows)) [
  | yes low ↦
      let P : Option (List Entry) → Type 0 = λ o. IfSome o (AllBelow (length p.columns)) in
      subst P (sym (row_form p ds sides i low)) (of_rows (length p.columns) (slice_get p.rows i) (h.rows i))
  | no high ↦
      let P : Option (List Entry) → Type 0 = λ o. IfSome o (AllBelow (length p.columns)) in
      let e : length p.rows + (i - length p.rows) ≡ i = omega arith in
      subst P (sym (derived_form p ds sides (i - length p.rows)) ∙ ap (slice_get ((system_of p ds sides).forms)) e) (of_derived (length p.columns) (slice_get ds (i - length p.rows)) (h.derived (i - length p.rows)))
]

form_there : (n : ℕ) (z y : ℕ → Rational) (v : Rational) (fs : List (List Entry)) (i : ℕ) → i < length fs → ((j : ℕ) → j < n → z j ≡ y j) → IfSome (slice_get fs i) (AllBelow n) → IfSome (slice_get fs i) (λ f. v ≡ value_at y f) → value_at z (get_or fs i []) ≡ v
form_there n z y v [] i h same below is = absurd (omega arith)
form_there n z y v (f ∷ fs) zero h same below is = same_below n z y f same below ∙ sym is
form_there n z y v (f ∷ fs) (suc i) h same below is = form_there n z y v fs i (omega arith) same below is

same_numbers : (s : System) (x : List Rational) (z : ℕ → Rational) → ((j : ℕ) → j < s.columns → number_at x j ≡ z j) → ((i : ℕ) → IfSome (slice_get s.forms i) (AllBelow s.columns)) → Satisfies s z → (u : ℕ) → u < size s → number_of s x u ≡ z u
same_numbers s x z same below solves u known = go (nat_lt u s.columns) refl
  where
    go : (t : Bool) → nat_lt u s.columns ≡ t → cond t (number_at x u) (value_at (number_at x) (get_or s.forms (u - s.columns) [])) ≡ z u
    go true e = same u (let low : u < s.columns = grind (arith, nat_tests) in low)
    go false e =
        let past : s.columns ≤ u = grind (arith, nat_tests) in
        let there : s.columns + (u - s.columns) ≡ u = omega arith in
        form_there s.columns (number_at x) z (z (s.columns + (u - s.columns))) s.forms (u - s.columns) (omega arith) same (below (u - s.columns)) (solves.values (u - s.columns)) ∙ ap z there

-- the point of an optimal basis pins the number of each column
pub found_pinned : (p : Problem) (ds : List Derived) (sides : List SideOf) (x : List Rational) (w : Weights) (b : List Place) (d : Dictionary) → IsOverColumns p ds sides → IsOptimalRelaxation p ds sides x w b d
    → (j : ℕ) → j < length p.columns → IsPinned (system_of p ds sides) x j
found_pinned p ds sides x w b d over h j known =
    let s = system_of p ds sides in
    let numbers : (i : ℕ) → i < length p.columns → number_at x i ≡ h.values i = λ i k. ap (λ y. number_at y i) h.point ∙ numbers-below (length p.columns) h.values i k in
    let same = same_numbers s x h.values numbers (forms_below p ds sides over) h.is_optimal.is_point.solves in
    let size = node_size p ds sides in
    basic_pins s b d h.values x h.is_optimal.is_dictionary h.is_optimal.is_point same j (omega arith) (numbers j known)
