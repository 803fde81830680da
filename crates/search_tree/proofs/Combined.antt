-- Weights of what rests at a point that make a column alone pin its number.
use Rattle.std.proofs.Common.{◌≡◌, ◌∙◌, ℕ, zero, suc, ◌+◌, ◌-◌, ◌<◌, List, [], ◌∷◌, ◌++◌, length, refl, sym, ap, subst, arith, Bool, true, false, ◌==◌, Option, Some, None, IfSome, slice_get}
use Rattle.std.specs.Prelude.{nat_lt, get_or, map, option_map, option_and_then}
use Rattle.std.proofs.lemmas.Bool.{and_parts}
use Rattle.std.proofs.lemmas.Bool.Decides.{nat_tests}
use Rattle.std.proofs.lemmas.Option.{slice_get_within}
use mathlib.Core.Path.{ap₂}
use Rattle.rational.specs.Rational.{Rational, one_ℚ, ◌+ℚ◌, ◌*ℚ◌}
use Rattle.rational.specs.Compare.{is_same}
use Rattle.rational.proofs.Laws as Q
use Rattle.rational.proofs.Laws.{same_true}
use Rattle.milp.specs.Form.{Entry, number_at, value_at, sum_at}
use Rattle.milp.specs.Problem.{Row, Problem}
use Rattle.instance.specs.Sums.{form_of as form_of_row}
use Rattle.verdicts.specs.Certificate.{Item, Weights, Side, Derived}
use Rattle.verdicts.specs.WeightedSums.{scaled, AllBelow, sum_below, coefficient_of}
use Rattle.verdicts.specs.Proves.{same_form, lower_under, upper_under}
use Rattle.verdicts.proofs.Laws.{value_by_column, value-append, value-scaled}
use Rattle.basis.specs.System.{Bounds, lower_of, upper_of, Satisfies, unit_form}
use Rattle.basis.specs.Node.{column_bounds, row_bounds, derived_bounds, system_of, IsOverColumns}
use Rattle.basis.proofs.Laws.{length-columns, node_size, row_form, row-lower, row-upper, slice_get_left}
use Rattle.cert_check.specs.Setting.{Setting}
use Rattle.cert_check.specs.Made.{of_items, row_forms, column_forms, derived_forms, made_form}
use Rattle.search_tree.specs.Work.{node_setting}
use Rattle.search_tree.specs.Pinned.{number_of, IsAtRest, AgreeAtRest, IsPinned}
use Rattle.search_tree.specs.Pinned as rest
use Rattle.search_tree.specs.Told.{IsAtBound, at_lower, at_upper, at_zero, IsRowAtRest, IsColumnAtRest, AreRowsAtRest, AreColumnsAtRest}

-- ---- forms with the same coefficients

same_sum : (n : ℕ) (x : ℕ → Rational) (f g : List Entry) → same_form n f g ≡ true → sum_below n (λ j. coefficient_of f j *ℚ x j) ≡ sum_below n (λ j. coefficient_of g j *ℚ x j)
same_sum zero x f g h = refl
same_sum (suc n) x f g h =
    let both = and_parts (is_same (coefficient_of f n) (coefficient_of g n)) (same_form n f g) h in
    ap₂ (λ a b. a +ℚ b) (ap (λ c. c *ℚ x n) (same_true _ _ both.0)) (same_sum n x f g both.1)

same_forms : (n : ℕ) (x : ℕ → Rational) (f g : List Entry) → AllBelow n f → AllBelow n g → same_form n f g ≡ true → value_at x f ≡ value_at x g
same_forms n x f g a b h = value_by_column n x f a ∙ same_sum n x f g h ∙ sym (value_by_column n x g b)

below_both : (n : ℕ) (f g : List Entry) → AllBelow n f → AllBelow n g → AllBelow n (f ++ g)
below_both n [] g a b = b
below_both n (e ∷ f) g a b = (a.0, below_both n f g a.1 b)

below_scaled : (n : ℕ) (w : Rational) (f : List Entry) → AllBelow n f → AllBelow n (scaled w f)
below_scaled n w [] a = tt
below_scaled n w (e ∷ f) a = (a.0, below_scaled n w f a.1)

-- ---- items whose forms are over columns, and have the same value at y as at z

pub record IsTold (n : ℕ) (y z : ℕ → Rational) (form : List Entry) : Type 0 where
  pub below : AllBelow n form
  pub same : value_at y form ≡ value_at z form

items_told : (n : ℕ) (y z : ℕ → Rational) (f : ℕ → List Entry) (items : List Item) → ((k : ℕ) → IfSome (slice_get items k) (λ i. IsTold n y z (f i.index))) → IsTold n y z (of_items f items)
items_told n y z f [] h = record { below = tt; same = refl }
items_told n y z f (i ∷ is) h =
    let first : IsTold n y z (f i.index) = h zero in
    let others = items_told n y z f is (λ k. h (suc k)) in
    record {
      below = below_both n (scaled i.weight (f i.index)) (of_items f is) (below_scaled n i.weight (f i.index) first.below) others.below;
      same = value-append y (scaled i.weight (f i.index)) (of_items f is)
          ∙ ap₂ (λ a b. a +ℚ b) (value-scaled y i.weight (f i.index) ∙ ap (λ v. i.weight *ℚ v) first.same ∙ sym (value-scaled z i.weight (f i.index))) others.same
          ∙ sym (value-append z (scaled i.weight (f i.index)) (of_items f is));
    }

both_told : (n : ℕ) (y z : ℕ → Rational) (f g : List Entry) → IsTold n y z f → IsTold n y z g → IsTold n y z (f ++ g)
both_told n y z f g h k = record { below = below_both n f g h.below k.below; same = value-append y f g ∙ ap₂ (λ a b. a +ℚ b) h.same k.same ∙ sym (value-append z f g) }

-- ---- a node's columns and rows

value_unit : (y : ℕ → Rational) (j : ℕ) → value_at y (unit_form j) ≡ y j
value_unit y j = Q.add-zero (one_ℚ *ℚ y j) ∙ Q.one-mul (y j)

column_bounds_at : (p : Problem) (sides : List Side) (i count j : ℕ) → j < count → slice_get (column_bounds p sides i count) j ≡ Some (record { lower = lower_under p sides (i + j); upper = upper_under p sides (i + j) })
column_bounds_at p sides i zero j h = absurd (omega arith)
column_bounds_at p sides i (suc count) zero h = let e : i ≡ i + 0 = omega arith in ap (λ t. Some (record { lower = lower_under p sides t; upper = upper_under p sides t })) e
column_bounds_at p sides i (suc count) (suc j) h =
    let e : suc i + j ≡ i + suc j = omega arith in
    column_bounds_at p sides (suc i) count j (omega arith) ∙ ap (λ t. Some (record { lower = lower_under p sides t; upper = upper_under p sides t })) e

module _ (p : Problem) (ds : List Derived) (sides : List Side) where
  column_place : (j : ℕ) → j < length p.columns → slice_get ((system_of p ds sides).bounds) j ≡ Some (record { lower = lower_under p sides j; upper = upper_under p sides j })
  column_place j h =
      let e : 0 + j ≡ j = omega arith in
      let k = length-columns p sides 0 (length p.columns) in
      slice_get_left (column_bounds p sides 0 (length p.columns)) (map row_bounds p.rows ++ map derived_bounds ds) j (rw k h)
      ∙ column_bounds_at p sides 0 (length p.columns) j h ∙ ap (λ t. Some (record { lower = lower_under p sides t; upper = upper_under p sides t })) e

  at_rest : (x : List Rational) (u : ℕ) (lower upper : Option Rational) (v : Rational) → lower_of (system_of p ds sides) u ≡ lower → upper_of (system_of p ds sides) u ≡ upper → number_of (system_of p ds sides) x u ≡ v → IsAtBound lower upper v → IsAtRest (system_of p ds sides) x u
  at_rest x u lower upper v l h e (at_lower k) = rest.at_lower (l ∙ k ∙ ap Some (sym e))
  at_rest x u lower upper v l h e (at_upper k) = rest.at_upper (h ∙ k ∙ ap Some (sym e))
  at_rest x u lower upper v l h e (at_zero j k z) = rest.at_zero (l ∙ j) (h ∙ k) (e ∙ z)

  column_number : (x : List Rational) (j : ℕ) → j < length p.columns → number_of (system_of p ds sides) x j ≡ number_at x j
  column_number x j h = let e : nat_lt j (length p.columns) ≡ true = grind (arith, nat_tests) in rw e refl

  there : (fs : List (List Entry)) (i : ℕ) (f : List Entry) → slice_get fs i ≡ Some f → get_or fs i [] ≡ f
  there [] i f h = cc
  there (g ∷ fs) zero f h = let P : Option (List Entry) → Type 0 = λ o. IfSome o (λ e. g ≡ e) in subst P h refl
  there (g ∷ fs) (suc i) f h = there fs i f h

  row_number : (x : List Rational) (i : ℕ) (r : Row) → i < length p.rows → slice_get p.rows i ≡ Some r → number_of (system_of p ds sides) x (length p.columns + i) ≡ sum_at x r.entries
  row_number x i r h e =
      let past : nat_lt (length p.columns + i) (length p.columns) ≡ false = grind (arith, nat_tests) in
      let place : length p.columns + i - length p.columns ≡ i = omega arith in
      let form = row_form p ds sides i h ∙ ap (option_map (λ (t : Row). t.entries)) e in
      rw past (ap (λ n. value_at (number_at x) (get_or ((system_of p ds sides).forms) n [])) place ∙ ap (value_at (number_at x)) (there ((system_of p ds sides).forms) i r.entries form))

  row_solved : (y : ℕ → Rational) (i : ℕ) (r : Row) → i < length p.rows → slice_get p.rows i ≡ Some r → Satisfies (system_of p ds sides) y → y (length p.columns + i) ≡ value_at y r.entries
  row_solved y i r h e solves =
      let form = row_form p ds sides i h ∙ ap (option_map (λ (t : Row). t.entries)) e in
      let P : Option (List Entry) → Type 0 = λ o. IfSome o (λ f. y (length p.columns + i) ≡ value_at y f) in
      subst P form (solves.values i)

  module _ (over : IsOverColumns p ds sides) (x : List Rational) (y : ℕ → Rational) (solves : Satisfies (system_of p ds sides) y) (agree : AgreeAtRest (system_of p ds sides) x y) where
    column_told : (j : ℕ) → IsColumnAtRest p sides x j → IsTold (length p.columns) y (number_at x) (column_forms j)
    column_told j h =
        let place = column_place j h.known in
        let total = node_size p ds sides in
        let rests = at_rest x j (lower_under p sides j) (upper_under p sides j) (number_at x j) (ap (option_and_then (λ (b : Bounds). b.lower)) place) (ap (option_and_then (λ (b : Bounds). b.upper)) place) (column_number x j h.known) h.rests in
        record {
          below = (h.known, tt);
          same = value_unit y j ∙ agree j (omega (arith, h.known)) rests ∙ column_number x j h.known ∙ sym (value_unit (number_at x) j);
        }

    row_told : (i : ℕ) → IsRowAtRest p x i → IsTold (length p.columns) y (number_at x) (row_forms (node_setting p ds sides) i)
    row_told i h =
        let known : i < length p.rows = slice_get_within p.rows i h.row h.there in
        let total = node_size p ds sides in
        let rests = at_rest x (length p.columns + i) h.row.lower h.row.upper (sum_at x h.row.entries) (row-lower p ds sides i h.row known h.there) (row-upper p ds sides i h.row known h.there) (row_number x i h.row known h.there) h.rests in
        let below : AllBelow (length p.columns) h.row.entries = (let P : Option Row → Type 0 = λ o. IfSome o (λ r. AllBelow (length p.columns) r.entries) in subst P h.there (over.rows i)) in
        let T : Option Row → Type 0 = λ o. IsTold (length p.columns) y (number_at x) (form_of_row o) in
        subst T (sym h.there) (record {
          below = below;
          same = sym (row_solved y i h.row known h.there solves) ∙ agree (length p.columns + i) (omega (arith, known)) rests ∙ row_number x i h.row known h.there;
        })

    none_told : (items : List Item) → items ≡ [] → IsTold (length p.columns) y (number_at x) (of_items (derived_forms (node_setting p ds sides)) items)
    none_told items e = let T : List Item → Type 0 = λ is. IsTold (length p.columns) y (number_at x) (of_items (derived_forms (node_setting p ds sides)) is) in subst T (sym e) (record { below = tt; same = refl })

each : {X : Type 0} (P Q : X → Type 0) (xs : List X) → ((x : X) → P x → Q x) → ((k : ℕ) → IfSome (slice_get xs k) P) → (k : ℕ) → IfSome (slice_get xs k) Q
each P Q xs f h k = go (slice_get xs k) (h k)
  where
    go : (o : Option _) → IfSome o P → IfSome o Q
    go None h = tt
    go (Some x) h = f x h

pub told_pins : (p : Problem) (ds : List Derived) (sides : List Side) (x : List Rational) (w : Weights) (j : ℕ) → IsOverColumns p ds sides → j < length p.columns → AreRowsAtRest p x w.rows → AreColumnsAtRest p sides x w.columns → w.derived ≡ []
    → same_form (length p.columns) (made_form (node_setting p ds sides) w) (unit_form j) ≡ true → IsPinned (system_of p ds sides) x j
told_pins p ds sides x w j over known rows columns none form = record { tells = tells }
  where
    s : Setting
    s = node_setting p ds sides

    tells : (y : ℕ → Rational) → Satisfies (system_of p ds sides) y → AgreeAtRest (system_of p ds sides) x y → y j ≡ number_at x j
    tells y solves agree =
        let n = length p.columns in
        let told : IsTold n y (number_at x) (made_form s w) =
        both_told n y (number_at x) (of_items (row_forms s) w.rows) (of_items (column_forms) w.columns ++ of_items (derived_forms s) w.derived)
        (items_told n y (number_at x) (row_forms s) w.rows (each (λ (i : Item). IsRowAtRest p x i.index) (λ (i : Item). IsTold n y (number_at x) (row_forms s i.index)) w.rows (λ i h. row_told p ds sides over x y solves agree i.index h) rows))
        (both_told n y (number_at x) (of_items (column_forms) w.columns) (of_items (derived_forms s) w.derived)
        (items_told n y (number_at x) (column_forms) w.columns (each (λ (i : Item). IsColumnAtRest p sides x i.index) (λ (i : Item). IsTold n y (number_at x) (column_forms i.index)) w.columns (λ i h. column_told p ds sides over x y solves agree i.index h) columns))
        (none_told p ds sides over x y solves agree w.derived none)) in
        sym (value_unit y j) ∙ sym (same_forms n y (made_form s w) (unit_form j) told.below (known, tt) form) ∙ told.same ∙ same_forms n (number_at x) (made_form s w) (unit_form j) told.below (known, tt) form ∙ value_unit (number_at x) j

empty_is : (xs : List Item) → (length xs == 0) ≡ true → xs ≡ []
empty_is [] h = refl
empty_is (x ∷ xs) h = let never : length (x ∷ xs) ≡ 0 = grind (arith, nat_tests) in absurd (omega (arith, never))

pub none_named : (xs items : List Item) (empty : Bool) → xs ≡ items → empty ≡ (length xs == 0) → empty ≡ true → items ≡ []
none_named xs items empty e h t = sym e ∙ empty_is xs (sym h ∙ t)
