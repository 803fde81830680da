-- The table at the start of a run is the dictionary there.
use Rattle.std.proofs.Common.{◌≡◌, ◌∙◌, ℕ, ◌+◌, ◌-◌, ◌<◌, ◌≤◌, ◌≢◌, List, [], length, get_or, refl, sym, ap, subst, arith, Option, Some, None, inl, inr}
use mathlib.Core.Path.{ap₂}
use Rattle.std.proofs.Math.Decide.{dec_lt}
use Rattle.rational.specs.Rational.{Rational}
use Rattle.milp.specs.Form.{Entry, value_at, number_at}
use Rattle.verdicts.specs.WeightedSums.{coefficient_of}
use Rattle.verdicts.proofs.Laws.{same_value}
use Rattle.basis.specs.System.{System, size, lower_of, upper_of}
use Rattle.basis.specs.Dictionary.{place_of, IsBasic, IsResting, AllResting, IsOverResting, Dictionary, Solves, IsDictionary, rate_of, gain_of}
use Rattle.basis.specs.Bland.{first_place, IsStart, start_dictionary}
use Rattle.basis.specs.declared.Place.{Place}
use Rattle.basis.specs.declared.Place.TheVariants.{Basic}
use Rattle.basis.proofs.Laws.{below, basic_known, rests_or, not_resting}
use Rattle.dictionary.specs.Start.{IsDense, AreDense, AreCounted, AreBasicPast, ArePositions, IsStartTable}
use Rattle.dictionary.specs.Table.{Table, dictionary_of, IsTable}
use Rattle.dictionary.proofs.TableForms.{rate_number, gain_number, is_over_resting}

-- ---- places

pub none_basic : (old : List Place) → AreBasicPast old 0 old
none_basic old = record { size = omega arith; kept = λ i h. refl; basic = λ k h. absurd (omega arith) }

pub start_places : (s : System) (n m : ℕ) (places new : List Place) → n ≡ s.columns → m ≡ length s.forms → length places ≡ n → ((v : ℕ) → v < n → place_of places v ≡ first_place (lower_of s v) (upper_of s v))
    → AreBasicPast places m new → IsStart s new
start_places s n m places new e f size all h = record {
  size = h.size ∙ (omega arith);
  columns = λ v k. h.kept v (omega arith) ∙ all v (omega arith);
  forms = λ k l. let P : ℕ → Type 0 = IsBasic new in let g : length places + k ≡ s.columns + k = omega arith in subst P g (h.basic k (omega arith));
}

-- ---- positions

pub counted_twice : (n m : ℕ) (old mid new : List ℕ) → old ≡ [] → AreCounted old n mid → AreCounted mid m new → ArePositions n m new
counted_twice n m old mid new e h k = record {
  size = k.size ∙ (let f = h.size in let g = ap length e in omega arith);
  columns = λ j l. k.kept j (let f = h.size in let g = ap length e in omega arith) ∙ ap (λ i. get_or mid i 0) (let g = ap length e in let r : j ≡ length old + j = omega arith in r) ∙ h.counted j l;
  forms = λ i l. ap (λ v. get_or new v 0) (let f = h.size in let g = ap length e in let r : n + i ≡ length mid + i = omega arith in r) ∙ k.counted i l;
}

-- ---- forms with the numbers of a dictionary

value_alike : (b : List Place) (f g : List Entry) → AllResting b f → AllResting b g → ((j : ℕ) → IsResting b j → coefficient_of f j ≡ coefficient_of g j) → (x : ℕ → Rational) → value_at x f ≡ value_at x g
value_alike b f g h k same x = same_value (length b) x f g (below b (length b) f refl h) (below b (length b) g refl k) all
  where
    all : (j : ℕ) → coefficient_of f j ≡ coefficient_of g j
    all j = elim (rests_or b j) [
      | inl rests ↦ same j rests
      | inr n ↦ not_resting b f j h n ∙ sym (not_resting b g j k n)
    ]

pub same_numbers : (s : System) (b : List Place) (d e : Dictionary) → IsDictionary s b d → IsOverResting b e → ((v j : ℕ) → IsBasic b v → IsResting b j → rate_of e j v ≡ rate_of d j v)
    → ((j : ℕ) → IsResting b j → gain_of e j ≡ gain_of d j) → IsDictionary s b e
same_numbers s b d e h over rates gains = record {
  size = h.size;
  over_resting = over;
  same_points = λ x. (λ sat. there x ((h.same_points x).0 sat), λ sol. (h.same_points x).1 (back x sol));
  same_objective = λ x sat. h.same_objective x sat ∙ sym (value_alike b e.objective d.objective over.objective h.over_resting.objective gains x);
}
  where
    row : (v : ℕ) → IsBasic b v → (x : ℕ → Rational) → value_at x (e.row v) ≡ value_at x (d.row v)
    row v k x = value_alike b (e.row v) (d.row v) (over.rows v k) (h.over_resting.rows v k) (λ j. rates v j k) x

    there : (x : ℕ → Rational) → Solves b d x → Solves b e x
    there x sol = record { values = λ v k. sol.values v k ∙ sym (row v k x) }

    back : (x : ℕ → Rational) → Solves b e x → Solves b d x
    back x sol = record { values = λ v k. sol.values v k ∙ row v k x }

-- ---- the table

module _ (s : System) (t : Table) (h : IsStartTable s t) where
  sizes : length t.places ≡ s.columns + length s.forms
  sizes = h.is_start.size

  not_basic : (l u : Option Rational) → first_place l u ≢ Basic
  not_basic (Some a) u e = cc
  not_basic None (Some b) e = cc
  not_basic None None e = cc

  column_rests : (j : ℕ) → j < s.columns → IsResting t.places j
  column_rests j l = record { known = (let e = sizes in omega arith); not_basic = λ e. not_basic (lower_of s j) (upper_of s j) (sym (h.is_start.columns j l) ∙ e) }

  resting_column : (j : ℕ) → IsResting t.places j → j < s.columns
  resting_column j r = elim (dec_lt j s.columns) [
    | yes low ↦ low
    | no high ↦
        let k = r.known in let e = sizes in
        let P : ℕ → Type 0 = IsBasic t.places in
        let at : s.columns + (j - s.columns) ≡ j = omega arith in
        absurd (r.not_basic (subst P at (h.is_start.forms (j - s.columns) (omega arith))))
  ]

  basic_form : (v : ℕ) → IsBasic t.places v → (s.columns ≤ v) × (v < s.columns + length s.forms)
  basic_form v b = elim (dec_lt v s.columns) [
    | yes low ↦ absurd ((column_rests v low).not_basic b)
    | no high ↦ (omega arith, (let k = basic_known t.places v b in let e = sizes in omega arith))
  ]

  column_at : (j : ℕ) → IsResting t.places j → get_or t.positions j 0 ≡ j
  column_at j r = h.positions.columns j (resting_column j r)

  line_at : (v : ℕ) → IsBasic t.places v → get_or t.positions v 0 ≡ v - s.columns
  line_at v b =
      let in_range = basic_form v b in
      let at : v ≡ s.columns + (v - s.columns) = (let k = in_range.0 in omega arith) in
      ap (λ i. get_or t.positions i 0) at ∙ h.positions.forms (v - s.columns) (let k = in_range.0 in let l = in_range.1 in omega arith)

  pub start_table : IsTable t.places t.positions t.rows t.gains
  start_table = record {
    size = h.positions.size ∙ sym sizes;
    widths = λ i l. (h.rows.each i (rw (← h.rows.count) l)).size ∙ sym h.gains.size;
    columns = λ j r. rw (column_at j r, h.gains.size) (resting_column j r);
    lines = λ v b. (let in_range = basic_form v b in let k = in_range.0 in let l = in_range.1 in rw (line_at v b, h.rows.count) (omega arith));
    columns_apart = λ j k r q e. sym (column_at j r) ∙ e ∙ column_at k q;
    lines_apart = λ v w b c e. (let p = basic_form v b in let q = basic_form w c in let k = p.0 in let l = q.0 in let same : v - s.columns ≡ w - s.columns = sym (line_at v b) ∙ e ∙ line_at w c in omega arith);
    every_column = λ c l. (c, column_rests c (rw (← h.gains.size) l), h.positions.columns c (rw (← h.gains.size) l));
    every_line = λ i l. (s.columns + i, h.is_start.forms i (rw (← h.rows.count) l), h.positions.forms i (rw (← h.rows.count) l));
  }

  rate_is : (v j : ℕ) → IsBasic t.places v → IsResting t.places j → rate_of (dictionary_of t) j v ≡ rate_of (start_dictionary s) j v
  rate_is v j b r =
      rate_number t j v r ∙ ap₂ (λ i c. number_at (get_or t.rows i []) c) (line_at v b) (column_at j r)
      ∙ (h.rows.each (v - s.columns) (let p = basic_form v b in let k = p.0 in let l = p.1 in omega arith)).numbers j (resting_column j r)

  gain_is : (j : ℕ) → IsResting t.places j → gain_of (dictionary_of t) j ≡ gain_of (start_dictionary s) j
  gain_is j r = gain_number t j r ∙ ap (number_at t.gains) (column_at j r) ∙ h.gains.numbers j (resting_column j r)

  pub start_is_dictionary : IsDictionary s t.places (start_dictionary s) → IsDictionary s t.places (dictionary_of t)
  start_is_dictionary d = same_numbers s t.places (start_dictionary s) (dictionary_of t) d (is_over_resting t) rate_is gain_is

pub made_start : (s : System) (n : ℕ) (forms : List (List Entry)) (objective : List Entry) (places : List Place) (positions : List ℕ) (rows : List (List Rational)) (gains : List Rational)
    → n ≡ s.columns → forms ≡ s.forms → objective ≡ s.objective → IsStart s places → ArePositions n (length forms) positions → AreDense n forms rows → IsDense n objective gains
    → IsStartTable s (record { places = places; positions = positions; rows = rows; gains = gains })
made_start s n forms objective places positions rows gains e f g start at dense last = record {
  is_start = start;
  positions = let P : ℕ → ℕ → Type 0 = λ a b. ArePositions a b positions in rw (← e, ← f) at;
  rows = let P : ℕ → List (List Entry) → Type 0 = λ a b. AreDense a b rows in rw (← e, ← f) dense;
  gains = let P : ℕ → List Entry → Type 0 = λ a b. IsDense a b gains in rw (← e, ← g) last;
}
