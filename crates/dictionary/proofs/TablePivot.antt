-- A pivot of a table is one of its dictionary.
use Rattle.std.proofs.Common.{◌≡◌, ◌∙◌, ℕ, ◌<◌, ◌≢◌, List, [], length, get_or, set, sym, ap, subst}
use Rattle.std.proofs.lemmas.List.{length-set, get_or-set_same, get_or-set_other}
use Rattle.std.proofs.Math.Decide.{ℕ_discrete}
use mathlib.Core.Path.{ap₂}
use Rattle.rational.specs.Rational.{Rational, inv_ℚ, neg_ℚ, ◌+ℚ◌, ◌*ℚ◌, ◌/ℚ◌}
use Rattle.milp.specs.Form.{number_at}
use Rattle.basis.specs.Dictionary.{IsBasic, IsResting, rate_of, gain_of}
use Rattle.basis.specs.Bland.{exchanged}
use Rattle.basis.specs.Pivots.{IsPivoted}
use Rattle.basis.specs.declared.Place.{Place}
use Rattle.basis.specs.declared.Place.TheVariants.{Basic}
use Rattle.basis.proofs.Laws.{length-exchanged, leaves_rests, enters_basic, basic_after, stays_basic, basic_known}
use Rattle.dictionary.specs.Rows.{IsSolved, IsSubstituted}
use Rattle.dictionary.specs.Table.{Table, dictionary_of, IsTable, moved_positions, ArePivoted}
use Rattle.dictionary.proofs.TableForms.{rate_number, gain_number}

module _ (t : Table) (q r : ℕ) (place : Place) (rows : List (List Rational)) (gains : List Rational)
    (is_table : IsTable t.places t.positions t.rows t.gains) (enters : IsResting t.places q) (leaves : IsBasic t.places r) (stops : place ≢ Basic)
    (pivoted : ArePivoted t.rows t.gains (get_or t.positions r 0) (get_or t.positions q 0) rows gains) where
  same_count : length rows ≡ length t.rows
  same_count = pivoted.count

  solved : IsSolved (get_or t.rows (get_or t.positions r 0) []) (get_or t.positions q 0) (get_or rows (get_or t.positions r 0) [])
  solved = pivoted.solved

  others : (i : ℕ) → i < length t.rows → i ≢ get_or t.positions r 0 → IsSubstituted (get_or t.rows i []) (get_or rows (get_or t.positions r 0) []) (get_or t.positions q 0) (get_or rows i [])
  others = pivoted.others

  objective : IsSubstituted t.gains (get_or rows (get_or t.positions r 0) []) (get_or t.positions q 0) gains
  objective = pivoted.objective

  abbrev pub after : Table
  after = record { places = exchanged t.places q r place; positions = moved_positions t.positions q r; rows = rows; gains = gains }

  apart : q ≢ r
  apart h = let P : ℕ → Type 0 = IsBasic t.places in enters.not_basic (subst P (sym h) leaves)

  r_known : r < length t.places
  r_known = basic_known t.places r leaves

  position_r : get_or (moved_positions t.positions q r) r 0 ≡ get_or t.positions q 0
  position_r = get_or-set_same (set t.positions q (get_or t.positions r 0)) r (get_or t.positions q 0) 0 (rw (length-set t.positions q (get_or t.positions r 0), is_table.size) r_known)

  position_q : get_or (moved_positions t.positions q r) q 0 ≡ get_or t.positions r 0
  position_q = get_or-set_other (set t.positions q (get_or t.positions r 0)) r q (get_or t.positions q 0) 0 apart ∙ get_or-set_same t.positions q (get_or t.positions r 0) 0 (rw (is_table.size) enters.known)

  position_other : (v : ℕ) → v ≢ q → v ≢ r → get_or (moved_positions t.positions q r) v 0 ≡ get_or t.positions v 0
  position_other v n m = get_or-set_other (set t.positions q (get_or t.positions r 0)) r v (get_or t.positions q 0) 0 m ∙ get_or-set_other t.positions q v (get_or t.positions r 0) 0 n

  basic_apart : (v : ℕ) → IsBasic t.places v → v ≢ q
  basic_apart v j h = let P : ℕ → Type 0 = IsBasic t.places in enters.not_basic (subst P h j)

  rests_apart : (j : ℕ) → IsResting t.places j → j ≢ r
  rests_apart j h e = let P : ℕ → Type 0 = IsBasic t.places in h.not_basic (subst P (sym e) leaves)

  now_basic : IsBasic (exchanged t.places q r place) q
  now_basic = enters_basic t.places q r place enters.known apart

  rests_now : IsResting (exchanged t.places q r place) r
  rests_now = leaves_rests t.places q r place r_known stops

  still_rests : (j : ℕ) → IsResting t.places j → j ≢ q → IsResting (exchanged t.places q r place) j
  still_rests j h n = record {
    known = rw (length-exchanged t.places q r place) h.known;
    not_basic = λ w. h.not_basic ((basic_after t.places q r place j r_known stops w n).0);
  }

  rested_before : (j : ℕ) → j ≢ r → IsResting (exchanged t.places q r place) j → IsResting t.places j
  rested_before j n h = record {
    known = rw (← length-exchanged t.places q r place) h.known;
    not_basic = λ w. h.not_basic (stays_basic t.places q r place j w (basic_apart j w) n);
  }

  not_q : (j : ℕ) → IsResting (exchanged t.places q r place) j → j ≢ q
  not_q j h e = let P : ℕ → Type 0 = IsBasic (exchanged t.places q r place) in h.not_basic (subst P (sym e) now_basic)

  -- ---- sizes

  old_width : (v : ℕ) → IsBasic t.places v → length (get_or t.rows (get_or t.positions v 0) []) ≡ length t.gains
  old_width v h = is_table.widths (get_or t.positions v 0) (is_table.lines v h)

  place_apart : (j : ℕ) → IsResting t.places j → j ≢ q → get_or t.positions j 0 ≢ get_or t.positions q 0
  place_apart j h n e = n (is_table.columns_apart j q h enters e)

  line_apart : (v : ℕ) → IsBasic t.places v → v ≢ r → get_or t.positions v 0 ≢ get_or t.positions r 0
  line_apart v h n e = n (is_table.lines_apart v r h leaves e)

  -- ---- numbers before and after

  old_rate : (v j : ℕ) → IsResting t.places j → rate_of (dictionary_of t) j v ≡ number_at (get_or t.rows (get_or t.positions v 0) []) (get_or t.positions j 0)
  old_rate v j h = rate_number t j v h

  new_rate : (v j : ℕ) (line column : ℕ) → IsResting (exchanged t.places q r place) j → get_or (moved_positions t.positions q r) v 0 ≡ line → get_or (moved_positions t.positions q r) j 0 ≡ column
      → rate_of (dictionary_of after) j v ≡ number_at (get_or rows line []) column
  new_rate v j line column h e f = rate_number after j v h ∙ ap₂ (λ a c. number_at (get_or rows a []) c) e f

  new_gain : (j column : ℕ) → IsResting (exchanged t.places q r place) j → get_or (moved_positions t.positions q r) j 0 ≡ column → gain_of (dictionary_of after) j ≡ number_at gains column
  new_gain j column h f = gain_number after j h ∙ ap (number_at gains) f

  corner : rate_of (dictionary_of after) r q ≡ inv_ℚ (rate_of (dictionary_of t) q r)
  corner = new_rate q r _ _ rests_now position_q position_r ∙ solved.at_place ∙ ap inv_ℚ (sym (old_rate r q enters))

  corner_number : number_at (get_or rows (get_or t.positions r 0) []) (get_or t.positions q 0) ≡ inv_ℚ (rate_of (dictionary_of t) q r)
  corner_number = solved.at_place ∙ ap inv_ℚ (sym (old_rate r q enters))

  entering : (j : ℕ) → IsResting t.places j → j ≢ q → rate_of (dictionary_of after) j q ≡ number_at (get_or rows (get_or t.positions r 0) []) (get_or t.positions j 0)
  entering j h n = new_rate q j _ _ (still_rests j h n) position_q (position_other j n (rests_apart j h))

  entering_row : (j : ℕ) → IsResting t.places j → j ≢ q → rate_of (dictionary_of after) j q ≡ neg_ℚ (rate_of (dictionary_of t) j r /ℚ rate_of (dictionary_of t) q r)
  entering_row j h n =
      entering j h n
      ∙ solved.others (get_or t.positions j 0) (rw (old_width r leaves) (is_table.columns j h)) (place_apart j h n)
      ∙ ap₂ (λ a c. neg_ℚ (a /ℚ c)) (sym (old_rate r j h)) (sym (old_rate r q enters))

  -- the row of another basic variable
  row_after : (v : ℕ) → IsBasic t.places v → v ≢ r → IsSubstituted (get_or t.rows (get_or t.positions v 0) []) (get_or rows (get_or t.positions r 0) []) (get_or t.positions q 0) (get_or rows (get_or t.positions v 0) [])
  row_after v h n = others (get_or t.positions v 0) (is_table.lines v h) (line_apart v h n)

  pub table_pivoted : IsPivoted t.places (dictionary_of t) (dictionary_of after) q r
  table_pivoted = record {
    corner = corner;
    entering_row = entering_row;
    leaving_column = λ v h n.
        new_rate v r _ _ rests_now (position_other v (basic_apart v h) n) position_r ∙ (row_after v h n).at_place ∙ ap₂ ◌*ℚ◌ (sym (old_rate v q enters)) corner_number;
    others = λ v j h n k m.
        new_rate v j _ _ (still_rests j k m) (position_other v (basic_apart v h) n) (position_other j m (rests_apart j k))
        ∙ (row_after v h n).others (get_or t.positions j 0) (rw (old_width v h) (is_table.columns j k)) (place_apart j k m)
        ∙ ap₂ ◌+ℚ◌ (sym (old_rate v j k)) (ap₂ ◌*ℚ◌ (sym (old_rate v q enters)) (sym (entering j k m)));
    leaving_gain = new_gain r _ rests_now position_r ∙ objective.at_place ∙ ap₂ ◌*ℚ◌ (sym (gain_number t q enters)) corner_number;
    other_gains = λ j k m.
        new_gain j _ (still_rests j k m) (position_other j m (rests_apart j k))
        ∙ objective.others (get_or t.positions j 0) (is_table.columns j k) (place_apart j k m)
        ∙ ap₂ ◌+ℚ◌ (sym (gain_number t j k)) (ap₂ ◌*ℚ◌ (sym (gain_number t q enters)) (sym (entering j k m)));
  }

  -- ---- it is a table

  new_widths : (i : ℕ) → i < length rows → length (get_or rows i []) ≡ length gains
  new_widths i h = elim (ℕ_discrete i (get_or t.positions r 0)) [
    | yes same ↦ let P : ℕ → Type 0 = λ k. length (get_or rows k []) ≡ length gains in subst P (sym same) (solved.size ∙ old_width r leaves ∙ sym objective.size)
    | no n ↦ (others i (rw (← same_count) h) n).size ∙ is_table.widths i (rw (← same_count) h) ∙ sym objective.size
  ]

  new_columns : (j : ℕ) → IsResting (exchanged t.places q r place) j → get_or (moved_positions t.positions q r) j 0 < length gains
  new_columns j h = elim (ℕ_discrete j r) [
    | yes same ↦ let P : ℕ → Type 0 = λ k. get_or (moved_positions t.positions q r) k 0 < length gains in subst P (sym same) (rw (position_r, objective.size) (is_table.columns q enters))
    | no n ↦ rw (position_other j (not_q j h) n, objective.size) (is_table.columns j (rested_before j n h))
  ]

  new_lines : (v : ℕ) → IsBasic (exchanged t.places q r place) v → get_or (moved_positions t.positions q r) v 0 < length rows
  new_lines v h = elim (ℕ_discrete v q) [
    | yes same ↦ let P : ℕ → Type 0 = λ k. get_or (moved_positions t.positions q r) k 0 < length rows in subst P (sym same) (rw (position_q, same_count) (is_table.lines r leaves))
    | no n ↦ let old = basic_after t.places q r place v r_known stops h n in rw (position_other v n old.1, same_count) (is_table.lines v old.0)
  ]

  new_columns_apart : (j k : ℕ) → IsResting (exchanged t.places q r place) j → IsResting (exchanged t.places q r place) k → get_or (moved_positions t.positions q r) j 0 ≡ get_or (moved_positions t.positions q r) k 0 → j ≡ k
  new_columns_apart j k h l e = elim (ℕ_discrete j r) [
    | yes j_is ↦ elim (ℕ_discrete k r) [
      | yes k_is ↦ j_is ∙ sym k_is
      | no m ↦ absurd (not_q k l (sym (is_table.columns_apart q k enters (rested_before k m l)
          (sym position_r ∙ ap (λ v. get_or (moved_positions t.positions q r) v 0) (sym j_is) ∙ e ∙ position_other k (not_q k l) m))))
    ]
    | no n ↦ elim (ℕ_discrete k r) [
      | yes k_is ↦ absurd (not_q j h (is_table.columns_apart j q (rested_before j n h) enters
          (sym (position_other j (not_q j h) n) ∙ e ∙ ap (λ v. get_or (moved_positions t.positions q r) v 0) k_is ∙ position_r)))
      | no m ↦ is_table.columns_apart j k (rested_before j n h) (rested_before k m l) (sym (position_other j (not_q j h) n) ∙ e ∙ position_other k (not_q k l) m)
    ]
  ]

  new_lines_apart : (v w : ℕ) → IsBasic (exchanged t.places q r place) v → IsBasic (exchanged t.places q r place) w → get_or (moved_positions t.positions q r) v 0 ≡ get_or (moved_positions t.positions q r) w 0 → v ≡ w
  new_lines_apart v w h l e = elim (ℕ_discrete v q) [
    | yes v_is ↦ elim (ℕ_discrete w q) [
      | yes w_is ↦ v_is ∙ sym w_is
      | no m ↦ let old = basic_after t.places q r place w r_known stops l m in
          absurd (old.1 (sym (is_table.lines_apart r w leaves old.0 (sym position_q ∙ ap (λ u. get_or (moved_positions t.positions q r) u 0) (sym v_is) ∙ e ∙ position_other w m old.1))))
    ]
    | no n ↦ let old = basic_after t.places q r place v r_known stops h n in elim (ℕ_discrete w q) [
      | yes w_is ↦ absurd (old.1 (is_table.lines_apart v r old.0 leaves (sym (position_other v n old.1) ∙ e ∙ ap (λ u. get_or (moved_positions t.positions q r) u 0) w_is ∙ position_q)))
      | no m ↦ let other = basic_after t.places q r place w r_known stops l m in
          is_table.lines_apart v w old.0 other.0 (sym (position_other v n old.1) ∙ e ∙ position_other w m other.1)
    ]
  ]

  new_every_column : (c : ℕ) → c < length gains → (j : ℕ) × IsResting (exchanged t.places q r place) j × (get_or (moved_positions t.positions q r) j 0 ≡ c)
  new_every_column c h =
      let old = is_table.every_column c (rw (← objective.size) h) in
      elim (ℕ_discrete old.0 q) [
        | yes same ↦ (r, rests_now, position_r ∙ ap (λ v. get_or t.positions v 0) (sym same) ∙ old.2)
        | no n ↦ (old.0, still_rests old.0 old.1 n, position_other old.0 n (rests_apart old.0 old.1) ∙ old.2)
      ]

  new_every_line : (i : ℕ) → i < length rows → (v : ℕ) × IsBasic (exchanged t.places q r place) v × (get_or (moved_positions t.positions q r) v 0 ≡ i)
  new_every_line i h =
      let old = is_table.every_line i (rw (← same_count) h) in
      elim (ℕ_discrete old.0 r) [
        | yes same ↦ (q, now_basic, position_q ∙ ap (λ v. get_or t.positions v 0) (sym same) ∙ old.2)
        | no n ↦ (old.0, stays_basic t.places q r place old.0 old.1 (basic_apart old.0 old.1) n, position_other old.0 (basic_apart old.0 old.1) n ∙ old.2)
      ]

  pub table_after : IsTable (exchanged t.places q r place) (moved_positions t.positions q r) rows gains
  table_after = record {
    size = length-set (set t.positions q (get_or t.positions r 0)) r (get_or t.positions q 0) ∙ length-set t.positions q (get_or t.positions r 0) ∙ is_table.size ∙ sym (length-exchanged t.places q r place);
    widths = new_widths;
    columns = new_columns;
    lines = new_lines;
    columns_apart = new_columns_apart;
    lines_apart = new_lines_apart;
    every_column = new_every_column;
    every_line = new_every_line;
  }
