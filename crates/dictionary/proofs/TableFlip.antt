-- A table where a resting variable goes to another place.
use Rattle.std.proofs.Common.{◌≡◌, ◌∙◌, ℕ, ◌≢◌, List, sym, subst}
use Rattle.std.proofs.Math.Decide.{ℕ_discrete}
use Rattle.basis.specs.System.{System}
use Rattle.basis.specs.Dictionary.{IsBasic, IsResting, IsDictionary}
use Rattle.basis.specs.Bland.{exchanged}
use Rattle.basis.specs.declared.Place.{Place}
use Rattle.basis.specs.declared.Place.TheVariants.{Basic}
use Rattle.basis.proofs.Laws.{length-exchanged, leaves_rests, other_place}
use Rattle.dictionary.specs.Table.{Table, dictionary_of, IsTable}
use Rattle.dictionary.proofs.TableForms.{rate_number, gain_number, is_over_resting}
use Rattle.dictionary.proofs.StartTable.{same_numbers}

module _ (t : Table) (q : ℕ) (place : Place) (is_table : IsTable t.places t.positions t.rows t.gains) (rests : IsResting t.places q) (stops : place ≢ Basic) where
  abbrev pub flipped : Table
  flipped = record { places = exchanged t.places q q place; positions = t.positions; rows = t.rows; gains = t.gains }

  apart : (v : ℕ) → IsBasic t.places v → v ≢ q
  apart v b e = let P : ℕ → Type 0 = IsBasic t.places in rests.not_basic (subst P e b)

  basic_on : (v : ℕ) → IsBasic t.places v → IsBasic (exchanged t.places q q place) v
  basic_on v b = other_place t.places q q place v (apart v b) (apart v b) ∙ b

  basic_back : (v : ℕ) → IsBasic (exchanged t.places q q place) v → IsBasic t.places v
  basic_back v b = elim (ℕ_discrete v q) [
    | yes same ↦ let P : ℕ → Type 0 = IsBasic (exchanged t.places q q place) in absurd ((leaves_rests t.places q q place rests.known stops).not_basic (subst P same b))
    | no n ↦ sym (other_place t.places q q place v n n) ∙ b
  ]

  resting_on : (j : ℕ) → IsResting t.places j → IsResting (exchanged t.places q q place) j
  resting_on j h = record { known = rw (length-exchanged t.places q q place) h.known; not_basic = λ w. h.not_basic (basic_back j w) }

  resting_back : (j : ℕ) → IsResting (exchanged t.places q q place) j → IsResting t.places j
  resting_back j h = record { known = rw (← length-exchanged t.places q q place) h.known; not_basic = λ w. h.not_basic (basic_on j w) }

  pub table_flipped : IsTable (exchanged t.places q q place) t.positions t.rows t.gains
  table_flipped = record {
    size = is_table.size ∙ sym (length-exchanged t.places q q place);
    widths = is_table.widths;
    columns = λ j h. is_table.columns j (resting_back j h);
    lines = λ v b. is_table.lines v (basic_back v b);
    columns_apart = λ j k h l. is_table.columns_apart j k (resting_back j h) (resting_back k l);
    lines_apart = λ v w b c. is_table.lines_apart v w (basic_back v b) (basic_back w c);
    every_column = λ c h. (let old = is_table.every_column c h in (old.0, resting_on old.0 old.1, old.2));
    every_line = λ i h. (let old = is_table.every_line i h in (old.0, basic_on old.0 old.1, old.2));
  }

  pub flipped_dictionary : (s : System) → IsDictionary s (exchanged t.places q q place) (dictionary_of t) → IsDictionary s (exchanged t.places q q place) (dictionary_of flipped)
  flipped_dictionary s h = same_numbers s (exchanged t.places q q place) (dictionary_of t) (dictionary_of flipped) h (is_over_resting flipped)
      (λ v j b r. rate_number flipped j v r ∙ sym (rate_number t j v (resting_back j r)))
      (λ j r. gain_number flipped j r ∙ sym (gain_number t j (resting_back j r)))

pub made_flip : (t : Table) (q : ℕ) (place : Place) (places : List Place) → places ≡ exchanged t.places q q place → IsTable t.places t.positions t.rows t.gains → IsResting t.places q → place ≢ Basic
    → IsTable places t.positions t.rows t.gains
made_flip t q place places e h rests stops = let P : List Place → Type 0 = λ b. IsTable b t.positions t.rows t.gains in subst P (sym e) (table_flipped t q place h rests stops)

pub made_flip_dictionary : (t : Table) (q : ℕ) (place : Place) (places : List Place) (s : System) → places ≡ exchanged t.places q q place → IsTable t.places t.positions t.rows t.gains → IsResting t.places q → place ≢ Basic
    → IsDictionary s (exchanged t.places q q place) (dictionary_of t) → IsDictionary s places (dictionary_of (record { places = places; positions = t.positions; rows = t.rows; gains = t.gains }))
made_flip_dictionary t q place places s e h rests stops d =
    let P : List Place → Type 0 = λ b. IsDictionary s b (dictionary_of (record { places = b; positions = t.positions; rows = t.rows; gains = t.gains })) in
    subst P (sym e) (flipped_dictionary t q place h rests stops s d)
