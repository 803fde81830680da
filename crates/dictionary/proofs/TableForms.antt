-- The numbers of the dictionary that a table is.
use Rattle.std.proofs.Common.{◌≡◌, ◌∙◌, ℕ, zero, suc, ◌+◌, ◌<◌, ◌≤◌, ◌≢◌, List, [], ◌∷◌, length, get_or, refl, sym, ap, arith, cond, Bool, true, false, ◌==◌}
use Rattle.std.proofs.lemmas.Bool.Decides.{nat_tests}
use Rattle.std.proofs.Math.Decide.{ℕ_discrete}
use Rattle.rational.specs.Rational.{Rational, zero_ℚ, ◌+ℚ◌}
use Rattle.rational.proofs.Laws as Q
use Rattle.milp.specs.Form.{number_at}
use Rattle.verdicts.specs.WeightedSums.{coefficient_of}
use Rattle.basis.specs.Dictionary.{place_of, IsResting, AllResting, IsOverResting, rate_of, gain_of}
use Rattle.basis.specs.declared.Place.{Place}
use Rattle.basis.specs.declared.Place.TheVariants.{Basic, AtLower, AtUpper, AtZero}
use Rattle.dictionary.specs.Table.{Table, is_basic, position_of, row_of, resting_form, form_of_row, dictionary_of}

pub basic_test : (p : Place) → is_basic p ≡ true → p ≡ Basic
basic_test Basic e = refl
basic_test AtLower e = cc
basic_test AtUpper e = cc
basic_test AtZero e = cc

pub resting_test : (p : Place) → p ≢ Basic → is_basic p ≡ false
resting_test Basic n = absurd (n refl)
resting_test AtLower n = refl
resting_test AtUpper n = refl
resting_test AtZero n = refl

not_basic_test : (p : Place) → is_basic p ≡ false → p ≢ Basic
not_basic_test Basic e h = cc
not_basic_test AtLower e h = cc
not_basic_test AtUpper e h = cc
not_basic_test AtZero e h = cc

-- no coefficient before the form's first variable
earlier : (b : List Place) (f : ℕ → Rational) (i count j : ℕ) → j < i → coefficient_of (resting_form b f i count) j ≡ zero_ℚ
earlier b f i zero j h = refl
earlier b f i (suc count) j h = go (is_basic (place_of b i)) (earlier b f (suc i) count j (omega arith))
  where
    other : (i == j) ≡ false
    other = grind (arith, nat_tests)

    go : (t : Bool) → coefficient_of (resting_form b f (suc i) count) j ≡ zero_ℚ → coefficient_of (cond t (resting_form b f (suc i) count) (record { column = i; coefficient = f i } ∷ resting_form b f (suc i) count)) j ≡ zero_ℚ
    go true k = k
    go false k = rw other (Q.zero-add _ ∙ k)

coefficient_in : (b : List Place) (f : ℕ → Rational) (i count j : ℕ) → i ≤ j → j < i + count → is_basic (place_of b j) ≡ false → coefficient_of (resting_form b f i count) j ≡ f j
coefficient_in b f i zero j h k e = absurd (omega arith)
coefficient_in b f i (suc count) j h k e = elim (ℕ_discrete i j) [
  | yes same ↦ here same
  | no differ ↦ go (is_basic (place_of b i)) (let t : (i == j) ≡ false = grind (arith, nat_tests) in t) (coefficient_in b f (suc i) count j (omega arith) (omega arith) e)
]
  where
    here : i ≡ j → coefficient_of (resting_form b f i (suc count)) j ≡ f j
    here same =
        let rest : is_basic (place_of b i) ≡ false = ap (λ v. is_basic (place_of b v)) same ∙ e in
        let self : (i == j) ≡ true = grind (arith, nat_tests) in
        rw rest (rw self (ap (λ t. f i +ℚ t) (earlier b f (suc i) count j (omega arith)) ∙ Q.add-zero _ ∙ ap f same))

    go : (t : Bool) → (i == j) ≡ false → coefficient_of (resting_form b f (suc i) count) j ≡ f j → coefficient_of (cond t (resting_form b f (suc i) count) (record { column = i; coefficient = f i } ∷ resting_form b f (suc i) count)) j ≡ f j
    go true other l = l
    go false other l = rw other (Q.zero-add _ ∙ l)

all_resting : (b : List Place) (f : ℕ → Rational) (i count : ℕ) → i + count ≤ length b → AllResting b (resting_form b f i count)
all_resting b f i zero h = tt
all_resting b f i (suc count) h = go (is_basic (place_of b i)) refl (all_resting b f (suc i) count (omega arith))
  where
    go : (t : Bool) → is_basic (place_of b i) ≡ t → AllResting b (resting_form b f (suc i) count) → AllResting b (cond t (resting_form b f (suc i) count) (record { column = i; coefficient = f i } ∷ resting_form b f (suc i) count))
    go true e k = k
    go false e k = (record { known = omega arith; not_basic = not_basic_test (place_of b i) e }, k)

-- ---- the numbers of a table

pub row_number : (t : Table) (row : List Rational) (j : ℕ) → IsResting t.places j → coefficient_of (form_of_row t row) j ≡ number_at row (position_of t j)
row_number t row j h = let k = h.known in coefficient_in t.places (λ v. number_at row (position_of t v)) 0 (length t.places) j (omega arith) (omega arith) (resting_test (place_of t.places j) h.not_basic)

pub rate_number : (t : Table) (j v : ℕ) → IsResting t.places j → rate_of (dictionary_of t) j v ≡ number_at (row_of t v) (position_of t j)
rate_number t j v h = row_number t (row_of t v) j h

pub gain_number : (t : Table) (j : ℕ) → IsResting t.places j → gain_of (dictionary_of t) j ≡ number_at t.gains (position_of t j)
gain_number t j h = row_number t t.gains j h

pub is_over_resting : (t : Table) → IsOverResting t.places (dictionary_of t)
is_over_resting t = record {
  rows = λ v h. all_resting t.places (λ j. number_at (row_of t v) (position_of t j)) 0 (length t.places) (omega arith);
  objective = all_resting t.places (λ j. number_at t.gains (position_of t j)) 0 (length t.places) (omega arith);
}

pub rate_from : (t : Table) (q v : ℕ) (a : Rational) (rows : List (List Rational)) (line column : ℕ) → IsResting t.places q → a ≡ number_at (get_or rows line []) column
    → rows ≡ t.rows → line ≡ get_or t.positions v 0 → column ≡ get_or t.positions q 0 → a ≡ rate_of (dictionary_of t) q v
rate_from t q v a rows line column h e f g i = e ∙ rw (f, g, i) (sym (rate_number t q v h))

pub gain_from : (t : Table) (q : ℕ) (a : Rational) (gains : List Rational) (column : ℕ) → IsResting t.places q → a ≡ number_at gains column → gains ≡ t.gains → column ≡ get_or t.positions q 0
    → a ≡ gain_of (dictionary_of t) q
gain_from t q a gains column h e f g = e ∙ rw (f, g) (sym (gain_number t q h))
