-- A pivot's table, from the parts that the code makes.
use Rattle.std.proofs.Common.{◌≡◌, ◌∙◌, ℕ, ◌≢◌, List, [], get_or, sym, ap, subst}
use Rattle.std.specs.Prelude.{pos}
use Rattle.rational.specs.Rational.{Rational}
use Rattle.milp.specs.Form.{number_at}
use Rattle.basis.specs.Dictionary.{IsBasic, IsResting, rate_of}
use Rattle.basis.specs.Bland.{exchanged}
use Rattle.basis.specs.Pivots.{IsPivoted}
use Rattle.basis.specs.declared.Place.{Place}
use Rattle.basis.specs.declared.Place.TheVariants.{Basic}
use Rattle.fraction.specs.declared.frac.NoFit.{NoFit}
use Rattle.dictionary.specs.Table.{Table, dictionary_of, IsTable, moved_positions, ArePivoted, IsPivotedFault, IsPivotFault}
use Rattle.dictionary.proofs.TableForms.{rate_number}
use Rattle.dictionary.proofs.TablePivot.{table_pivoted, table_after}
use Rattle.dictionary.proofs.TableFaults.{pivot_fault}

pub some_number : (t : Table) (q r : ℕ) (rows : List (List Rational)) (line column : ℕ) → rows ≡ t.rows → line ≡ get_or t.positions r 0 → column ≡ get_or t.positions q 0 → IsResting t.places q
    → ¬ ((rate_of (dictionary_of t) q r).numerator ≡ pos 0) → ¬ ((number_at (get_or rows line []) column).numerator ≡ pos 0)
some_number t q r rows line column e f g h n k = n (ap (λ (a : Rational). a.numerator) (rate_number t q r h) ∙ (rw (← e, ← f, ← g) k))

pub made_table : (t : Table) (q r : ℕ) (place : Place) (places : List Place) (positions : List ℕ) (old rows : List (List Rational)) (before gains : List Rational) (line column : ℕ) → IsTable t.places t.positions t.rows t.gains → IsResting t.places q → IsBasic t.places r → place ≢ Basic
    → places ≡ exchanged t.places q r place → positions ≡ moved_positions t.positions q r → old ≡ t.rows → before ≡ t.gains → line ≡ get_or t.positions r 0 → column ≡ get_or t.positions q 0
    → ArePivoted old before line column rows gains → IsTable places positions rows gains
made_table t q r place places positions old rows before gains line column h k l m e f g i j o pivoted = rw (e, f) (table_after t q r place rows gains h k l m (rw (← g, ← i, ← j, ← o) pivoted))

pub made_numbers : (t : Table) (q r : ℕ) (place : Place) (places : List Place) (positions : List ℕ) (old rows : List (List Rational)) (before gains : List Rational) (line column : ℕ) → IsTable t.places t.positions t.rows t.gains → IsResting t.places q → IsBasic t.places r → place ≢ Basic
    → places ≡ exchanged t.places q r place → positions ≡ moved_positions t.positions q r → old ≡ t.rows → before ≡ t.gains → line ≡ get_or t.positions r 0 → column ≡ get_or t.positions q 0
    → ArePivoted old before line column rows gains → IsPivoted t.places (dictionary_of t) (dictionary_of (record { places = places; positions = positions; rows = rows; gains = gains })) q r
made_numbers t q r place places positions old rows before gains line column h k l m e f g i j o pivoted =
    let P : List Place → List ℕ → Type 0 = λ a b. IsPivoted t.places (dictionary_of t) (dictionary_of (record { places = a; positions = b; rows = rows; gains = gains })) q r in
    subst (λ a. P a positions) (sym e) (subst (P (exchanged t.places q r place)) (sym f) (table_pivoted t q r place rows gains h k l m (rw (← g, ← i, ← j, ← o) pivoted)))

pub made_fault : (t : Table) (q r : ℕ) (old : List (List Rational)) (before : List Rational) (line column : ℕ) (e : NoFit) → IsTable t.places t.positions t.rows t.gains → IsResting t.places q → IsBasic t.places r
    → old ≡ t.rows → before ≡ t.gains → line ≡ get_or t.positions r 0 → column ≡ get_or t.positions q 0 → IsPivotedFault old before line column e → IsPivotFault t q r e
made_fault t q r old before line column e h k l g i j o fault = pivot_fault t q r h k l e (rw (← g, ← i, ← j, ← o) fault)
