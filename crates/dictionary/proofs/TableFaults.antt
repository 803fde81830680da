-- What does not fit in a pivot of a table is an operation of the pivot.
use Rattle.std.proofs.Common.{◌≡◌, ◌∙◌, ℕ, ◌≢◌, List, [], length, get_or, refl, sym, ap, subst}
use Rattle.std.specs.Prelude.{false}
use mathlib.Core.Path.{ap₂}
use Rattle.rational.specs.Rational.{Rational, inv_ℚ, neg_ℚ, ◌*ℚ◌, ◌/ℚ◌}
use Rattle.milp.specs.Form.{number_at}
use Rattle.basis.specs.Dictionary.{IsBasic, IsResting, rate_of, gain_of}
use Rattle.basis.specs.Pivots.{Plus, Times, DividedBy, IsRowOf, IsPivotOperation}
use Rattle.fraction.specs.Answers.{result_fits}
use Rattle.fraction.specs.declared.frac.NoFit.{NoFit}
use Rattle.dictionary.specs.Rows.{IsSolved, IsQuotient, IsSolvingFault, IsProductOrSum, IsSubstitutionFault}
use Rattle.dictionary.specs.Table.{Table, dictionary_of, IsTable, IsPivotedFault, IsPivotFault, operation_of}
use Rattle.dictionary.proofs.TableForms.{rate_number, gain_number}

module _ (t : Table) (q r : ℕ) (is_table : IsTable t.places t.positions t.rows t.gains) (enters : IsResting t.places q) (leaves : IsBasic t.places r) where
  rate : (v j : ℕ) → IsResting t.places j → number_at (get_or t.rows (get_or t.positions v 0) []) (get_or t.positions j 0) ≡ rate_of (dictionary_of t) j v
  rate v j h = sym (rate_number t j v h)

  quotient : (a c : Rational) (e : NoFit) → IsQuotient a c e → IsPivotOperation t.places (dictionary_of t) q r a DividedBy c → IsPivotFault t q r e
  quotient a c e f operation = record {
    operation = let P : NoFit → Type 0 = λ g. IsPivotOperation t.places (dictionary_of t) q r g.a (operation_of g.op) g.b in subst P (sym f.named) operation;
    not_fit = let P : NoFit → Type 0 = λ g. result_fits g ≡ false in subst P (sym f.named) f.not_fit;
  }

  product_or_sum : (k a c : Rational) (e : NoFit) → IsProductOrSum k a c e → IsPivotOperation t.places (dictionary_of t) q r k Times a → IsPivotOperation t.places (dictionary_of t) q r (k *ℚ a) Plus c → IsPivotFault t q r e
  product_or_sum k a c e (IsProductOrSum.product named not_fit) one two = record {
    operation = let P : NoFit → Type 0 = λ g. IsPivotOperation t.places (dictionary_of t) q r g.a (operation_of g.op) g.b in subst P (sym named) one;
    not_fit = let P : NoFit → Type 0 = λ g. result_fits g ≡ false in subst P (sym named) not_fit;
  }
  product_or_sum k a c e (IsProductOrSum.sum named not_fit) one two = record {
    operation = let P : NoFit → Type 0 = λ g. IsPivotOperation t.places (dictionary_of t) q r g.a (operation_of g.op) g.b in subst P (sym named) two;
    not_fit = let P : NoFit → Type 0 = λ g. result_fits g ≡ false in subst P (sym named) not_fit;
  }

  width : (v : ℕ) → IsBasic t.places v → length (get_or t.rows (get_or t.positions v 0) []) ≡ length t.gains
  width v h = is_table.widths (get_or t.positions v 0) (is_table.lines v h)

  apart : (j c : ℕ) → get_or t.positions j 0 ≡ c → c ≢ get_or t.positions q 0 → j ≢ q
  apart j c e n same = n (sym e ∙ ap (λ v. get_or t.positions v 0) same)

  in_line : (e : NoFit) → IsSolvingFault (get_or t.rows (get_or t.positions r 0) []) (get_or t.positions q 0) e → IsPivotFault t q r e
  in_line e (IsSolvingFault.at_place f) = quotient _ _ e f (IsPivotOperation.reciprocal refl refl (rate r q enters))
  in_line e (IsSolvingFault.other c h n f) =
      let j = is_table.every_column c (rw (← width r leaves) h) in
      quotient _ _ e f (IsPivotOperation.quotient j.0 (ap (number_at (get_or t.rows (get_or t.positions r 0) [])) (sym j.2) ∙ rate r j.0 j.1) refl (rate r q enters))

  -- a row with the numbers f has the solved row put in
  in_row : (row solved : List Rational) (f : ℕ → Rational) (e : NoFit) → IsRowOf t.places (dictionary_of t) f → length row ≡ length t.gains
      → ((j : ℕ) → IsResting t.places j → number_at row (get_or t.positions j 0) ≡ f j)
      → IsSolved (get_or t.rows (get_or t.positions r 0) []) (get_or t.positions q 0) solved → IsSubstitutionFault row solved (get_or t.positions q 0) e → IsPivotFault t q r e
  in_row row solved f e of same_width numbers one (IsSubstitutionFault.at_place fault) =
      product_or_sum _ _ _ e fault (IsPivotOperation.product_at_leaving f of (numbers q enters) refl corner) (IsPivotOperation.sum_at_leaving f of (ap₂ ◌*ℚ◌ (numbers q enters) corner) refl refl)
    where
      corner : number_at solved (get_or t.positions q 0) ≡ inv_ℚ (rate_of (dictionary_of t) q r)
      corner = one.at_place ∙ ap inv_ℚ (rate r q enters)
  in_row row solved f e of same_width numbers one (IsSubstitutionFault.other c h n fault) =
      product_or_sum _ _ _ e fault (IsPivotOperation.product f column.0 of column.1 differs (numbers q enters) refl neighbour) (IsPivotOperation.sum f column.0 of column.1 differs (ap₂ ◌*ℚ◌ (numbers q enters) neighbour) refl own)
    where
      column : (j : ℕ) × IsResting t.places j × (get_or t.positions j 0 ≡ c)
      column = is_table.every_column c (rw (← same_width) h)

      differs : column.0 ≢ q
      differs = apart column.0 c column.2 n

      neighbour : number_at solved c ≡ neg_ℚ (rate_of (dictionary_of t) column.0 r /ℚ rate_of (dictionary_of t) q r)
      neighbour =
          one.others c (rw (width r leaves, ← same_width) h) n
          ∙ ap₂ (λ a b. neg_ℚ (a /ℚ b)) (ap (number_at (get_or t.rows (get_or t.positions r 0) [])) (sym column.2) ∙ rate r column.0 column.1) (rate r q enters)

      own : number_at row c ≡ f column.0
      own = ap (number_at row) (sym column.2) ∙ numbers column.0 column.1

  pub pivot_fault : (e : NoFit) → IsPivotedFault t.rows t.gains (get_or t.positions r 0) (get_or t.positions q 0) e → IsPivotFault t q r e
  pivot_fault e (IsPivotedFault.in_line f) = in_line e f
  pivot_fault e (IsPivotedFault.in_rows solved i one h n f) =
      let v = is_table.every_line i h in
      in_row (get_or t.rows i []) solved (λ j. rate_of (dictionary_of t) j v.0) e (IsRowOf.of_basic v.0 v.1 (λ j. refl)) (is_table.widths i h)
      (λ j k. ap (λ l. number_at (get_or t.rows l []) (get_or t.positions j 0)) (sym v.2) ∙ rate v.0 j k) one f
  pivot_fault e (IsPivotedFault.in_objective solved one f) =
      in_row t.gains solved (gain_of (dictionary_of t)) e (IsRowOf.of_objective (λ j. refl)) refl (λ j k. sym (gain_number t j k)) one f
