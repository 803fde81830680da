-- One row after the other.
use Rattle.std.proofs.Common.{◌≡◌, ◌∙◌, ℕ, zero, suc, ◌+◌, ◌<◌, List, [], ◌∷◌, ◌++◌, drop, slice_get, length, refl, sym, ap, subst, arith}
use Rattle.std.proofs.lemmas.List.{append_assoc}
use Rattle.std.specs.Prelude.{IsOk}
use Rattle.rational.specs.Rational.{Rational, zero_ℚ}
use Rattle.milp.specs.Form.{sum_at}
use Rattle.milp.specs.Problem.{Row}
use Rattle.instance.specs.Sums.{sum_answer, form_of}
use Rattle.gmpl_generate.specs.Solved.{RowsFit}
use Rattle.solution_writer.specs.Report.{row_values}

pub record AtRow (x : List Rational) (rows : List Row) (i : ℕ) : Type 0 where
  pub fits : IsOk (sum_answer x zero_ℚ (form_of (slice_get rows i)))
  pub left : RowsFit x (drop (i + 1) rows)
  pub values : row_values x (drop i rows) ≡ sum_at x (form_of (slice_get rows i)) ∷ row_values x (drop (i + 1) rows)

pub at_row : (x : List Rational) (rows : List Row) (i : ℕ) → i < length rows → RowsFit x (drop i rows) → AtRow x rows i
at_row x [] i inside fit = absurd (omega arith)
at_row x (row ∷ rows) zero inside fit = record { fits = fit.0; left = fit.1; values = refl }
at_row x (row ∷ rows) (suc i) inside fit =
    let rest = at_row x rows i (omega arith) fit in
    let next : suc (i + 1) ≡ suc i + 1 = omega arith in
    record {
      fits = rest.fits;
      left = subst (λ n. RowsFit x (drop n (row ∷ rows))) next rest.left;
      values = subst (λ n. row_values x (drop i rows) ≡ sum_at x (form_of (slice_get rows i)) ∷ row_values x (drop n (row ∷ rows))) next rest.values;
    }

pub more_values : (x : List Rational) (rows : List Row) (i : ℕ) (before after all : List Rational) → AtRow x rows i → all ≡ before ++ row_values x (drop i rows) → after ≡ before ++ sum_at x (form_of (slice_get rows i)) ∷ [] → all ≡ after ++ row_values x (drop (i + 1) rows)
more_values x rows i before after all at is after_is =
    rw after_is (is ∙ ap (λ (l : List Rational). before ++ l) at.values ∙ sym (append_assoc before (sum_at x (form_of (slice_get rows i)) ∷ []) (row_values x (drop (i + 1) rows))))
