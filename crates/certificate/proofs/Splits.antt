-- Splits of one column: which bounds they narrow, that they are of whole forms, and the value of their forms.
use Rattle.std.proofs.Common.{◌≡◌, ◌∙◌, ℕ, ◌==◌, ◌&&◌, Bool, true, false, List, slice_get, refl, ap}
use Rattle.rational.specs.Rational.{Rational}
use Rattle.rational.proofs.Laws as Q
use Rattle.milp.specs.Form.{Entry, number_at, sum_at}
use Rattle.milp.specs.Problem.{Problem}
use Rattle.verdicts.specs.Certificate.{Split}
use Rattle.verdicts.specs.Proves.{unit_column, is_column, narrows, is_integer, is_whole_form}
use Rattle.certificate.specs.Written.{column_form, split_column}

pub column_narrows : (s : Split) (j : ℕ) → s.form ≡ column_form (split_column s) → narrows s j ≡ (split_column s == j)
column_narrows s j h = ap (λ (form : List Entry). is_column (unit_column form) j) h

pub column_is_whole : (p : Problem) (s : Split) → s.form ≡ column_form (split_column s) → is_whole_form p s.form ≡ is_integer (slice_get p.columns (split_column s))
column_is_whole p s h = ap (is_whole_form p) h ∙ and_all (is_integer (slice_get p.columns (split_column s)))
  where
    and_all : (b : Bool) → (b && true) ≡ b
    and_all true = refl
    and_all false = refl

pub column_value : (x : List Rational) (s : Split) → s.form ≡ column_form (split_column s) → sum_at x s.form ≡ number_at x (split_column s)
column_value x s h = ap (sum_at x) h ∙ Q.add-zero _ ∙ Q.one-mul _
