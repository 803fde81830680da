-- Where the numbers of a cut first do not fit.
use Rattle.std.specs.Prelude.{ℕ, ◌+◌, ◌<◌, ◌≡◌, if◌then◌else◌, Bool, true, false, List, [], ◌∷◌, length, Result, Ok, Err}
use Rattle.rational.specs.Rational.{Rational, whole, zero_ℚ, one_ℚ, neg_ℚ, floor_ℚ, ◌*ℚ◌}
use Rattle.rational.specs.Compare.{is_at_most, is_negative}
use Rattle.milp.specs.Form.{Entry, number_at}
use Rattle.milp.specs.Problem.{Problem}
use Rattle.fraction.specs.declared.frac.NoFit.{NoFit}
use Rattle.fraction.specs.Answers.{add_answer, sub_answer, mul_answer, div_answer, mul_add_answer}
use Rattle.instance.specs.Sums.{and_then, sum_answer}
use Rattle.instance.specs.declared.by_column.ColumnEntry.{ColumnEntry}
use Rattle.instance.specs.ByColumn.{entries_in_column}
use Rattle.verdicts.specs.WeightedSums.{coefficient_of}
use Rattle.basis.specs.System.{unit_form}
use Rattle.basis.specs.Weights.{numbers_from}
use Rattle.basis.specs.declared.Place.{Place}
use Rattle.gomory.specs.Cuts.{distance_sign, fractional_part, cut_weight, split_coefficient, form_from}
use Rattle.gomory.specs.Numbers.{scale_at, variable_at}
use Rattle.gomory.specs.declared.fault.Unfit.{Unfit}
use Rattle.gomory.specs.declared.fault.Unfit.TheVariants.{NoFit as no_fit, NoMemory as no_memory}
use Rattle.gomory.specs.declared.scale.Scale.{Scale}
use Rattle.gomory.specs.declared.numbers.RowVariable.{RowVariable}
use Rattle.gomory.specs.declared.numbers.Role.{Role}
use Rattle.gomory.specs.declared.numbers.Role.TheVariants.{OfCut, OfLow, OfHigh, OfSplit}

-- what is said of the operation of a fault; nothing of want of memory
abbrev pub IfNoFit : (NoFit → Type 0) → Unfit → Type 0
IfNoFit P (no_fit o) = P o
IfNoFit P no_memory = Unit {0}

-- ---- the numbers at one variable, or the first operation that does not fit

abbrev pub part_answer : Rational → Result Rational NoFit
part_answer a = sub_answer a (whole (floor_ℚ a))

-- the fractional part of a row's number, 1 over it, and 1 over what it lacks to 1
abbrev pub scale_answer : Rational → Result Scale NoFit
scale_answer value = and_then (part_answer value) (λ f. and_then (sub_answer one_ℚ f) (λ rest. and_then (div_answer one_ℚ f) (λ low. and_then (div_answer one_ℚ rest) (λ high. Ok (record { part = f; low = low; high = high })))))

abbrev pub remainder_answer : Rational → Bool → Rational → Result Rational NoFit
remainder_answer f true a = and_then (part_answer a) (λ above. if is_at_most above f then Ok above else sub_answer above one_ℚ)
remainder_answer f false a = Ok a

-- e / f, or -e / (1 - f) where e is below 0
abbrev pub share_answer : Scale → Rational → Result Rational NoFit
share_answer s e = if is_negative e then mul_answer (neg_ℚ e) s.high else mul_answer e s.low

-- m / f + m / (1 - f)
abbrev pub both_answer : Scale → Rational → Result Rational NoFit
both_answer s m = and_then (mul_answer m s.low) (λ low. and_then (mul_answer m s.high) (λ high. add_answer low high))

abbrev pub low_answer : Scale → Rational → Result Rational NoFit
low_answer s e = if is_negative e then both_answer s (neg_ℚ e) else Ok zero_ℚ

abbrev pub high_answer : Scale → Rational → Result Rational NoFit
high_answer s e = if is_negative e then Ok zero_ℚ else both_answer s e

abbrev pub signed_answer : Place → Result Rational NoFit → Result Rational NoFit
signed_answer place r = and_then r (λ n. Ok (distance_sign place *ℚ n))

-- the number of this role, where e is what is left of the variable's coefficient
abbrev pub role_answer : Scale → ℕ → ℕ → RowVariable → Rational → Role → Result Rational NoFit
role_answer s r v at e OfCut = signed_answer at.place (share_answer s e)
role_answer s r v at e OfLow = signed_answer at.place (low_answer s e)
role_answer s r v at e OfHigh = signed_answer at.place (high_answer s e)
role_answer s r v at e OfSplit = and_then (sub_answer at.coefficient e) (λ near. add_answer (coefficient_of (unit_form r) v) (distance_sign at.place *ℚ near))

abbrev pub number_answer : Scale → ℕ → ℕ → RowVariable → Role → Result Rational NoFit
number_answer s r v at role = and_then (remainder_answer s.part at.whole at.coefficient) (λ e. role_answer s r v at e role)

-- ---- the coefficient of a column in the sum of all variables times their weights

-- a total plus the entries times the weights of their rows, of which row 0 has the weight at n, or what first does not fit
abbrev pub column_answer : List Rational → ℕ → Rational → List ColumnEntry → Result Rational NoFit
column_answer w n total [] = Ok total
column_answer w n total (e ∷ es) = and_then (mul_add_answer e.coefficient (number_at w (n + e.row)) total) (λ s. column_answer w n s es)

-- the operation is the first that does not fit in the coefficient of a column in the sum with these weights
pub record IsCoefficientFault (p : Problem) (w : List Rational) (o : NoFit) : Type 0 where
  pub column : ℕ
  pub known : column < length p.columns
  pub unfit : column_answer w (length p.columns) (number_at w column) (entries_in_column p.rows column) ≡ Err o

-- ---- a cut

-- the value of a form over variables, and 1
abbrev pub bound_answer : List Rational → List Entry → Result Rational NoFit
bound_answer x form = and_then (sum_answer x zero_ℚ form) (λ total. add_answer total one_ℚ)

-- the weights of the cut by variable
abbrev pub cut_weights : Problem → List Place → List Rational → List Rational → ℕ → List Rational
cut_weights p b rates x r = numbers_from 0 (length b) (cut_weight p b (number_at rates) (number_at x) r)

-- the operation is the first that does not fit in a number of the cut: the fractional part of the row's number and what goes with it; a weight or
-- coefficient of a variable; the value of the split's form at the basic point; a coefficient of the cut; or its bound
pub data IsCutFault (p : Problem) (b : List Place) (rates x : List Rational) (r : ℕ) (o : NoFit) : Type 0 where
  of_scale : scale_answer (number_at x r) ≡ Err o → IsCutFault p b rates x r o
  of_number : (role : Role) (v : ℕ) → v < length b → number_answer (scale_at (fractional_part (number_at x r))) r v (variable_at p b (number_at rates) (number_at x) v) role ≡ Err o → IsCutFault p b rates x r o
  of_split : sum_answer x zero_ℚ (form_from 0 (length p.columns) (split_coefficient p b (number_at rates) (number_at x) r)) ≡ Err o → IsCutFault p b rates x r o
  of_coefficient : IsCoefficientFault p (cut_weights p b rates x r) o → IsCutFault p b rates x r o
  of_bound : bound_answer x (form_from 0 (length b) (cut_weight p b (number_at rates) (number_at x) r)) ≡ Err o → IsCutFault p b rates x r o
