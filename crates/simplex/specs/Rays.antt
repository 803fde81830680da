-- Directions made whole.
use Rattle.std.specs.Prelude.{ℕ, pos, ◌<◌, ◌≡◌, cond, List, length, slice_get}
use Rattle.rational.specs.Rational.{Rational, zero_ℚ, whole, ◌*ℚ◌}
use Rattle.milp.specs.Form.{number_at}
use Rattle.milp.specs.Problem.{Column}
use Rattle.verdicts.specs.Proves.{is_integer}
use Rattle.rational.specs.Denominators.{common_denominator}
use Rattle.basis.specs.Weights.{numbers_from}
use Rattle.fraction.specs.Answers.{DoesNotFit}
use Rattle.fraction.specs.Denominators.{IsDenominatorFault}
use Rattle.fraction.specs.declared.frac.NoFit.{NoFit}
use Rattle.fraction.specs.declared.frac.Op.TheVariants.{Mul}

-- the numbers on the columns that are to be whole, and 0 for the others
abbrev pub numbers_to_be_whole : List Column → (ℕ → Rational) → List Rational
numbers_to_be_whole columns r = numbers_from 0 (length columns) (λ j. cond (is_integer (slice_get columns j)) (r j) zero_ℚ)

-- their common denominator
abbrev pub denominator_of : List Column → (ℕ → Rational) → ℕ
denominator_of columns r = common_denominator 1 (numbers_to_be_whole columns r)

-- the numbers on the columns times that denominator
abbrev pub whole_ray : List Column → (ℕ → Rational) → List Rational
whole_ray columns r = numbers_from 0 (length columns) (λ v. r v *ℚ whole (pos (denominator_of columns r)))

-- each number times b
pub record AreScaled (old : List Rational) (b : Rational) (new : List Rational) : Type 0 where
  pub size : length new ≡ length old
  pub numbers : (j : ℕ) → j < length old → number_at new j ≡ number_at old j *ℚ b

-- f is the product a * b, and does not fit
pub record IsProduct (a b : Rational) (f : NoFit) : Type 0 where
  pub left : f.a ≡ a
  pub times : f.op ≡ Mul
  pub right : f.b ≡ b
  pub not_fit : DoesNotFit f

-- f is such a product of one of the numbers, and does not fit
pub record IsProductFault (old : List Rational) (b : Rational) (f : NoFit) : Type 0 where
  pub index : ℕ
  pub known : index < length old
  pub fault : IsProduct (number_at old index) b f

-- f is an operation that makes the direction whole, and does not fit
pub data IsRayFault (columns : List Column) (r : ℕ → Rational) (f : NoFit) : Type 0 where
  denominators : IsDenominatorFault (numbers_to_be_whole columns r) f → IsRayFault columns r f
  product : (j : ℕ) → j < length columns → IsProduct (r j) (whole (pos (denominator_of columns r))) f → IsRayFault columns r f
