-- What it says where ranges are not found.
use Rattle.std.specs.Prelude.{ℕ, ◌≡◌, ◌==◌, ◌&&◌, ◌||◌, cond, nat_lt, Bool, List, [], ◌∷◌, length, IsTrue, Result, Ok, Err}
use Rattle.rational.specs.Rational.{Rational, zero_ℚ}
use Rattle.milp.specs.Form.{number_at}
use Rattle.milp.specs.Problem.{Column, Row, Problem}
use Rattle.milp.specs.Points.{IsOptimal}
use Rattle.fraction.specs.declared.frac.NoFit.{NoFit}
use Rattle.fraction.specs.Answers.{add_answer}
use Rattle.instance.specs.Sums.{and_then}
use Rattle.instance.specs.WellFormed.{entry_count}
use Rattle.verdicts.specs.Certificate.{Item, Weights}
use Rattle.branch_search.specs.WholeFaults as search
use Rattle.ranging.specs.BoundRanges.{BoundSide, uses, used_bound}
use Rattle.ranging.specs.BoundAuxiliary.{bound_auxiliary}
use Rattle.exact_ranges.specs.Sought.{Side, End, side_of, wanted_of, HasBound, IsAuxiliary}
use Rattle.exact_ranges.specs.declared.fault.RangeFault.{RangeFault}
use Rattle.exact_ranges.specs.declared.fault.RangeFault.TheVariants.{Search, TooLarge, Weight, MovedBound, NoMemory}

-- more columns, rows or entries than an instance takes
abbrev pub is_too_large : List Column → List Row → Bool
is_too_large cs rs = nat_lt 1000000 (length cs) || (nat_lt 1000000 (length rs) || nat_lt 20000000 (entry_count rs))

-- the total and the row's weights that use its bound on this side, summed from the first one on, or the first sum that
-- does not fit
abbrev pub using_answer : ℕ → BoundSide → Rational → List Item → Result Rational NoFit
using_answer i s total [] = Ok total
using_answer i s total (k ∷ ks) = cond ((k.index == i) && uses s k.weight) (and_then (add_answer total k.weight) (λ more. using_answer i s more ks)) (using_answer i s total ks)

-- the sum of the weights that use a bound does not fit
pub record IsWeightFault (p : Problem) (w : Weights) (i : ℕ) (s : Side) (e : NoFit) : Type 0 where
  pub bound : Rational
  pub is_bound : HasBound p i s bound
  pub fault : using_answer i (side_of s) zero_ℚ w.rows ≡ Err e

-- the sum of a bound and the least or greatest distance that it moves does not fit
pub record IsMovedFault (p : Problem) (x : List Rational) (w : Weights) (i : ℕ) (s : Side) (end : End) (e : NoFit) : Type 0 where
  pub bound : Rational
  pub is_bound : HasBound p i s bound
  pub point : List Rational
  pub is_optimal : IsOptimal (bound_auxiliary p (used_bound p x w i (side_of s) bound) (wanted_of end)) point
  pub fault : add_answer bound (number_at point (length p.columns)) ≡ Err e

abbrev pub IsFault : Problem → List Rational → Weights → ℕ → RangeFault → Type 0
IsFault p x w pivots (Search sought fault) = (q : Problem) × IsAuxiliary p x w sought q × search.IsFault q 0 pivots fault
IsFault p x w pivots (TooLarge sought) = (q : Problem) × IsAuxiliary p x w sought q × IsTrue (is_too_large q.columns q.rows)
IsFault p x w pivots (Weight i s e) = IsWeightFault p w i s e
IsFault p x w pivots (MovedBound i s end e) = IsMovedFault p x w i s end e
IsFault p x w pivots NoMemory = Unit {0}

-- the fault is not that the limit of steps was met
abbrev pub IsNotByPivots : RangeFault → Type 0
IsNotByPivots (Search sought fault) = search.IsNotByPivots fault
IsNotByPivots (TooLarge sought) = Unit {0}
IsNotByPivots (Weight i s e) = Unit {0}
IsNotByPivots (MovedBound i s end e) = Unit {0}
IsNotByPivots NoMemory = Unit {0}
