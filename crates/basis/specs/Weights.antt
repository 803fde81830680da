-- The weights and rays that a basis gives.
use Rattle.std.specs.Prelude.{ℕ, zero, suc, pos, negsuc, ◌+◌, ◌<◌, ◌≡◌, ◌⊎◌, ◌==◌, cond, unsigned_abs, Bool, List, [], ◌∷◌, ◌++◌, length, Some}
use Rattle.rational.specs.Rational.{Rational, zero_ℚ, one_ℚ, whole, neg_ℚ, ◌<ℚ◌, ◌*ℚ◌}
use Rattle.rational.specs.Denominators.{common_denominator}
use Rattle.milp.specs.Problem.{Problem}
use Rattle.verdicts.specs.Certificate.{Item, Weights, Side, Derived}
use Rattle.basis.specs.System.{System, size, lower_of, upper_of}
use Rattle.basis.specs.Dictionary.{IsBasic, IsResting, Dictionary, IsDictionary, rate_of, gain_of}
use Rattle.basis.specs.Bland.{IsDirection, IsRun}
use Rattle.basis.specs.Node.{system_of}
use Rattle.basis.specs.declared.Place.{Place}

-- ---- weights

abbrev pub items_at : ℕ → List Rational → List Item
items_at i [] = []
items_at i (w ∷ ws) = record { index = i; weight = w } ∷ items_at i ws

-- the weights of the variables from `first` on, `count` of them, as items from the index i on
abbrev pub items_of : (ℕ → List Rational) → ℕ → ℕ → ℕ → List Item
items_of f first i zero = []
items_of f first i (suc count) = items_at i (f first) ++ items_of f (suc first) (suc i) count

-- the weights on rows, columns and derived rows, from those on variables
abbrev pub weights_of : Problem → List Derived → (ℕ → List Rational) → Weights
weights_of p ds f = record {
  rows = items_of f (length p.columns) 0 (length p.rows);
  columns = items_of f 0 0 (length p.columns);
  derived = items_of f (length p.columns + length p.rows) 0 (length ds);
  splits = [];
}

-- a number as a weight, and none where it is 0
abbrev pub nonzero : Rational → List Rational
nonzero a = cond (unsigned_abs a.numerator == 0) [] (a ∷ [])

-- the dictionary's coefficients of the objective
abbrev pub optimal_weights : Dictionary → ℕ → List Rational
optimal_weights d v = nonzero (gain_of d v)

-- 1 for the basic variable r, and for each other variable minus its coefficient in the row of r
abbrev pub row_weight : Dictionary → ℕ → ℕ → Rational
row_weight d r v = cond (v == r) one_ℚ (neg_ℚ (rate_of d v r))

abbrev pub row_weights : Dictionary → ℕ → ℕ → List Rational
row_weights d r v = nonzero (row_weight d r v)

-- those times -1
abbrev pub minus_row_weights : Dictionary → ℕ → ℕ → List Rational
minus_row_weights d r v = nonzero (neg_ℚ (row_weight d r v))

-- 1 and -1 on the two bounds of the variable u, of which the lower is above the upper
abbrev pub contradiction_weights : ℕ → ℕ → List Rational
contradiction_weights u v = cond (v == u) (one_ℚ ∷ whole (negsuc 0) ∷ []) []

-- the lower bound of v is above the upper one
pub record IsContradictory (s : System) (v : ℕ) : Type 0 where
  pub lower : Rational
  pub upper : Rational
  pub is_lower : lower_of s v ≡ Some lower
  pub is_upper : upper_of s v ≡ Some upper
  pub crossed : upper <ℚ lower

-- weights that a basis of a run gives, or contradictory bounds
pub data IsNodeWeights (p : Problem) (ds : List Derived) (sides : List Side) (w : Weights) : Type 0 where
  of_objective : (b : List Place) (before : List (List Place)) (d : Dictionary) → IsRun (system_of p ds sides) b before → IsDictionary (system_of p ds sides) b d
      → w ≡ weights_of p ds (optimal_weights d) → IsNodeWeights p ds sides w
  of_row : (b : List Place) (before : List (List Place)) (d : Dictionary) (r : ℕ) → IsRun (system_of p ds sides) b before → IsDictionary (system_of p ds sides) b d → IsBasic b r
      → (w ≡ weights_of p ds (row_weights d r)) ⊎ (w ≡ weights_of p ds (minus_row_weights d r)) → IsNodeWeights p ds sides w
  of_contradiction : (v : ℕ) → IsContradictory (system_of p ds sides) v → w ≡ weights_of p ds (contradiction_weights v) → IsNodeWeights p ds sides w

-- ---- rays

-- f i, f (i + 1), .., `count` numbers
abbrev pub numbers_from : ℕ → ℕ → (ℕ → Rational) → List Rational
numbers_from i zero f = []
numbers_from i (suc count) f = f i ∷ numbers_from (suc i) count f

-- the numbers of r on the columns, with 0 for those that are not to be whole
abbrev pub integer_numbers : System → (ℕ → Bool) → (ℕ → Rational) → List Rational
integer_numbers s integer r = numbers_from 0 s.columns (λ j. cond (integer j) (r j) zero_ℚ)

-- r times the least common denominator of its numbers on the columns that are to be whole
abbrev pub made_whole : System → (ℕ → Bool) → (ℕ → Rational) → ℕ → Rational
made_whole s integer r v = r v *ℚ whole (pos (common_denominator 1 (integer_numbers s integer r)))

-- r is how the variables move where one resting variable moves up or down from a basis of a run
pub record IsDirectionOfRun (s : System) (r : ℕ → Rational) : Type 0 where
  pub basis : List Place
  pub before : List (List Place)
  pub is_run : IsRun s basis before
  pub dictionary : Dictionary
  pub is_dictionary : IsDictionary s basis dictionary
  pub mover : ℕ
  pub resting : IsResting basis mover
  pub heading : Rational
  pub up_or_down : (heading ≡ one_ℚ) ⊎ (heading ≡ whole (negsuc 0))
  pub is_direction : IsDirection basis dictionary mover heading r

-- x is such a direction made whole
pub record IsRayOfRun (s : System) (integer : ℕ → Bool) (x : ℕ → Rational) : Type 0 where
  pub direction : ℕ → Rational
  pub is_direction : IsDirectionOfRun s direction
  pub is_ray : (v : ℕ) → v < size s → x v ≡ made_whole s integer direction v
