-- What the simplex method finds at a node: where its run ends, and the point, weights or ray there.
use Rattle.std.specs.Prelude.{ℕ, ◌≡◌, List, [], ◌∷◌, length, true, Option, Some, None}
use Rattle.rational.specs.Rational.{Rational, zero_ℚ, ◌*ℚ◌, ◌<ℚ◌}
use Rattle.milp.specs.Form.{sum_at}
use Rattle.milp.specs.Problem.{Problem}
use Rattle.milp.specs.Points.{sign_of}
use Rattle.verdicts.specs.Certificate.{Two, Side, Weights, Derived, Verdict, Unbounded, TreeNode, Certificate}
use Rattle.verdicts.specs.WeightedSums.{scaled, Weighted, combined, combined_bound}
use Rattle.verdicts.specs.Proves.{same_form, terms}
use Rattle.basis.specs.System.{System, AreBoundsInOrder, AllInside}
use Rattle.basis.specs.Dictionary.{Dictionary, IsDictionary, IsBasicPoint}
use Rattle.basis.specs.Bland.{IsLeast, HasPassed, IsOutside, Mends, Improves, IsHeading, IsDirection, ReachesNone, IsRun, IsOptimalBasis}
use Rattle.basis.specs.Node.{system_of, integer_at}
use Rattle.basis.specs.Weights.{weights_of, optimal_weights, row_weights, minus_row_weights, contradiction_weights, IsContradictory, numbers_from, made_whole}
use Rattle.basis.specs.declared.Place.{Place}
use Rattle.basis.specs.declared.Place.TheVariants.{Basic, AtLower, AtUpper, AtZero}

-- x is the point of an optimal basis, and w are its weights
pub record IsOptimalRelaxation (p : Problem) (ds : List Derived) (sides : List Side) (x : List Rational) (w : Weights) (b : List Place) (d : Dictionary) : Type 0 where
  pub values : ℕ → Rational
  pub is_optimal : IsOptimalBasis (system_of p ds sides) b d values
  pub point : x ≡ numbers_from 0 (length p.columns) values
  pub weights : w ≡ weights_of p ds (optimal_weights d)

-- a basis of a run at which r, the least variable outside its bounds, is past the bound of this place, and no resting variable mends it
pub record IsBlocked (s : System) (b : List Place) (d : Dictionary) (x : ℕ → Rational) (r : ℕ) (place : Place) : Type 0 where
  pub before : List (List Place)
  pub is_run : IsRun s b before
  pub in_order : AreBoundsInOrder s
  pub is_dictionary : IsDictionary s b d
  pub is_point : IsBasicPoint s b x
  pub first_outside : IsLeast (IsOutside s b x) r
  pub passed : HasPassed s x r place
  pub none_mends : (q : ℕ) → ¬ (Mends s b x d r place q)

-- the weights of the row of r, where r is past the bound of this place
abbrev pub blocking_weights : Dictionary → ℕ → Place → ℕ → List Rational
blocking_weights d r Basic v = []
blocking_weights d r AtLower v = row_weights d r v
blocking_weights d r AtUpper v = minus_row_weights d r v
blocking_weights d r AtZero v = []

-- w are the weights of contradictory bounds, or of a row that is blocked
pub data IsInfeasibleRelaxation (p : Problem) (ds : List Derived) (sides : List Side) (w : Weights) : Type 0 where
  contradiction : (v : ℕ) → IsContradictory (system_of p ds sides) v → w ≡ weights_of p ds (contradiction_weights v) → IsInfeasibleRelaxation p ds sides w
  blocked : (b : List Place) (d : Dictionary) (x : ℕ → Rational) (r : ℕ) (place : Place) → IsBlocked (system_of p ds sides) b d x r place
      → w ≡ weights_of p ds (blocking_weights d r place) → IsInfeasibleRelaxation p ds sides w

-- a basis of a run at whose point all variables are inside their bounds, and from which q, the least variable that improves, moves without end
pub record IsUnboundedBasis (s : System) (b : List Place) (d : Dictionary) (x : ℕ → Rational) (q : ℕ) (direction : ℕ → Rational) : Type 0 where
  pub before : List (List Place)
  pub is_run : IsRun s b before
  pub is_dictionary : IsDictionary s b d
  pub is_point : IsBasicPoint s b x
  pub inside : AllInside s x
  pub first_improving : IsLeast (Improves s b x d) q
  pub heading : Rational
  pub is_heading : IsHeading d q heading
  pub is_direction : IsDirection b d q heading direction
  pub reaches_none : ReachesNone s x direction

-- x is the point of such a basis, and ray is its direction made whole
pub record IsUnboundedRelaxation (p : Problem) (ds : List Derived) (sides : List Side) (x ray : List Rational) : Type 0 where
  pub basis : List Place
  pub dictionary : Dictionary
  pub values : ℕ → Rational
  pub mover : ℕ
  pub direction : ℕ → Rational
  pub is_unbounded : IsUnboundedBasis (system_of p ds sides) basis dictionary values mover direction
  pub point : x ≡ numbers_from 0 (length p.columns) values
  pub is_ray : ray ≡ numbers_from 0 (length p.columns) (made_whole (system_of p ds sides) (integer_at p) direction)

-- ---- what weights show

-- the weights sum to the form s * c, where less is better, and to the bound s * c.x
pub record ShowsObjective (p : Problem) (ds : List Derived) (sides : List Side) (x : List Rational) (w : Weights) : Type 0 where
  pub sum_terms : List Weighted
  pub are_terms : terms p ds sides [] w ≡ Some sum_terms
  pub form : same_form (length p.columns) (combined sum_terms) (scaled (sign_of p.direction) p.objective) ≡ true
  pub bound : combined_bound sum_terms ≡ sign_of p.direction *ℚ sum_at x p.objective

-- the weights sum to the form 0, and to a bound above 0
pub record ShowsInfeasible (p : Problem) (ds : List Derived) (sides : List Side) (w : Weights) : Type 0 where
  pub sum_terms : List Weighted
  pub are_terms : terms p ds sides [] w ≡ Some sum_terms
  pub form : same_form (length p.columns) (combined sum_terms) [] ≡ true
  pub bound : zero_ℚ <ℚ combined_bound sum_terms

-- ---- certificates

-- a certificate without derived rows, whose tree is one leaf
abbrev pub leaf_certificate : Problem → Verdict → Option Rational → Option (List Rational) → TreeNode → Certificate
leaf_certificate p verdict value point leaf = record {
  version = Two;
  rows = length p.rows;
  columns = length p.columns;
  verdict = verdict;
  value = value;
  point = point;
  ray = None;
  derived = [];
  tree = leaf ∷ [];
}

-- a certificate of a point and a ray
abbrev pub point_certificate : Problem → List Rational → List Rational → Certificate
point_certificate p x ray = record {
  version = Two;
  rows = length p.rows;
  columns = length p.columns;
  verdict = Unbounded;
  value = None;
  point = Some x;
  ray = Some ray;
  derived = [];
  tree = [];
}
