-- The numbers that the work at a node meets (its site numbers), and the operations on them that may be answered as not fitting.
use Rattle.std.specs.Prelude.{ℕ, ℤ, pos, negsuc, ◌+ℤ◌, ◌<◌, ◌≡◌, ◌⊎◌, Bool, List, [], ◌∷◌, map, take, slice_get, Some}
use Rattle.rational.specs.Rational.{Rational, zero_ℚ, one_ℚ, whole, over, floor_ℚ, neg_ℚ, ◌+ℚ◌, ◌-ℚ◌, ◌*ℚ◌, ◌/ℚ◌}
use Rattle.milp.specs.Form.{Entry}
use Rattle.milp.specs.Problem.{Column, Problem}
use Rattle.verdicts.specs.Certificate.{Item, Side, Low, High, Weights, Derived}
use Rattle.verdicts.specs.WeightedSums.{Weighted, coefficient_of}
use Rattle.verdicts.specs.Proves.{side_form, side_bound, terms}
use Rattle.verdicts.specs.Migrated.{named}
use Rattle.basis.specs.System.{System, size, lower_of, upper_of}
use Rattle.basis.specs.Dictionary.{IsBasic, Dictionary, IsDictionary, rate_of, gain_of, IsBasicPoint}
use Rattle.basis.specs.Bland.{IsRun}
use Rattle.basis.specs.Node.{system_of, integer_at}
use Rattle.rational.specs.Denominators.{prefix_denominator}
use Rattle.basis.specs.Weights.{numbers_from, integer_numbers, IsDirectionOfRun, IsRayOfRun, IsNodeWeights}
use Rattle.basis.specs.declared.Place.{Place}

-- ---- families of numbers

-- Base numbers; the lists of products that are summed from the left; the lists of numbers whose denominators are made common.
-- Each list is one that the work really goes along, so that its prefix sums are no arbitrary numbers.
pub record Numbers : Type 1 where
  pub base : Rational → Type 0
  pub products : List Rational → Type 0
  pub made_common : List Rational → Type 0

-- a plus the numbers, added from the left
abbrev pub sum_onto : Rational → List Rational → Rational
sum_onto a [] = a
sum_onto a (b ∷ bs) = sum_onto (a +ℚ b) bs

-- the sum of the first n numbers
abbrev pub prefix_sum : List Rational → ℕ → Rational
prefix_sum numbers n = sum_onto zero_ℚ (take n numbers)

-- a site number: a base number, what one operation makes of two base numbers, a sum of the first products of a list,
-- or a least common denominator, and 1 over it
pub data IsSiteNumber (ns : Numbers) (a : Rational) : Type 0 where
  base_number : ns.base a → IsSiteNumber ns a
  sum : (c d : Rational) → ns.base c → ns.base d → a ≡ c +ℚ d → IsSiteNumber ns a
  difference : (c d : Rational) → ns.base c → ns.base d → a ≡ c -ℚ d → IsSiteNumber ns a
  quotient : (c d : Rational) → ns.base c → ns.base d → a ≡ c /ℚ d → IsSiteNumber ns a
  product : (c d : Rational) → ns.base c → ns.base d → a ≡ c *ℚ d → IsSiteNumber ns a
  sum_of_products : (numbers : List Rational) (n : ℕ) → ns.products numbers → a ≡ prefix_sum numbers n → IsSiteNumber ns a
  denominator : (numbers : List Rational) (n : ℕ) → ns.made_common numbers → a ≡ whole (pos (prefix_denominator numbers n)) → IsSiteNumber ns a
  reciprocal : (numbers : List Rational) (n : ℕ) → ns.made_common numbers → a ≡ over (pos 1) (prefix_denominator numbers n) → IsSiteNumber ns a

-- the operands of an operation on site numbers: one of them is a base number, or they are a sum of the first products
-- of a list and the next product, or 1 over the common denominator of the first numbers of a list and 1 over the next one's
pub data IsSitePair (ns : Numbers) (a b : Rational) : Type 0 where
  left_base : ns.base a → IsSiteNumber ns b → IsSitePair ns a b
  right_base : IsSiteNumber ns a → ns.base b → IsSitePair ns a b
  next_product : (numbers : List Rational) (n : ℕ) → ns.products numbers → a ≡ prefix_sum numbers n → slice_get numbers n ≡ Some b → IsSitePair ns a b
  next_denominator : (numbers : List Rational) (n : ℕ) (c : Rational) → ns.made_common numbers → a ≡ over (pos 1) (prefix_denominator numbers n) → slice_get numbers n ≡ Some c
      → b ≡ over (pos 1) c.denominator → IsSitePair ns a b

-- each family is within the other's
pub record AreNumbersWithin (ns ms : Numbers) : Type 0 where
  pub base : (a : Rational) → ns.base a → ms.base a
  pub products : (numbers : List Rational) → ns.products numbers → ms.products numbers
  pub made_common : (numbers : List Rational) → ns.made_common numbers → ms.made_common numbers

-- ---- the numbers of a run

-- a number of the system's forms, bounds or objective
pub data IsGivenNumber (s : System) (a : Rational) : Type 0 where
  of_form : (k : ℕ) (form : List Entry) (i : ℕ) (e : Entry) → slice_get s.forms k ≡ Some form → slice_get form i ≡ Some e → a ≡ e.coefficient → IsGivenNumber s a
  of_objective : (i : ℕ) (e : Entry) → slice_get s.objective i ≡ Some e → a ≡ e.coefficient → IsGivenNumber s a
  of_lower : (v : ℕ) → lower_of s v ≡ Some a → IsGivenNumber s a
  of_upper : (v : ℕ) → upper_of s v ≡ Some a → IsGivenNumber s a

-- a coefficient of the dictionary of a basis of a run
pub data IsCoefficient (s : System) (a : Rational) : Type 0 where
  of_row : (b : List Place) (before : List (List Place)) (d : Dictionary) (v j : ℕ) → IsRun s b before → IsDictionary s b d → IsBasic b v → a ≡ rate_of d j v → IsCoefficient s a
  of_objective : (b : List Place) (before : List (List Place)) (d : Dictionary) (j : ℕ) → IsRun s b before → IsDictionary s b d → a ≡ gain_of d j → IsCoefficient s a

-- x is the point of a basis of a run
pub record IsPointOfRun (s : System) (x : ℕ → Rational) : Type 0 where
  pub basis : List Place
  pub before : List (List Place)
  pub is_run : IsRun s basis before
  pub is_point : IsBasicPoint s basis x

-- a coordinate of the point of a basis of a run
pub record IsCoordinate (s : System) (a : Rational) : Type 0 where
  pub point : ℕ → Rational
  pub is_point : IsPointOfRun s point
  pub variable : ℕ
  pub known : variable < size s
  pub same : a ≡ point variable

-- The base numbers of a run. Minus a coefficient is among them since weights are coefficients times 1 or -1.
pub data IsRunBase (s : System) (integer : ℕ → Bool) (a : Rational) : Type 0 where
  zero_number : a ≡ zero_ℚ → IsRunBase s integer a
  one_number : a ≡ one_ℚ → IsRunBase s integer a
  minus_one : a ≡ whole (negsuc 0) → IsRunBase s integer a
  given : IsGivenNumber s a → IsRunBase s integer a
  coefficient : IsCoefficient s a → IsRunBase s integer a
  minus_coefficient : (c : Rational) → IsCoefficient s c → a ≡ neg_ℚ c → IsRunBase s integer a
  coordinate : IsCoordinate s a → IsRunBase s integer a
  floor_of_coefficient : (c : Rational) → IsCoefficient s c → a ≡ whole (floor_ℚ c) → IsRunBase s integer a
  floor_of_coordinate : (c : Rational) → IsCoordinate s c → a ≡ whole (floor_ℚ c) → IsRunBase s integer a
  of_ray : (x : ℕ → Rational) (v : ℕ) → IsRayOfRun s integer x → v < size s → a ≡ x v → IsRunBase s integer a

-- the points and rays of a run
abbrev pub IsPointOrRay : System → (ℕ → Bool) → (ℕ → Rational) → Type 0
IsPointOrRay s integer x = IsPointOfRun s x ⊎ IsRayOfRun s integer x

-- the products of the entries of a form with a point or ray, in order
abbrev pub products_of : List Entry → (ℕ → Rational) → List Rational
products_of form x = map (λ (e : Entry). e.coefficient *ℚ x e.column) form

-- the products that are summed along a row, the objective, a dictionary row or a dictionary's objective at a point or ray
pub data IsRunProducts (s : System) (integer : ℕ → Bool) (numbers : List Rational) : Type 0 where
  along_form : (k : ℕ) (form : List Entry) (x : ℕ → Rational) → slice_get s.forms k ≡ Some form → IsPointOrRay s integer x → numbers ≡ products_of form x → IsRunProducts s integer numbers
  along_objective : (x : ℕ → Rational) → IsPointOrRay s integer x → numbers ≡ products_of s.objective x → IsRunProducts s integer numbers
  along_row : (b : List Place) (before : List (List Place)) (d : Dictionary) (v : ℕ) (x : ℕ → Rational) → IsRun s b before → IsDictionary s b d → IsBasic b v → IsBasicPoint s b x
      → numbers ≡ numbers_from 0 (size s) (λ j. rate_of d j v *ℚ x j) → IsRunProducts s integer numbers
  along_gains : (b : List Place) (before : List (List Place)) (d : Dictionary) (x : ℕ → Rational) → IsRun s b before → IsDictionary s b d → IsBasicPoint s b x
      → numbers ≡ numbers_from 0 (size s) (λ j. gain_of d j *ℚ x j) → IsRunProducts s integer numbers

-- the numbers of a direction on the columns that are to be whole
pub data IsRunCommon (s : System) (integer : ℕ → Bool) (numbers : List Rational) : Type 0 where
  along_direction : (r : ℕ → Rational) → IsDirectionOfRun s r → numbers ≡ integer_numbers s integer r → IsRunCommon s integer numbers

-- the numbers of the system's run
abbrev pub run_numbers : System → (ℕ → Bool) → Numbers
run_numbers s integer = record { base = IsRunBase s integer; products = IsRunProducts s integer; made_common = IsRunCommon s integer }

-- ---- the numbers of a node

-- the number at which a side's split is
abbrev pub at_of : Side → ℤ
at_of (Low s) = s.at
at_of (High s) = s.at

-- a number of the problem itself, or of a split: where it is, the whole number above, or one of the inequality of the side taken
pub data IsProblemNumber (p : Problem) (sides : List Side) (a : Rational) : Type 0 where
  of_objective : (i : ℕ) (e : Entry) → slice_get p.objective i ≡ Some e → a ≡ e.coefficient → IsProblemNumber p sides a
  of_constant : a ≡ p.constant → IsProblemNumber p sides a
  of_column_lower : (j : ℕ) (c : Column) → slice_get p.columns j ≡ Some c → c.lower ≡ Some a → IsProblemNumber p sides a
  of_column_upper : (j : ℕ) (c : Column) → slice_get p.columns j ≡ Some c → c.upper ≡ Some a → IsProblemNumber p sides a
  of_split : (k : ℕ) (side : Side) → slice_get sides k ≡ Some side → a ≡ whole (at_of side) → IsProblemNumber p sides a
  of_split_above : (k : ℕ) (side : Side) → slice_get sides k ≡ Some side → a ≡ whole (at_of side +ℤ pos 1) → IsProblemNumber p sides a
  of_side_form : (k : ℕ) (side : Side) (i : ℕ) (e : Entry) → slice_get sides k ≡ Some side → slice_get (side_form side) i ≡ Some e → a ≡ e.coefficient → IsProblemNumber p sides a
  of_side_bound : (k : ℕ) (side : Side) → slice_get sides k ≡ Some side → a ≡ side_bound side → IsProblemNumber p sides a

pub data IsNodeBase (p : Problem) (ds : List Derived) (sides : List Side) (a : Rational) : Type 0 where
  of_problem : IsProblemNumber p sides a → IsNodeBase p ds sides a
  of_run : IsRunBase (system_of p ds sides) (integer_at p) a → IsNodeBase p ds sides a

-- the products that are summed along the problem's objective, or along the weights that a certificate has of a node's weights, which
-- name the splits on the way: with a column's coefficients, or with the bounds
pub data IsNodeProducts (p : Problem) (ds : List Derived) (sides : List Side) (numbers : List Rational) : Type 0 where
  of_run : IsRunProducts (system_of p ds sides) (integer_at p) numbers → IsNodeProducts p ds sides numbers
  along_objective : (x : ℕ → Rational) → IsPointOrRay (system_of p ds sides) (integer_at p) x → numbers ≡ products_of p.objective x → IsNodeProducts p ds sides numbers
  along_coefficients : (w : Weights) (ts : List Weighted) (j : ℕ) → IsNodeWeights p ds sides w → terms p ds [] sides (named p sides w) ≡ Some ts
      → numbers ≡ map (λ (t : Weighted). t.weight *ℚ coefficient_of t.form j) ts → IsNodeProducts p ds sides numbers
  along_bounds : (w : Weights) (ts : List Weighted) → IsNodeWeights p ds sides w → terms p ds [] sides (named p sides w) ≡ Some ts
      → numbers ≡ map (λ (t : Weighted). t.weight *ℚ t.bound) ts → IsNodeProducts p ds sides numbers

-- the numbers of a node: those of the problem and its splits, and of the run of its system
abbrev pub node_numbers : Problem → List Derived → List Side → Numbers
node_numbers p ds sides = record { base = IsNodeBase p ds sides; products = IsNodeProducts p ds sides; made_common = IsRunCommon (system_of p ds sides) (integer_at p) }

-- P of each number
abbrev pub AllOf : (Rational → Type 0) → List Rational → Type 0
AllOf P [] = Unit {0}
AllOf P (a ∷ rest) = P a × AllOf P rest

-- P of the weight of each item
abbrev pub AllWeights : (Rational → Type 0) → List Item → Type 0
AllWeights P [] = Unit {0}
AllWeights P (i ∷ rest) = P i.weight × AllWeights P rest

-- all the weights are base numbers of the node, and the negatives of those of columns too, which are weights of splits
pub record AreNodeWeights (p : Problem) (ds : List Derived) (sides : List Side) (w : Weights) : Type 0 where
  pub rows : AllWeights (IsNodeBase p ds sides) w.rows
  pub columns : AllWeights (IsNodeBase p ds sides) w.columns
  pub derived : AllWeights (IsNodeBase p ds sides) w.derived
  pub minus_columns : AllWeights (λ a. IsNodeBase p ds sides (neg_ℚ a)) w.columns
