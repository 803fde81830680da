-- Gomory's mixed-integer cut of a basic column that is to be whole (R. E. Gomory, An algorithm for the mixed integer problem, 1960).
use Rattle.std.specs.Prelude.{ℕ, zero, suc, negsuc, ◌+◌, ◌<◌, ◌≡◌, ◌&&◌, if◌then◌else◌, Bool, true, false, List, [], ◌∷◌, ◌++◌, length}
use Rattle.rational.specs.Rational.{Rational, whole, zero_ℚ, one_ℚ, neg_ℚ, inv_ℚ, floor_ℚ, ◌+ℚ◌, ◌-ℚ◌, ◌*ℚ◌, ◌/ℚ◌}
use Rattle.rational.specs.Compare.{is_less, is_at_most, is_whole}
use Rattle.milp.specs.Form.{Entry, value_at}
use Rattle.milp.specs.Problem.{Row, Problem}
use Rattle.milp.specs.Points.{IsWhole}
use Rattle.verdicts.specs.Certificate.{Derived, FormSplit, BySplit}
use Rattle.verdicts.specs.WeightedSums.{coefficient_of, sum_below}
use Rattle.basis.specs.System.{size, lower_of, upper_of, AllInside, unit_form}
use Rattle.basis.specs.Dictionary.{place_of, IsBasic, Dictionary, IsDictionary, rate_of, IsBasicPoint}
use Rattle.basis.specs.Bland.{Improves}
use Rattle.basis.specs.Node.{system_of, integer_at}
use Rattle.basis.specs.Weights.{weights_of, nonzero}
use Rattle.basis.specs.declared.Place.{Place}
use Rattle.basis.specs.declared.Place.TheVariants.{Basic, AtLower, AtUpper, AtZero}

-- The variables are the problem's columns and then its rows. At a basis each resting variable v has a distance t_v from its bound, which is
-- at least 0 at each point inside the bounds. The rates are how much the basic variable r rises as each resting variable does, so its row is
-- `x_r + sum a_v t_v = f0`, where f0 is its number at the basic point x. The cut is `sum g_v t_v >= 1`.

-- the sign of v in t_v, which is v minus its lower bound, or its upper bound minus v
abbrev pub distance_sign : Place → Rational
distance_sign Basic = zero_ℚ
distance_sign AtLower = one_ℚ
distance_sign AtUpper = whole (negsuc 0)
distance_sign AtZero = zero_ℚ

-- a_v
abbrev pub distance_coefficient : List Place → (ℕ → Rational) → ℕ → Rational
distance_coefficient b rates v = neg_ℚ (distance_sign (place_of b v) *ℚ rates v)

-- what is above the floor
abbrev pub fractional_part : Rational → Rational
fractional_part a = a -ℚ whole (floor_ℚ a)

-- v is a column that is to be whole, and its number at x is whole
abbrev pub is_whole_column : Problem → (ℕ → Rational) → ℕ → Bool
is_whole_column p x v = integer_at p v && is_whole (x v)

-- g_v, where f is the fractional part of f0, and a is a_v
abbrev pub cut_coefficient : Rational → Bool → Rational → Rational
cut_coefficient f true a = if is_at_most (fractional_part a) f then fractional_part a /ℚ f else (one_ℚ -ℚ fractional_part a) /ℚ (one_ℚ -ℚ f)
cut_coefficient f false a = if is_less zero_ℚ a then a /ℚ f else neg_ℚ a /ℚ (one_ℚ -ℚ f)

-- what is left of a_v: for a whole column less the whole number below it, where its fractional part is at most f, or else the one above it
abbrev pub remainder : Rational → Bool → Rational → Rational
remainder f true a = if is_at_most (fractional_part a) f then fractional_part a else fractional_part a -ℚ one_ℚ
remainder f false a = a

-- ---- weights on variables: those of the cut, and of the two sides of its split

abbrev pub cut_weight : Problem → List Place → (ℕ → Rational) → (ℕ → Rational) → ℕ → ℕ → Rational
cut_weight p b rates x r v = distance_sign (place_of b v) *ℚ cut_coefficient (fractional_part (x r)) (is_whole_column p x v) (distance_coefficient b rates v)

-- what is left of a_v, with the sign of v in t_v
abbrev pub remainder_weight : Problem → List Place → (ℕ → Rational) → (ℕ → Rational) → ℕ → ℕ → Rational
remainder_weight p b rates x r v = distance_sign (place_of b v) *ℚ remainder (fractional_part (x r)) (is_whole_column p x v) (distance_coefficient b rates v)

abbrev pub low_weight : Problem → List Place → (ℕ → Rational) → (ℕ → Rational) → ℕ → ℕ → Rational
low_weight p b rates x r v = distance_sign (place_of b v) *ℚ (cut_coefficient (fractional_part (x r)) (is_whole_column p x v) (distance_coefficient b rates v)
    -ℚ remainder (fractional_part (x r)) (is_whole_column p x v) (distance_coefficient b rates v) /ℚ fractional_part (x r))

abbrev pub high_weight : Problem → List Place → (ℕ → Rational) → (ℕ → Rational) → ℕ → ℕ → Rational
high_weight p b rates x r v = distance_sign (place_of b v) *ℚ (cut_coefficient (fractional_part (x r)) (is_whole_column p x v) (distance_coefficient b rates v)
    +ℚ remainder (fractional_part (x r)) (is_whole_column p x v) (distance_coefficient b rates v) /ℚ (one_ℚ -ℚ fractional_part (x r)))

-- the coefficient of column v in the form of the split: 1 for r, and for a whole column that rests the whole number near a_v, with the sign of v in t_v
abbrev pub split_coefficient : Problem → List Place → (ℕ → Rational) → (ℕ → Rational) → ℕ → ℕ → Rational
split_coefficient p b rates x r v = coefficient_of (unit_form r) v
    +ℚ distance_sign (place_of b v) *ℚ (distance_coefficient b rates v -ℚ remainder (fractional_part (x r)) (is_whole_column p x v) (distance_coefficient b rates v))

-- ---- forms over columns

abbrev pub entries_at : ℕ → List Rational → List Entry
entries_at j [] = []
entries_at j (a ∷ more) = record { column = j; coefficient = a } ∷ entries_at j more

-- the form with the coefficients f j, f (j + 1), .., `count` of them, without those that are 0
abbrev pub form_from : ℕ → ℕ → (ℕ → Rational) → List Entry
form_from j zero f = []
form_from j (suc count) f = entries_at j (nonzero (f j)) ++ form_from (suc j) count f

-- the coefficient of column j in the sum of the rows times their weights, of which the first is w v
abbrev pub rows_coefficient : (ℕ → Rational) → ℕ → List Row → ℕ → Rational
rows_coefficient w v [] j = zero_ℚ
rows_coefficient w v (row ∷ rows) j = w v *ℚ coefficient_of row.entries j +ℚ rows_coefficient w (suc v) rows j

-- the coefficient of column j in the sum of all variables times their weights
abbrev pub sum_coefficient : Problem → (ℕ → Rational) → ℕ → Rational
sum_coefficient p w j = w j +ℚ rows_coefficient w (length p.columns) p.rows j

-- ---- cuts

-- at the basis b, whose point is x, r rises by these rates
pub record IsRowOfBasis (p : Problem) (b : List Place) (rates x : ℕ → Rational) (r : ℕ) : Type 0 where
  pub dictionary : Dictionary
  pub is_dictionary : IsDictionary (system_of p [] []) b dictionary
  pub is_point : IsBasicPoint (system_of p [] []) b x
  pub are_rates : (v : ℕ) → v < size (system_of p [] []) → rates v ≡ rate_of dictionary v r

-- r is a basic column that is to be whole and is not, and its row has no resting variable without a bound
pub record HasCut (p : Problem) (b : List Place) (rates x : ℕ → Rational) (r : ℕ) : Type 0 where
  pub basic : IsBasic b r
  pub integer : integer_at p r ≡ true
  pub not_whole : ¬ (IsWhole (x r))
  pub bounded : (v : ℕ) → v < length b → place_of b v ≡ AtZero → rates v ≡ zero_ℚ

-- the split that shows the cut: x lies strictly between its sides
pub record IsGomorySplit (p : Problem) (b : List Place) (rates x : ℕ → Rational) (r : ℕ) (s : FormSplit) : Type 0 where
  pub form : s.form ≡ form_from 0 (length p.columns) (split_coefficient p b rates x r)
  pub at : s.at ≡ floor_ℚ (value_at x s.form)
  pub low : s.low ≡ inv_ℚ (fractional_part (x r))
  pub low_weights : s.low_weights ≡ weights_of p [] (λ v. nonzero (low_weight p b rates x r v))
  pub high : s.high ≡ inv_ℚ (one_ℚ -ℚ fractional_part (x r))
  pub high_weights : s.high_weights ≡ weights_of p [] (λ v. nonzero (high_weight p b rates x r v))

-- the sum of all variables times their weights is at least 1 more than it is at x: this is `sum g_v t_v >= 1` as a form over columns
pub record IsGomoryCut (p : Problem) (b : List Place) (rates x : ℕ → Rational) (r : ℕ) (c : Derived) : Type 0 where
  pub form : c.form ≡ form_from 0 (length p.columns) (sum_coefficient p (cut_weight p b rates x r))
  pub bound : c.bound ≡ sum_below (length p.columns + length p.rows) (λ v. cut_weight p b rates x r v *ℚ x v) +ℚ one_ℚ
  pub split : FormSplit
  pub proof : c.proof ≡ BySplit split
  pub is_split : IsGomorySplit p b rates x r split

-- ---- the cuts of a search

-- x is the point of an optimal basis of the problem without wholeness, at which each fixed variable rests at its lower bound
pub record IsOptimalAtRoot (p : Problem) (b : List Place) (x : ℕ → Rational) (d : Dictionary) : Type 0 where
  pub is_dictionary : IsDictionary (system_of p [] []) b d
  pub is_point : IsBasicPoint (system_of p [] []) b x
  pub inside : AllInside (system_of p [] []) x
  pub none_improves : (q : ℕ) → ¬ (Improves (system_of p [] []) b x d q)
  pub fixed_at_lower : (v : ℕ) → place_of b v ≡ AtUpper → ¬ (lower_of (system_of p [] []) v ≡ upper_of (system_of p [] []) v)

-- c is the cut of a column at such a basis
pub record IsRootCut (p : Problem) (c : Derived) : Type 0 where
  pub basis : List Place
  pub point : ℕ → Rational
  pub dictionary : Dictionary
  pub is_optimal : IsOptimalAtRoot p basis point dictionary
  pub column : ℕ
  pub rates : ℕ → Rational
  pub are_rates : (v : ℕ) → v < size (system_of p [] []) → rates v ≡ rate_of dictionary v column
  pub has_cut : HasCut p basis rates point column
  pub is_cut : IsGomoryCut p basis rates point column c
