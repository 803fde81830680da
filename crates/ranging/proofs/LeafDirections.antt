-- The weights of a leaf of a cost's auxiliary problem give the direction of the end.
use Rattle.std.specs.Prelude.{negsuc}
use Rattle.std.proofs.Common.{◌≡◌, ◌∙◌, ℕ, zero, suc, ◌+◌, ◌<◌, List, [], ◌∷◌, Bool, true, false, cond, ◌==◌, refl, sym, ap, subst, Option, Some, None, IfSome, slice_get, get_or, option_and_then, length, if◌then◌else◌, arith}
use Rattle.std.proofs.lemmas.Bool.{and_parts}
use Rattle.std.proofs.lemmas.Bool.Decides.{nat_tests}
use mathlib.Core.Path.{ap₂}
use Rattle.rational.specs.Rational.{Rational, ◌≤ℚ◌, ◌+ℚ◌, ◌-ℚ◌, ◌*ℚ◌, neg_ℚ, zero_ℚ, one_ℚ, whole}
use Rattle.rational.specs.Compare.{is_less, is_at_most}
use Rattle.rational.proofs.Laws as Q
use Rattle.rational.proofs.Laws.{field, signs, less_true, same_true, at_most_true}
use Rattle.milp.specs.Form.{Entry, value_at, number_at, sum_at}
use Rattle.milp.specs.Problem.{Row, Problem}
use Rattle.milp.specs.declared.Direction.{Direction}
use Rattle.milp.specs.declared.Direction.TheVariants.{Min, Max}
use Rattle.milp.specs.Points.{Feasible, objective_value, sign_of}
use Rattle.verdicts.specs.Certificate.{Version, One, Two, Item, Weights, Bound}
use Rattle.verdicts.specs.WeightedSums.{scaled, coefficient_of, AllBelow, Weighted, combined, combined_bound}
use Rattle.verdicts.specs.Proves.{term, bound_used, row_term, column_term, derived_term, split_term, joined, gathered, terms, same_form, shows, node_passes}
use Rattle.verdicts.proofs.Laws.{le_by, neg_le, neg-zero, coefficient-combined}
use Rattle.ranging.specs.CostRanges.{with_cost, HasLowestCost, HasHighestCost}
use Rattle.ranging.specs.BoundRanges.{AllContinuous}
use Rattle.ranging.specs.TightBounds.{FormsInRange, tight_forms, NoneFalls, IsEndDirection}
use Rattle.ranging.specs.CostAuxiliary.{cost_coefficient, given_cost, cost_row, cost_rows, weight_columns, cost_auxiliary}
use Rattle.ranging.specs.LeafDirections.{weight_on, negated_weights, direction_of}
use Rattle.ranging.proofs.TightSums.{AllFormsBelow, tight_below}
use Rattle.ranging.proofs.LeafTerms.{same_coefficients, no_derived, no_split}
use Rattle.ranging.proofs.CostRows.{turned, given_and_cost, coefficient_of_cost, coefficient_of_weight, row_at, length-weight_columns}
use Rattle.ranging.proofs.CostPoints.{objective_in_range, point_shows_best}
use Rattle.ranging.proofs.KeptPoints.{direction_shows_lowest, direction_shows_highest}
use Rattle.ranging.proofs.Places.{place_here, place_behind, from_first}

-- ---- sums over the items of rows

-- each weight times the number of its row
abbrev items_sum : List Item → (ℕ → Rational) → Rational
items_sum [] f = zero_ℚ
items_sum (i ∷ is) f = i.weight *ℚ f i.index +ℚ items_sum is f

sum-scaled : (is : List Item) (s : Rational) (f : ℕ → Rational) → s *ℚ items_sum is f ≡ items_sum is (λ k. s *ℚ f k)
sum-scaled [] s f = Q.mul-zero s
sum-scaled (i ∷ is) s f = Q.mul_add s _ _ ∙ ap₂ ◌+ℚ◌ (moved s i.weight (f i.index)) (sum-scaled is s f)
  where
    moved : (s w v : Rational) → s *ℚ (w *ℚ v) ≡ w *ℚ (s *ℚ v)
    moved s w v = simp field

sum-added : (is : List Item) (f g : ℕ → Rational) → items_sum is (λ k. f k +ℚ g k) ≡ items_sum is f +ℚ items_sum is g
sum-added [] f g = sym (Q.add-zero zero_ℚ)
sum-added (i ∷ is) f g = ap (λ v. i.weight *ℚ (f i.index +ℚ g i.index) +ℚ v) (sum-added is f g) ∙ parts i.weight (f i.index) (g i.index) (items_sum is f) (items_sum is g)
  where
    parts : (w a b u v : Rational) → w *ℚ (a +ℚ b) +ℚ (u +ℚ v) ≡ (w *ℚ a +ℚ u) +ℚ (w *ℚ b +ℚ v)
    parts w a b u v = simp field

sum-same : (is : List Item) (f g : ℕ → Rational) → ((k : ℕ) → f k ≡ g k) → items_sum is f ≡ items_sum is g
sum-same [] f g h = refl
sum-same (i ∷ is) f g h = ap₂ (λ u v. i.weight *ℚ u +ℚ v) (h i.index) (sum-same is f g h)

-- the cost stands in the row of column j alone
sum-cost : (p : Problem) (j : ℕ) (is : List Item) → items_sum is (cost_coefficient p j) ≡ neg_ℚ (sign_of p.direction) *ℚ weight_on is j
sum-cost p j [] = sym (Q.mul-zero _)
sum-cost p j (i ∷ is) = ap (λ v. i.weight *ℚ cost_coefficient p j i.index +ℚ v) (sum-cost p j is) ∙ go (i.index == j)
  where
    go : (b : Bool) → i.weight *ℚ cond b (neg_ℚ (sign_of p.direction)) zero_ℚ +ℚ neg_ℚ (sign_of p.direction) *ℚ weight_on is j ≡ neg_ℚ (sign_of p.direction) *ℚ (cond b i.weight zero_ℚ +ℚ weight_on is j)
    go true = ap (λ v. v +ℚ neg_ℚ (sign_of p.direction) *ℚ weight_on is j) (Q.mul_comm i.weight _) ∙ sym (Q.mul_add _ i.weight (weight_on is j))
    go false = ap (λ v. v +ℚ neg_ℚ (sign_of p.direction) *ℚ weight_on is j) (Q.mul-zero i.weight ∙ sym (Q.mul-zero _)) ∙ sym (Q.mul_add _ zero_ℚ (weight_on is j))

-- ---- the value of a form along the direction

value-zero : (form : List Entry) → value_at (λ k. zero_ℚ) form ≡ zero_ℚ
value-zero [] = refl
value-zero (e ∷ es) = ap₂ ◌+ℚ◌ (Q.mul-zero e.coefficient) (value-zero es) ∙ Q.add-zero zero_ℚ

value-item : (i : Item) (is : List Item) (form : List Entry) → value_at (weight_on (i ∷ is)) form ≡ i.weight *ℚ coefficient_of form i.index +ℚ value_at (weight_on is) form
value-item i is [] = sym (Q.add-zero _ ∙ Q.mul-zero i.weight)
value-item i is (e ∷ es) = ap (λ v. e.coefficient *ℚ weight_on (i ∷ is) e.column +ℚ v) (value-item i is es) ∙ go (i.index == e.column) refl
  where
    both : (c w g k v : Rational) → c *ℚ (w +ℚ g) +ℚ (w *ℚ k +ℚ v) ≡ w *ℚ (c +ℚ k) +ℚ (c *ℚ g +ℚ v)
    both c w g k v = simp field

    neither : (c w g k v : Rational) → c *ℚ g +ℚ (w *ℚ k +ℚ v) ≡ w *ℚ k +ℚ (c *ℚ g +ℚ v)
    neither c w g k v = simp field

    go : (b : Bool) → (i.index == e.column) ≡ b → e.coefficient *ℚ (cond b i.weight zero_ℚ +ℚ weight_on is e.column) +ℚ (i.weight *ℚ coefficient_of es i.index +ℚ value_at (weight_on is) es) ≡ i.weight *ℚ (cond (e.column == i.index) e.coefficient zero_ℚ +ℚ coefficient_of es i.index) +ℚ (e.coefficient *ℚ weight_on is e.column +ℚ value_at (weight_on is) es)
    go true g =
        both e.coefficient i.weight (weight_on is e.column) (coefficient_of es i.index) (value_at (weight_on is) es)
        ∙ sym (ap (λ b. i.weight *ℚ (cond b e.coefficient zero_ℚ +ℚ coefficient_of es i.index) +ℚ (e.coefficient *ℚ weight_on is e.column +ℚ value_at (weight_on is) es)) (turned i.index e.column true g))
    go false g =
        ap (λ v. e.coefficient *ℚ v +ℚ (i.weight *ℚ coefficient_of es i.index +ℚ value_at (weight_on is) es)) (Q.zero-add _)
        ∙ neither e.coefficient i.weight (weight_on is e.column) (coefficient_of es i.index) (value_at (weight_on is) es)
        ∙ sym (ap (λ b. i.weight *ℚ (cond b e.coefficient zero_ℚ +ℚ coefficient_of es i.index) +ℚ (e.coefficient *ℚ weight_on is e.column +ℚ value_at (weight_on is) es)) (turned i.index e.column false g) ∙ ap (λ v. i.weight *ℚ v +ℚ (e.coefficient *ℚ weight_on is e.column +ℚ value_at (weight_on is) es)) (Q.zero-add _))

-- the weights as numbers of columns give a form the sum of its coefficients
value-weights : (is : List Item) (form : List Entry) → value_at (weight_on is) form ≡ items_sum is (coefficient_of form)
value-weights [] form = value-zero form
value-weights (i ∷ is) form = value-item i is form ∙ ap (λ v. i.weight *ℚ coefficient_of form i.index +ℚ v) (value-weights is form)

length-negated : (is : List Item) (k n : ℕ) → length (negated_weights is k n) ≡ n
length-negated is k zero = refl
length-negated is k (suc n) = ap suc (length-negated is (suc k) n)

number-negated : (is : List Item) (k n m : ℕ) → m < n → number_at (negated_weights is k n) m ≡ neg_ℚ (weight_on is (k + m))
number-negated is k zero m h = absurd (omega arith)
number-negated is k (suc n) zero h = ap (λ i. neg_ℚ (weight_on is i)) (sym (place_here k))
number-negated is k (suc n) (suc m) h = number-negated is (suc k) n m (omega arith) ∙ ap (λ i. neg_ℚ (weight_on is i)) (place_behind k m)

number_of_direction : (p : Problem) (w : Weights) (m : ℕ) → m < length p.columns → number_at (direction_of p w) m ≡ neg_ℚ (weight_on w.rows m)
number_of_direction p w m h = number-negated w.rows 0 (length p.columns) m h ∙ ap (λ i. neg_ℚ (weight_on w.rows i)) (from_first m)

value_of_direction : (p : Problem) (w : Weights) (form : List Entry) → AllBelow (length p.columns) form → sum_at (direction_of p w) form ≡ neg_ℚ (items_sum w.rows (coefficient_of form))
value_of_direction p w form b = negated form b ∙ ap neg_ℚ (value-weights w.rows form)
  where
    parts : (c v u : Rational) → c *ℚ neg_ℚ v +ℚ neg_ℚ u ≡ neg_ℚ (c *ℚ v +ℚ u)
    parts c v u = ap (λ z. z +ℚ neg_ℚ u) (Q.mul_neg c v) ∙ sum (c *ℚ v) u
      where
        sum : (a b : Rational) → neg_ℚ a +ℚ neg_ℚ b ≡ neg_ℚ (a +ℚ b)
        sum a b = simp signs

    negated : (es : List Entry) → AllBelow (length p.columns) es → sum_at (direction_of p w) es ≡ neg_ℚ (value_at (weight_on w.rows) es)
    negated [] b = sym neg-zero
    negated (e ∷ es) b = ap₂ (λ u v. e.coefficient *ℚ u +ℚ v) (number_of_direction p w e.column b.0) (negated es b.1) ∙ parts e.coefficient (weight_on w.rows e.column) (value_at (weight_on w.rows) es)

-- ---- what the terms of the leaf come to

-- the sums of the terms at the cost, at each weight, and of the bounds, by the items of rows
record LeafSums (p : Problem) (x : List Rational) (j : ℕ) (is : List Item) (ts : List Weighted) : Type 0 where
  at_cost : coefficient_of (combined ts) 0 ≡ items_sum is (cost_coefficient p j)
  at_weights : (m : ℕ) → items_sum is (coefficient_of (get_or (tight_forms p x) m [])) ≤ℚ coefficient_of (combined ts) (suc m)
  bounds : combined_bound ts ≡ items_sum is (given_cost p j)

-- a term that adds to the weights' sums alone, and nothing below 0
record AddsToWeights (t : Weighted) : Type 0 where
  at_cost : t.weight *ℚ coefficient_of t.form 0 ≡ zero_ℚ
  at_weights : (m : ℕ) → zero_ℚ ≤ℚ t.weight *ℚ coefficient_of t.form (suc m)
  bound : t.weight *ℚ t.bound ≡ zero_ℚ

abbrev row_weighted : Problem → List Rational → ℕ → Item → Weighted
row_weighted p x j i = record { weight = i.weight; form = (cost_row p x j i.index).entries; bound = given_cost p j i.index }

weight_added : (p : Problem) (x : List Rational) (j : ℕ) (is : List Item) (t : Weighted) (ts : List Weighted) → AddsToWeights t → LeafSums p x j is ts → LeafSums p x j is (t ∷ ts)
weight_added p x j is t ts a l = record {
  at_cost = coefficient-combined t ts 0 ∙ ap₂ ◌+ℚ◌ a.at_cost l.at_cost ∙ Q.zero-add _;
  at_weights = λ m. le_by _ _ _ _ (sym (Q.zero-add _)) (coefficient-combined t ts (suc m)) (Q.add-le-add _ _ _ _ (a.at_weights m) (l.at_weights m));
  bounds = ap₂ ◌+ℚ◌ a.bound l.bounds ∙ Q.zero-add _;
}

row_added : (p : Problem) (x : List Rational) (j : ℕ) (i : Item) (is : List Item) (ts : List Weighted) → LeafSums p x j is ts → LeafSums p x j (i ∷ is) (row_weighted p x j i ∷ ts)
row_added p x j i is ts l = record {
  at_cost = coefficient-combined (row_weighted p x j i) ts 0 ∙ ap₂ (λ u v. i.weight *ℚ u +ℚ v) (coefficient_of_cost p x j i.index) l.at_cost;
  at_weights = λ m. le_by _ _ _ _ refl (coefficient-combined (row_weighted p x j i) ts (suc m) ∙ ap (λ u. i.weight *ℚ u +ℚ coefficient_of (combined ts) (suc m)) (coefficient_of_weight p x j i.index m)) (Q.add-le-add _ _ _ _ (Q.le_refl _) (l.at_weights m));
  bounds = ap (λ v. i.weight *ℚ given_cost p j i.index +ℚ v) l.bounds;
}

row_is_weighted : (p : Problem) (x : List Rational) (j : ℕ) (d : Direction) (i : Item) → IfSome (row_term (cost_auxiliary p x j d) i) (λ t. t ≡ row_weighted p x j i)
row_is_weighted p x j d i = go (slice_get (cost_rows p x j 0 (length p.columns)) i.index) (row_at p x j 0 (length p.columns) i.index)
  where
    choose : (b : Bool) → IfSome (term i.weight (cost_row p x j i.index).entries (if b then Some (given_cost p j i.index) else Some (given_cost p j i.index))) (λ t. t ≡ row_weighted p x j i)
    choose true = refl
    choose false = refl

    go : (o : Option Row) → IfSome o (λ r. r ≡ cost_row p x j (0 + i.index)) → IfSome (option_and_then (λ r. term i.weight r.entries (bound_used i.weight r.lower r.upper)) o) (λ t. t ≡ row_weighted p x j i)
    go None k = tt
    go (Some r) k =
        let P : Row → Type 0 = λ r. IfSome (term i.weight r.entries (bound_used i.weight r.lower r.upper)) (λ t. t ≡ row_weighted p x j i) in
        subst P (sym (k ∙ ap (cost_row p x j) (from_first i.index))) (choose (is_less zero_ℚ i.weight))

column_adds : (p : Problem) (x : List Rational) (j : ℕ) (d : Direction) (i : Item) → IfSome (column_term (cost_auxiliary p x j d) [] i) AddsToWeights
column_adds p x j d i = by_place i.index refl
  where
    none : (b : Bool) (form : List Entry) → IfSome (term i.weight form (if b then None else None)) AddsToWeights
    none true form = tt
    none false form = tt

    one_or_none : (b : Bool) → zero_ℚ ≤ℚ i.weight → zero_ℚ ≤ℚ i.weight *ℚ (cond b one_ℚ zero_ℚ +ℚ zero_ℚ)
    one_or_none true h = le_by _ _ _ _ refl (ap (λ v. i.weight *ℚ v) (Q.add-zero one_ℚ) ∙ Q.mul-one i.weight) h
    one_or_none false h = le_by _ _ _ _ refl (ap (λ v. i.weight *ℚ v) (Q.add-zero zero_ℚ) ∙ Q.mul-zero i.weight) (Q.le_refl zero_ℚ)

    from_zero : (m : ℕ) (b : Bool) → is_less zero_ℚ i.weight ≡ b → IfSome (term i.weight (record { column = suc m; coefficient = one_ℚ } ∷ []) (if b then Some zero_ℚ else None)) AddsToWeights
    from_zero m true e = record {
      at_cost = ap (λ b. i.weight *ℚ (cond b one_ℚ zero_ℚ +ℚ zero_ℚ)) different ∙ ap (λ v. i.weight *ℚ v) (Q.add-zero zero_ℚ) ∙ Q.mul-zero i.weight;
      at_weights = λ n. one_or_none (suc m == suc n) (Q.le_of_lt _ _ (less_true zero_ℚ i.weight e));
      bound = Q.mul-zero i.weight;
    }
      where
        different : (suc m == 0) ≡ false
        different = grind (arith, nat_tests)
    from_zero m false e = tt

    weight_there : (n k m : ℕ) (fs : List (List Entry)) → IfSome (term i.weight (record { column = suc m; coefficient = one_ℚ } ∷ []) (bound_used i.weight (option_and_then (λ c. c.lower) (slice_get (weight_columns k fs) n)) (option_and_then (λ c. c.upper) (slice_get (weight_columns k fs) n)))) AddsToWeights
    weight_there n k m [] = none (is_less zero_ℚ i.weight) (record { column = suc m; coefficient = one_ℚ } ∷ [])
    weight_there zero k m (f ∷ fs) = from_zero m (is_less zero_ℚ i.weight) refl
    weight_there (suc n) k m (f ∷ fs) = weight_there n (suc k) m fs

    by_place : (n : ℕ) → i.index ≡ n → IfSome (term i.weight (record { column = i.index; coefficient = one_ℚ } ∷ []) (bound_used i.weight (option_and_then (λ c. c.lower) (slice_get (cost_auxiliary p x j d).columns i.index)) (option_and_then (λ c. c.upper) (slice_get (cost_auxiliary p x j d).columns i.index)))) AddsToWeights
    by_place zero e = rw e (none (is_less zero_ℚ i.weight) (record { column = 0; coefficient = one_ℚ } ∷ []))
    by_place (suc n) e = rw e (weight_there n 1 n (tight_forms p x))

-- a list of items that all add to the weights
gathered_adds : (p : Problem) (x : List Rational) (j : ℕ) (f : Item → Option Weighted) (items is : List Item) (rest : Option (List Weighted)) → ((i : Item) → IfSome (f i) AddsToWeights) → IfSome rest (LeafSums p x j is) → IfSome (gathered f items rest) (LeafSums p x j is)
gathered_adds p x j f [] is rest h l = l
gathered_adds p x j f (i ∷ items) is rest h l = go (f i) (gathered f items rest) (h i) (gathered_adds p x j f items is rest h l)
  where
    go : (o : Option Weighted) (r : Option (List Weighted)) → IfSome o AddsToWeights → IfSome r (LeafSums p x j is) → IfSome (joined o r) (LeafSums p x j is)
    go None r a l = tt
    go (Some t) None a l = tt
    go (Some t) (Some ts) a l = weight_added p x j is t ts a l

gathered_rows : (p : Problem) (x : List Rational) (j : ℕ) (d : Direction) (is : List Item) (rest : Option (List Weighted)) → IfSome rest (LeafSums p x j []) → IfSome (gathered (row_term (cost_auxiliary p x j d)) is rest) (LeafSums p x j is)
gathered_rows p x j d [] rest l = l
gathered_rows p x j d (i ∷ is) rest l = go (row_term (cost_auxiliary p x j d) i) (gathered (row_term (cost_auxiliary p x j d)) is rest) (row_is_weighted p x j d i) (gathered_rows p x j d is rest l)
  where
    go : (o : Option Weighted) (r : Option (List Weighted)) → IfSome o (λ t. t ≡ row_weighted p x j i) → IfSome r (LeafSums p x j is) → IfSome (joined o r) (LeafSums p x j (i ∷ is))
    go None r e l = tt
    go (Some t) None e l = tt
    go (Some t) (Some ts) e l = let P : Weighted → Type 0 = λ t. LeafSums p x j (i ∷ is) (t ∷ ts) in subst P (sym e) (row_added p x j i is ts l)

no_terms : (p : Problem) (x : List Rational) (j : ℕ) → LeafSums p x j [] []
no_terms p x j = record { at_cost = refl; at_weights = λ m. Q.le_refl zero_ℚ; bounds = refl }

leaf_sums : (p : Problem) (x : List Rational) (j : ℕ) (d : Direction) (w : Weights) → IfSome (terms (cost_auxiliary p x j d) [] [] [] w) (LeafSums p x j w.rows)
leaf_sums p x j d w =
    gathered_rows p x j d w.rows _
    (gathered_adds p x j (column_term (cost_auxiliary p x j d) []) w.columns [] _ (column_adds p x j d)
    (gathered_adds p x j (derived_term []) w.derived [] _ (no_derived AddsToWeights)
    (gathered_adds p x j (split_term []) w.splits [] (Some []) (no_split AddsToWeights) (no_terms p x j))))

-- ---- together

none_falls : (d : List Rational) (fs : List (List Entry)) → ((m : ℕ) → m < length fs → zero_ℚ ≤ℚ sum_at d (get_or fs m [])) → NoneFalls d fs
none_falls d [] h = tt
none_falls d (f ∷ fs) h = (h zero (omega arith), none_falls d fs (λ m l. h (suc m) (omega arith)))

below_at : (n m : ℕ) (fs : List (List Entry)) → AllFormsBelow n fs → AllBelow n (get_or fs m [])
below_at n m [] h = tt
below_at n zero (f ∷ fs) h = h.0
below_at n (suc m) (f ∷ fs) h = below_at n m fs h.1

from_sums : (p : Problem) (x : List Rational) (j : ℕ) (d : Direction) (t : Rational) (w : Weights) (ts : List Weighted) → FormsInRange p → j < length p.columns → LeafSums p x j w.rows ts → coefficient_of (combined ts) 0 ≡ sign_of d → ((m : ℕ) → m < length (tight_forms p x) → coefficient_of (combined ts) (suc m) ≡ zero_ℚ) → sign_of d *ℚ t ≤ℚ combined_bound ts → IsEndDirection p x j t (sign_of d) (direction_of p w)
from_sums p x j d t w ts f l s cost weights bound = record {
  size = length-negated w.rows 0 (length p.columns);
  nears_none = none_falls (direction_of p w) (tight_forms p x) (λ m k.
      le_by _ _ _ _ (sym neg-zero) (value_of_direction p w (get_or (tight_forms p x) m []) (below_at (length p.columns) m (tight_forms p x) (tight_below p x f)))
      (neg_le _ _ (le_by _ _ _ _ refl (sym (weights m k)) (s.at_weights m))));
  moves =
      ap (λ v. sign_of p.direction *ℚ v) (number_of_direction p w j l) ∙ Q.mul_neg _ _ ∙ sym (Q.neg_mul _ _)
      ∙ sym (sum-cost p j w.rows) ∙ sym s.at_cost ∙ cost;
  no_worse = le_by _ _ _ _ (ap (λ v. sign_of p.direction *ℚ v) (value_of_direction p w (with_cost p j t).objective (objective_in_range p j t f l)) ∙ Q.mul_neg _ _) (sym neg-zero) (neg_le _ _ not_below);
}
  where
    value : sign_of p.direction *ℚ items_sum w.rows (coefficient_of (with_cost p j t).objective) ≡ combined_bound ts +ℚ neg_ℚ t *ℚ sign_of d
    value =
        sum-scaled w.rows (sign_of p.direction) (coefficient_of (with_cost p j t).objective)
        ∙ sym (sum-same w.rows _ _ (λ k. given_and_cost p j k t))
        ∙ sum-added w.rows (given_cost p j) (λ k. neg_ℚ t *ℚ cost_coefficient p j k)
        ∙ ap₂ ◌+ℚ◌ (sym s.bounds) (sym (sum-scaled w.rows (neg_ℚ t) (cost_coefficient p j)) ∙ ap (λ v. neg_ℚ t *ℚ v) (sym s.at_cost ∙ cost))

    nothing : (s t : Rational) → s *ℚ t +ℚ neg_ℚ t *ℚ s ≡ zero_ℚ
    nothing s t = ap (λ v. s *ℚ t +ℚ v) (Q.neg_mul t s ∙ ap neg_ℚ (Q.mul_comm t s)) ∙ Q.add-neg (s *ℚ t)

    not_below : zero_ℚ ≤ℚ sign_of p.direction *ℚ items_sum w.rows (coefficient_of (with_cost p j t).objective)
    not_below = le_by _ _ _ _ (sym (nothing (sign_of d) t)) value (Q.add-le-add _ _ _ _ bound (Q.le_refl (neg_ℚ t *ℚ sign_of d)))

leaf_shown : (p : Problem) (x : List Rational) (j : ℕ) (d : Direction) (t : Rational) (w : Weights) (o : Option (List Weighted)) → FormsInRange p → j < length p.columns → IfSome o (LeafSums p x j w.rows) → shows (length (cost_auxiliary p x j d).columns) o (scaled (sign_of d) (cost_auxiliary p x j d).objective) (sign_of d *ℚ (t -ℚ zero_ℚ)) ≡ true → IsEndDirection p x j t (sign_of d) (direction_of p w)
leaf_shown p x j d t w None f l s h = cc
leaf_shown p x j d t w (Some ts) f l s h =
    let both = and_parts (same_form (length (cost_auxiliary p x j d).columns) (combined ts) (scaled (sign_of d) (cost_auxiliary p x j d).objective)) (is_at_most (sign_of d *ℚ (t -ℚ zero_ℚ)) (combined_bound ts)) h in
    let same = same_coefficients (length (cost_auxiliary p x j d).columns) (combined ts) (scaled (sign_of d) (cost_auxiliary p x j d).objective) both.0 in
    from_sums p x j d t w ts f l s
    (same 0 (omega arith) ∙ Q.add-zero _ ∙ Q.mul-one _)
    (λ m k. same (suc m) (omega (arith, length-weight_columns 1 (tight_forms p x))) ∙ ap (λ b. cond b (sign_of d *ℚ one_ℚ) zero_ℚ +ℚ zero_ℚ) (different m) ∙ Q.add-zero zero_ℚ)
    (le_by _ _ _ _ (ap (λ v. sign_of d *ℚ v) (sym (ap (λ v. t +ℚ v) neg-zero ∙ Q.add-zero t))) refl (at_most_true _ _ both.1))
  where
    different : (m : ℕ) → (0 == suc m) ≡ false
    different m = grind (arith, nat_tests)

-- a leaf that shows an end gives its direction
pub leaf_gives_direction : (p : Problem) (x : List Rational) (j : ℕ) (d : Direction) (v : Version) (t : Rational) (w : Weights) → FormsInRange p → j < length p.columns → node_passes (cost_auxiliary p x j d) v (Some t) [] [] (Bound w) ≡ true → IsEndDirection p x j t (sign_of d) (direction_of p w)
leaf_gives_direction p x j d One t w f l h = leaf_shown p x j d t w (terms (cost_auxiliary p x j d) [] [] [] w) f l (leaf_sums p x j d w) h
leaf_gives_direction p x j d Two t w f l h = leaf_shown p x j d t w (terms (cost_auxiliary p x j d) [] [] [] w) f l (leaf_sums p x j d w) h

-- ---- what an optimal verdict shows

-- a point of the auxiliary problem is the cost and the weights
parted : (p : Problem) (x : List Rational) (j : ℕ) (d : Direction) (F : Rational → List Rational → Type 0) → ((t : Rational) (ws : List Rational) → Feasible (cost_auxiliary p x j d) (t ∷ ws) → F t (t ∷ ws)) → (z : List Rational) → Feasible (cost_auxiliary p x j d) z → F (number_at z 0) z
parted p x j d F h [] k = absurd (omega (arith, k.relaxed.size))
parted p x j d F h (t ∷ ws) k = h t ws k

-- the value of the auxiliary problem is the cost
auxiliary_value : (t : Rational) → (one_ℚ *ℚ t +ℚ zero_ℚ) +ℚ zero_ℚ ≡ t
auxiliary_value t = Q.add-zero _ ∙ Q.add-zero _ ∙ Q.one-mul t

direction_at : (p : Problem) (x : List Rational) (j : ℕ) (d : Direction) (v : Version) (t : Rational) (ws : List Rational) (w : Weights) → FormsInRange p → j < length p.columns → node_passes (cost_auxiliary p x j d) v (Some (objective_value (cost_auxiliary p x j d) (t ∷ ws))) [] [] (Bound w) ≡ true → IsEndDirection p x j t (sign_of d) (direction_of p w)
direction_at p x j d v t ws w f l h = let P : Rational → Type 0 = λ u. node_passes (cost_auxiliary p x j d) v (Some u) [] [] (Bound w) ≡ true in leaf_gives_direction p x j d v t w f l (subst P (auxiliary_value t) h)

pub optimum_shows_lowest : (p : Problem) (x : List Rational) (j : ℕ) (v : Version) (z : List Rational) (w : Weights) → FormsInRange p → AllContinuous p → j < length p.columns → Feasible p x → Feasible (cost_auxiliary p x j Min) z → node_passes (cost_auxiliary p x j Min) v (Some (objective_value (cost_auxiliary p x j Min) z)) [] [] (Bound w) ≡ true → HasLowestCost p x j (Some (number_at z 0))
optimum_shows_lowest p x j v z w f n l h k passes =
    parted p x j Min (λ t z. node_passes (cost_auxiliary p x j Min) v (Some (objective_value (cost_auxiliary p x j Min) z)) [] [] (Bound w) ≡ true → HasLowestCost p x j (Some t))
    (λ t ws g e. direction_shows_lowest p x (direction_of p w) j t one_ℚ n (point_shows_best p x j Min t ws f l h g) h (direction_at p x j Min v t ws w f l e) (less_true zero_ℚ one_ℚ refl)) z k passes

pub optimum_shows_highest : (p : Problem) (x : List Rational) (j : ℕ) (v : Version) (z : List Rational) (w : Weights) → FormsInRange p → AllContinuous p → j < length p.columns → Feasible p x → Feasible (cost_auxiliary p x j Max) z → node_passes (cost_auxiliary p x j Max) v (Some (objective_value (cost_auxiliary p x j Max) z)) [] [] (Bound w) ≡ true → HasHighestCost p x j (Some (number_at z 0))
optimum_shows_highest p x j v z w f n l h k passes =
    parted p x j Max (λ t z. node_passes (cost_auxiliary p x j Max) v (Some (objective_value (cost_auxiliary p x j Max) z)) [] [] (Bound w) ≡ true → HasHighestCost p x j (Some t))
    (λ t ws g e. direction_shows_highest p x (direction_of p w) j t (whole (negsuc 0)) n (point_shows_best p x j Max t ws f l h g) h (direction_at p x j Max v t ws w f l e) (less_true (whole (negsuc 0)) zero_ℚ refl)) z k passes
