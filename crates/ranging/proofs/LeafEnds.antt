-- What the test of a leaf shows of an end of a cost range.
use Rattle.std.proofs.Common.{◌≡◌, ◌∙◌, ℕ, List, [], true, sym, ap, Some, None}
use Rattle.std.specs.Prelude.{negsuc}
use Rattle.rational.specs.Rational.{Rational, ◌≤ℚ◌, ◌+ℚ◌, ◌*ℚ◌, neg_ℚ, zero_ℚ, one_ℚ, whole}
use Rattle.rational.proofs.Laws as Q
use Rattle.rational.proofs.Laws.{field, field_units, signs}
use Rattle.milp.specs.Form.{number_at}
use Rattle.milp.specs.Problem.{Problem}
use Rattle.milp.specs.Points.{Relaxed, Feasible, objective_value, sign_of}
use Rattle.verdicts.specs.Certificate.{Version, Weights, Bound}
use Rattle.verdicts.specs.Proves.{node_passes}
use Rattle.verdicts.proofs.Laws.{leaf_bound, le_by, neg_le, minus_one-mul}
use Rattle.ranging.specs.CostRanges.{with_cost, with_cost_alone, InCostRange, HasLowestCost, HasHighestCost}
use Rattle.ranging.proofs.CostRanges.{feasible_with}

-- a leaf shows that x is best where column j has the cost t
pub leaf_shows_best : (p : Problem) (x : List Rational) (j : ℕ) (v : Version) (t : Rational) (w : Weights) → Feasible p x → node_passes (with_cost p j t) v (Some (objective_value (with_cost p j t) x)) [] [] (Bound w) ≡ true → InCostRange p x j t
leaf_shows_best p x j v t w f h = record {
  feasible = feasible_with p j t x f;
  best = λ y k b. Q.lt-not-le _ _ b (leaf_bound (with_cost p j t) v (objective_value (with_cost p j t) x) [] [] w y h k.relaxed tt (λ n. tt));
}

-- what a leaf shows where column j alone has a cost
leaf_orders : (p : Problem) (x : List Rational) (j : ℕ) (v : Version) (k : Rational) (w : Weights) → node_passes (with_cost_alone p j k) v (Some (objective_value (with_cost_alone p j k) x)) [] [] (Bound w) ≡ true → (y : List Rational) → Feasible p y → sign_of p.direction *ℚ objective_value (with_cost_alone p j k) x ≤ℚ sign_of p.direction *ℚ objective_value (with_cost_alone p j k) y
leaf_orders p x j v k w h y f =
    let r : Relaxed (with_cost_alone p j k) y = record { size = f.relaxed.size; columns = f.relaxed.columns; rows = f.relaxed.rows } in
    leaf_bound (with_cost_alone p j k) v (objective_value (with_cost_alone p j k) x) [] [] w y h r tt (λ n. tt)

pub leaf_shows_no_highest : (p : Problem) (x : List Rational) (j : ℕ) (v : Version) (w : Weights) → node_passes (with_cost_alone p j one_ℚ) v (Some (objective_value (with_cost_alone p j one_ℚ) x)) [] [] (Bound w) ≡ true → HasHighestCost p x j None
leaf_shows_no_highest p x j v w h = λ y f. le_by _ _ _ _ (same (sign_of p.direction) (number_at x j)) (same (sign_of p.direction) (number_at y j)) (leaf_orders p x j v one_ℚ w h y f)
  where
    same : (s v : Rational) → s *ℚ v ≡ s *ℚ ((one_ℚ *ℚ v +ℚ zero_ℚ) +ℚ zero_ℚ)
    same s v = sym (ap (λ z. s *ℚ z) (Q.add-zero _ ∙ Q.add-zero _ ∙ Q.one-mul v))

pub leaf_shows_no_lowest : (p : Problem) (x : List Rational) (j : ℕ) (v : Version) (w : Weights) → node_passes (with_cost_alone p j (whole (negsuc 0))) v (Some (objective_value (with_cost_alone p j (whole (negsuc 0))) x)) [] [] (Bound w) ≡ true → HasLowestCost p x j None
leaf_shows_no_lowest p x j v w h = λ y f. le_by _ _ _ _ (same (sign_of p.direction) (number_at y j)) (same (sign_of p.direction) (number_at x j)) (neg_le _ _ (leaf_orders p x j v (whole (negsuc 0)) w h y f))
  where
    same : (s v : Rational) → s *ℚ v ≡ neg_ℚ (s *ℚ ((whole (negsuc 0) *ℚ v +ℚ zero_ℚ) +ℚ zero_ℚ))
    same s v = sym (ap neg_ℚ (ap (λ z. s *ℚ z) (Q.add-zero _ ∙ Q.add-zero _ ∙ minus_one-mul v) ∙ Q.mul_neg s v) ∙ Q.neg_neg (s *ℚ v))
