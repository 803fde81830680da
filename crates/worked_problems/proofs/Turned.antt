-- The root of a problem whose run makes one step: each operation of the work fits.
use Rattle.std.proofs.Common.{◌≡◌, ◌∙◌, ℕ, List, [], ◌∷◌, ◌++◌, Bool, true, Option, Some, sym, ap, subst}
use mathlib.Core.Path.{ap₂}
use Rattle.std.specs.Prelude.{IfSome, IsOk}
use Rattle.rational.specs.Rational.{Rational, zero_ℚ, one_ℚ, inv_ℚ, ◌*ℚ◌, ◌≤ℚ◌}
use Rattle.rational.proofs.Laws as Q
use Rattle.milp.specs.Problem.{Problem}
use Rattle.fraction.specs.declared.frac.NoFit.{NoFit}
use Rattle.instance.specs.Sums.{value_answer}
use Rattle.verdicts.specs.Certificate.{Weights, Bound}
use Rattle.verdicts.specs.Migrated.{named}
use Rattle.basis.specs.System.{System, lower_of, upper_of, AreBoundsInOrder}
use Rattle.basis.specs.Dictionary.{Dictionary}
use Rattle.basis.specs.Pivots.{Operation}
use Rattle.basis.specs.Weights.{IsContradictory, items_at, nonzero}
use Rattle.basis.specs.Relaxation.{IsOptimalRelaxation, IsInfeasibleRelaxation}
use Rattle.basis.specs.Operations.{IsNodeOperation}
use Rattle.basis.specs.declared.Place.{Place}
use Rattle.cert_check.specs.Parts.{point_answer, node_answer}
use Rattle.cert_check.specs.Parts as of
use Rattle.search_tree.specs.Work.{IsWorkFault, node_setting}
use Rattle.worked_problems.specs.Problems.{times_x, over_x, row_of_x}
use Rattle.worked_problems.proofs.Fitting.{none_some, fits_by, never_unfit, no_err}
use Rattle.worked_problems.proofs.OneRow.{BasisLaws}
use Rattle.worked_problems.proofs.Turning.{turning, Turns, never_unbounded, never_blocked, optimal_x, optimal_row_gain, optimal_x_gain}
use Rattle.worked_problems.proofs.Turning as run

-- the least o * x over x >= 0, where a * x is inside these bounds
abbrev pub of_row : Bool → Rational → Option Rational → Option Rational → Rational → Problem
of_row integer a lo hi o = over_x integer (row_of_x a lo hi ∷ []) (times_x o)

-- these numbers as the weights on the row and on x, unless they are 0
abbrev pub weighed : Rational → Rational → Weights
weighed row column = record { rows = items_at 0 (nonzero row) ++ []; columns = items_at 0 (nonzero column) ++ []; derived = []; splits = [] }

pub in_order_never_crossed : (s : System) (v : ℕ) → AreBoundsInOrder s → ¬ (IsContradictory s v)
in_order_never_crossed s v h k = Q.lt-not-le _ _ k.crossed (ordered (lower_of s v) (upper_of s v) (h v) k.is_lower k.is_upper)
  where
    ordered : (l u : Option Rational) → IfSome l (λ a. IfSome u (λ b. a ≤ℚ b)) → l ≡ Some k.lower → u ≡ Some k.upper → k.lower ≤ℚ k.upper
    ordered l u m e f = subst (λ o. IfSome o (λ b. k.lower ≤ℚ b)) f (subst (λ o. IfSome o (λ a. IfSome u (λ b. a ≤ℚ b))) e m)

-- the tests of the optimal point fit
pub record DoTestsFit (p : Problem) (x : List Rational) (w : Weights) : Type 0 where
  pub value : IsOk (value_answer p x)
  pub point : IsOk (point_answer p (Some x))
  pub claim : (v : Rational) → IsOk (of.value_answer p (Some x) (Some v))
  pub closed : (goal : Option Rational) → IsOk (node_answer (node_setting p [] []) goal (Bound (named p [] w)))

module _ (integer : Bool) (a : Rational) (lo hi : Option Rational) (o : Rational) (place : Place) (bound : Rational) (laws : BasisLaws) (t : Turns a lo hi (one_ℚ *ℚ o) place bound) where
  module _ (x : List Rational) (w : Weights) (b : List Place) (d : Dictionary) (h : IsOptimalRelaxation (of_row integer a lo hi o) [] [] x w b d) where
    pub optimal_point : x ≡ (inv_ℚ a *ℚ bound) ∷ []
    optimal_point = h.point ∙ ap (λ y. y ∷ []) (optimal_x a lo hi (one_ℚ *ℚ o) place bound laws t b d h.values h.is_optimal)

    pub optimal_weights : w ≡ weighed ((one_ℚ *ℚ o) *ℚ inv_ℚ a) zero_ℚ
    optimal_weights = h.weights ∙ ap₂ weighed (optimal_row_gain a lo hi (one_ℚ *ℚ o) place bound laws t b d h.values h.is_optimal) (optimal_x_gain a lo hi (one_ℚ *ℚ o) place bound laws t b d h.values h.is_optimal)

  never_infeasible : (w : Weights) → ¬ (IsInfeasibleRelaxation (of_row integer a lo hi o) [] [] w)
  never_infeasible w (IsInfeasibleRelaxation.contradiction v h e) = in_order_never_crossed (turning a lo hi (one_ℚ *ℚ o)) v t.goes.in_order h
  never_infeasible w (IsInfeasibleRelaxation.blocked b d x r to h e) = never_blocked a lo hi (one_ℚ *ℚ o) place bound laws t b d x r to h

  operations_fit : (n : Rational) (op : Operation) (c : Rational) → IsNodeOperation (of_row integer a lo hi o) [] [] n op c → fits_by op n c ≡ true
  operations_fit n op c (IsNodeOperation.of_run h) = run.operations_fit a lo hi (one_ℚ *ℚ o) place bound laws t n op c h
  operations_fit n op c (IsNodeOperation.above_split k side is e f g) = absurd (none_some side is)
  operations_fit n op c (IsNodeOperation.of_denominators b d x q r i number u is e f) = absurd (never_unbounded a lo hi (one_ℚ *ℚ o) place bound laws t b d x q r u)
  operations_fit n op c (IsNodeOperation.of_ray b d x q r v u k e f g) = absurd (never_unbounded a lo hi (one_ℚ *ℚ o) place bound laws t b d x q r u)

  module _ (tests : DoTestsFit (of_row integer a lo hi o) ((inv_ℚ a *ℚ bound) ∷ []) (weighed ((one_ℚ *ℚ o) *ℚ inv_ℚ a) zero_ℚ)) where
    pub no_fault : (e : NoFit) → ¬ (IsWorkFault (of_row integer a lo hi o) [] [] e)
    no_fault e (IsWorkFault.in_method h) = never_unfit e (operations_fit e.a _ e.b h.operation) h.not_fit
    no_fault e (IsWorkFault.in_value x w b d h is) = no_err (value_answer (of_row integer a lo hi o) x) e (subst (λ y. IsOk (value_answer (of_row integer a lo hi o) y)) (sym (optimal_point x w b d h)) tests.value) is
    no_fault e (IsWorkFault.in_point x w b d h is) = no_err (point_answer (of_row integer a lo hi o) (Some x)) e (subst (λ y. IsOk (point_answer (of_row integer a lo hi o) (Some y))) (sym (optimal_point x w b d h)) tests.point) is
    no_fault e (IsWorkFault.in_bound x w b d goal h is) =
        no_err (node_answer (node_setting (of_row integer a lo hi o) [] []) goal (Bound (named (of_row integer a lo hi o) [] w))) e
        (subst (λ u. IsOk (node_answer (node_setting (of_row integer a lo hi o) [] []) goal (Bound (named (of_row integer a lo hi o) [] u)))) (sym (optimal_weights x w b d h)) (tests.closed goal)) is
    no_fault e (IsWorkFault.in_empty w goal h is) = never_infeasible w h
    no_fault e (IsWorkFault.in_ray x ray h is) = never_unbounded a lo hi (one_ℚ *ℚ o) place bound laws t h.basis h.dictionary h.values h.mover h.direction h.is_unbounded
