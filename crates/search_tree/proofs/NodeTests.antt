-- The tests of what the simplex method finds at a node.
use Rattle.std.proofs.Common.{◌≡◌, ℕ, inl, inr, ◌⊎◌, List, Option, Some, None, Result, Err, subst, refl}
use Rattle.std.specs.Prelude.{negsuc}
use Rattle.rational.specs.Rational.{Rational, zero_ℚ, one_ℚ, whole, ◌*ℚ◌}
use Rattle.milp.specs.Problem.{Problem}
use Rattle.milp.specs.Points.{sign_of}
use Rattle.fraction.specs.declared.frac.NoFit.{NoFit}
use Rattle.instance.specs.Sums as I
use Rattle.verdicts.specs.WeightedSums.{coefficient_of}
use Rattle.rational.specs.Compare.{is_less, is_at_most}
use Rattle.verdicts.specs.Certificate.{Weights, Side, Derived, Empty, Bound}
use Rattle.verdicts.specs.Migrated.{named}
use Rattle.basis.specs.Dictionary.{Dictionary}
use Rattle.basis.specs.Bland.{HasPassed, IsHeading}
use Rattle.basis.specs.Node.{system_of, integer_at, IsOverColumns}
use Rattle.basis.specs.Weights.{weights_of, made_whole, IsNodeWeights}
use Rattle.basis.specs.Relaxation.{IsOptimalRelaxation, IsInfeasibleRelaxation, contradiction, blocked, blocking_weights, IsUnboundedRelaxation}
use Rattle.basis.specs.Numbers.{Numbers, node_numbers}
use Rattle.basis.specs.declared.Place.{Place}
use Rattle.basis.specs.declared.Place.TheVariants.{Basic, AtLower, AtUpper, AtZero}
use Rattle.basis.proofs.Laws.{optimal_point_base, optimal_weights_base, infeasible_weights_base, unbounded_ray_base}
use Rattle.cert_check.specs.Parts.{point_answer, ray_answer, node_answer}
use Rattle.search_node.specs.Faults.{IsSiteFault}
use Rattle.search_tree.specs.Ascending.{AreFormsAscending}
use Rattle.search_tree.specs.Work.{node_setting}
use Rattle.search_tree.proofs.FaultsTold.{Told}
use Rattle.search_tree.proofs.NodeForms.{IsOfRun, point_told, value_told, ray_told}
use Rattle.search_tree.proofs.LeafWeights.{shown_told}

-- ---- what the simplex method's answers are

optimal_is_weights : (p : Problem) (ds : List Derived) (sides : List Side) (x : List Rational) (w : Weights) (b : List Place) (d : Dictionary) → IsOptimalRelaxation p ds sides x w b d → IsNodeWeights p ds sides w
optimal_is_weights p ds sides x w b d h = IsNodeWeights.of_objective b h.is_optimal.before d h.is_optimal.is_run h.is_optimal.is_dictionary h.weights

infeasible_is_weights : (p : Problem) (ds : List Derived) (sides : List Side) (w : Weights) → IsInfeasibleRelaxation p ds sides w → IsNodeWeights p ds sides w
infeasible_is_weights p ds sides w (contradiction u h e) = IsNodeWeights.of_contradiction u h e
infeasible_is_weights p ds sides w (blocked b d x r place h e) = go place h.passed e
  where
    go : (place : Place) → HasPassed (system_of p ds sides) x r place → w ≡ weights_of p ds (blocking_weights d r place) → IsNodeWeights p ds sides w
    go Basic k e = absurd k
    go AtLower k e = IsNodeWeights.of_row b h.before d r h.is_run h.is_dictionary h.first_outside.holds.basic (inl e)
    go AtUpper k e = IsNodeWeights.of_row b h.before d r h.is_run h.is_dictionary h.first_outside.holds.basic (inr e)
    go AtZero k e = absurd k

optimal_of_run : (p : Problem) (ds : List Derived) (sides : List Side) (x : List Rational) (w : Weights) (b : List Place) (d : Dictionary) → IsOptimalRelaxation p ds sides x w b d → IsOfRun p ds sides x
optimal_of_run p ds sides x w b d h = record {
  values = h.values;
  same = h.point;
  is_of_run = inl (record { basis = b; before = h.is_optimal.before; is_run = h.is_optimal.is_run; is_point = h.is_optimal.is_point });
  base = optimal_point_base p ds sides x w b d h;
}

up_or_down : (d : Dictionary) (q : ℕ) (t : Rational) → IsHeading d q t → (t ≡ one_ℚ) ⊎ (t ≡ whole (negsuc 0))
up_or_down d q t (inl h) = inl h.1
up_or_down d q t (inr h) = inr h.1

ray_of_run : (p : Problem) (ds : List Derived) (sides : List Side) (x ray : List Rational) → IsUnboundedRelaxation p ds sides x ray → IsOfRun p ds sides ray
ray_of_run p ds sides x ray h = record {
  values = made_whole (system_of p ds sides) (integer_at p) h.direction;
  same = h.is_ray;
  is_of_run = inr (record {
    direction = h.direction;
    is_direction = record {
      basis = h.basis;
      before = h.is_unbounded.before;
      is_run = h.is_unbounded.is_run;
      dictionary = h.dictionary;
      is_dictionary = h.is_unbounded.is_dictionary;
      mover = h.mover;
      resting = h.is_unbounded.first_improving.holds.resting;
      heading = h.is_unbounded.heading;
      up_or_down = up_or_down h.dictionary h.mover h.is_unbounded.heading h.is_unbounded.is_heading;
      is_direction = h.is_unbounded.is_direction;
    };
    is_ray = λ v k. refl;
  });
  base = unbounded_ray_base p ds sides x ray h;
}

-- ---- the tests of what it finds

pub optimal_point_told : (p : Problem) (ds : List Derived) (sides : List Side) (x : List Rational) (w : Weights) (b : List Place) (d : Dictionary) → IsOverColumns p ds sides → IsOptimalRelaxation p ds sides x w b d → Told (node_numbers p ds sides) (point_answer p (Some x))
optimal_point_told p ds sides x w b d over h = point_told p ds sides x over (optimal_of_run p ds sides x w b d h)

pub optimal_value_told : (p : Problem) (ds : List Derived) (sides : List Side) (x : List Rational) (w : Weights) (b : List Place) (d : Dictionary) → IsOverColumns p ds sides → IsOptimalRelaxation p ds sides x w b d → Told (node_numbers p ds sides) (I.value_answer p x)
optimal_value_told p ds sides x w b d over h = value_told p ds sides x over (optimal_of_run p ds sides x w b d h)

pub bound_told : (p : Problem) (ds : List Derived) (sides : List Side) (x : List Rational) (w : Weights) (b : List Place) (d : Dictionary) → AreFormsAscending p ds sides → IsOptimalRelaxation p ds sides x w b d → (goal : Option Rational) → Told (node_numbers p ds sides) (node_answer (node_setting p ds sides) goal (Bound (named p sides w)))
bound_told p ds sides x w b d forms h None = tt
bound_told p ds sides x w b d forms h (Some f) =
    shown_told p ds sides forms w (optimal_weights_base p ds sides x w b d h) (λ j. sign_of p.direction *ℚ coefficient_of p.objective j) (is_at_most (sign_of p.direction *ℚ f)) (optimal_is_weights p ds sides x w b d h)

pub empty_told : (p : Problem) (ds : List Derived) (sides : List Side) (w : Weights) → AreFormsAscending p ds sides → IsInfeasibleRelaxation p ds sides w → (goal : Option Rational) → Told (node_numbers p ds sides) (node_answer (node_setting p ds sides) goal (Empty (named p sides w)))
empty_told p ds sides w forms h goal = shown_told p ds sides forms w (infeasible_weights_base p ds sides w h) (λ j. zero_ℚ) (is_less zero_ℚ) (infeasible_is_weights p ds sides w h)

pub endless_ray_told : (p : Problem) (ds : List Derived) (sides : List Side) (x ray : List Rational) → IsOverColumns p ds sides → IsUnboundedRelaxation p ds sides x ray → Told (node_numbers p ds sides) (ray_answer p (Some ray))
endless_ray_told p ds sides x ray over h = ray_told p ds sides ray over (ray_of_run p ds sides x ray h)

-- a fault that is told is at the node
pub told_fault : {A : Type 0} → (ns : Numbers) (r : Result A NoFit) (e : NoFit) → Told ns r → r ≡ Err e → IsSiteFault ns e
told_fault {A} ns r e h is = let P : Result A NoFit → Type 0 = Told ns in subst P is h
