-- min 0, x >= 0, whole or not: Bland's run ends where it starts, at a point that is optimal.
use Rattle.std.proofs.Common.{◌≡◌, ℕ, zero, suc, List, [], ◌∷◌, Bool, false, true, Option, Some, None, refl, sym, subst}
use Rattle.std.specs.Prelude.{slice_get, IfSome, IsTrue, IsOk}
use Rattle.integer.specs.Gcd.{gcd, gcd_within}
use Rattle.rational.specs.Rational.{Rational, zero_ℚ, one_ℚ, over, ◌+ℚ◌, ◌*ℚ◌, ◌<ℚ◌}
use Rattle.rational.proofs.Laws as Q
use Rattle.milp.specs.Form.{number_at}
use Rattle.milp.specs.Problem.{Problem}
use Rattle.milp.specs.Points.{IsWhole, IsWithin, Feasible, IsOptimal, IsImprovingRay}
use Rattle.fraction.specs.declared.frac.NoFit.{NoFit}
use Rattle.instance.specs.Sums.{value_answer}
use Rattle.verdicts.specs.Certificate.{Weights, Bound, Split}
use Rattle.verdicts.specs.Migrated.{named}
use Rattle.basis.specs.Dictionary.{Dictionary}
use Rattle.basis.specs.Node.{integer_at}
use Rattle.basis.specs.Pivots.{Operation}
use Rattle.basis.specs.Relaxation.{IsUnboundedBasis}
use Rattle.basis.specs.Operations.{IsNodeOperation}
use Rattle.basis.specs.declared.Place.{Place}
use Rattle.cert_check.specs.Parts.{point_answer, node_answer}
use Rattle.search_tree.specs.Nodes.{IsHonestSplit}
use Rattle.search_tree.specs.Work.{IsWorkFault, node_setting}
use Rattle.worked_problems.specs.Problems.{over_x}
use Rattle.branch_search.specs.declared.whole_fault.Wanted.TheVariants.{Best, Any}
use Rattle.worked_problems.specs.Unhindered.{IsUnhindered, AreUnhindered}
use Rattle.worked_problems.proofs.Fitting.{none_some, no_err}
use Rattle.worked_problems.proofs.Wholes.{irreflexive}
use Rattle.worked_problems.proofs.Unsplit.{none_whole, unhindered}
use Rattle.worked_problems.proofs.FromZero as at

abbrev any_x : Bool → Problem
any_x integer = over_x integer [] []

abbrev origin : List Rational
origin = zero_ℚ ∷ []

abbrev no_weights : Weights
no_weights = record { rows = []; columns = []; derived = []; splits = [] }

point_fits : (integer : Bool) → IsOk (point_answer (any_x integer) (Some origin))
point_fits true = refl
point_fits false = refl

value_fits : (integer : Bool) → IsOk (value_answer (any_x integer) origin)
unfolding ◌+ℚ◌ over gcd gcd_within
value_fits integer = refl

bound_fits : (integer : Bool) (goal : Option Rational) → IsOk (node_answer (node_setting (any_x integer) [] []) goal (Bound (named (any_x integer) [] no_weights)))
unfolding ◌+ℚ◌ ◌*ℚ◌ over gcd gcd_within
bound_fits integer None = refl
bound_fits integer (Some v) = refl

module _ (integer : Bool) where
  never_unbounded : (b : List Place) (d : Dictionary) (x : ℕ → Rational) (q : ℕ) (r : ℕ → Rational) → ¬ (IsUnboundedBasis (at.at_root integer []) b d x q r)
  never_unbounded b d x q r u =
      Q.lt-not-le zero_ℚ zero_ℚ (subst (λ g. g <ℚ zero_ℚ) (at.gain_is integer [] tt d (at.unbounded_dictionary integer [] b d x q r u)) (at.unbounded_rises integer [] b d x q r u).falls) (Q.le_refl zero_ℚ)

  no_operation : (a : Rational) (op : Operation) (c : Rational) → ¬ (IsNodeOperation (any_x integer) [] [] a op c)
  no_operation a op c (IsNodeOperation.of_run h) = at.no_run_operation integer [] a op c h
  no_operation a op c (IsNodeOperation.above_split k side is e o f) = none_some side is
  no_operation a op c (IsNodeOperation.of_denominators b d x q r n number u is e f) = never_unbounded b d x q r u
  no_operation a op c (IsNodeOperation.of_ray b d x q r v u k e o f) = never_unbounded b d x q r u

  no_fault : (e : NoFit) → ¬ (IsWorkFault (any_x integer) [] [] e)
  no_fault e (IsWorkFault.in_method h) = no_operation e.a _ e.b h.operation
  no_fault e (IsWorkFault.in_value x w b d h is) = no_err (value_answer (any_x integer) x) e (subst (λ y. IsOk (value_answer (any_x integer) y)) (sym (at.optimal_point integer [] x w b d h)) (value_fits integer)) is
  no_fault e (IsWorkFault.in_point x w b d h is) = no_err (point_answer (any_x integer) (Some x)) e (subst (λ y. IsOk (point_answer (any_x integer) (Some y))) (sym (at.optimal_point integer [] x w b d h)) (point_fits integer)) is
  no_fault e (IsWorkFault.in_bound x w b d goal h is) =
      no_err (node_answer (node_setting (any_x integer) [] []) goal (Bound (named (any_x integer) [] w))) e (subst (λ u. IsOk (node_answer (node_setting (any_x integer) [] []) goal (Bound (named (any_x integer) [] u)))) (sym (at.optimal_weights integer [] x w b d h tt)) (bound_fits integer goal)) is
  no_fault e (IsWorkFault.in_empty w goal h is) = at.never_infeasible integer [] w h
  no_fault e (IsWorkFault.in_ray x ray h is) = never_unbounded h.basis h.dictionary h.values h.mover h.direction h.is_unbounded

  no_ray : (r : List Rational) → ¬ (IsImprovingRay (any_x integer) r)
  no_ray r h = irreflexive zero_ℚ (subst (λ v. v <ℚ zero_ℚ) (Q.mul-zero one_ℚ) h.improves)

  is_unhindered : ((s : Split) → ¬ (IsHonestSplit (any_x integer) [] [] s)) → IsUnhindered (any_x integer) 0
  is_unhindered no_split = unhindered (any_x integer) no_split no_fault (at.never_limited integer [])

  pub are_unhindered : ((s : Split) → ¬ (IsHonestSplit (any_x integer) [] [] s)) → AreUnhindered (any_x integer) 0
  are_unhindered no_split Best none = is_unhindered no_split
  are_unhindered no_split Any ray = absurd (no_ray ray.0 ray.1)

  is_feasible : Feasible (any_x integer) origin
  is_feasible = record { relaxed = record { size = refl; columns = columns; rows = λ i. tt }; integers = integers }
    where
      columns : (j : ℕ) → IfSome (slice_get ((any_x integer).columns) j) (λ c. IsWithin c.lower c.upper (number_at origin j))
      columns zero = record { low = Q.le_refl zero_ℚ; high = tt }
      columns (suc j) = tt

      integers : (j : ℕ) → IfSome (slice_get ((any_x integer).columns) j) (λ c. IsTrue c.integer → IsWhole (number_at origin j))
      integers zero = λ h. refl
      integers (suc j) = tt

  pub is_optimal : IsOptimal (any_x integer) origin
  is_optimal = record { feasible = is_feasible; best = λ y k less. Q.lt-not-le _ _ less (Q.le_refl _) }

none_real : (j : ℕ) → integer_at (any_x false) j ≡ false
none_real zero = refl
none_real (suc j) = refl

pub real_is_unhindered : IsUnhindered (any_x false) 0
real_is_unhindered = is_unhindered false (none_whole (any_x false) none_real)
