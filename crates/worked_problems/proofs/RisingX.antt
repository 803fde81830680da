-- min -2 x, x >= 0: x rises without end, and each operation of the method fits.
use Rattle.std.proofs.Common.{◌≡◌, ◌∙◌, ℕ, zero, suc, List, [], ◌∷◌, false, true, Some, refl, sym, ap, subst, arith}
use Rattle.std.proofs.lemmas.Option.{same_Some}
use Rattle.std.specs.Prelude.{pos, negsuc, ◌*ℤ◌, ◌<ℤ◌, slice_get, IfSome, IsTrue, IsOk}
use Rattle.std.proofs.lemmas.Int.{ints}
use Rattle.integer.specs.Gcd.{gcd, gcd_within}
use Rattle.rational.specs.Rational.{Rational, zero_ℚ, one_ℚ, whole, over, inv_ℚ, neg_ℚ, ◌+ℚ◌, ◌*ℚ◌, ◌<ℚ◌}
use Rattle.rational.specs.Denominators.{common_denominator}
use Rattle.rational.proofs.Laws as Q
use Rattle.milp.specs.Form.{Entry, number_at}
use Rattle.milp.specs.Points.{IsWhole, IsWithin, IsHarmless, Feasible, IsImprovingRay, IsUnbounded}
use Rattle.fraction.specs.declared.frac.NoFit.{NoFit}
use Rattle.cert_check.specs.Parts.{point_answer, ray_answer}
use Rattle.search_tree.specs.Work.{IsWorkFault}
use Rattle.branch_search.specs.declared.whole_fault.Wanted.TheVariants.{Best, Any}
use Rattle.worked_problems.specs.Unhindered.{IsUnhindered, AreUnhindered}
use Rattle.worked_problems.proofs.Unsplit.{none_whole, unhindered}
use Rattle.verdicts.specs.WeightedSums.{scaled, coefficient_of}
use Rattle.verdicts.specs.Certificate.{Weights}
use Rattle.basis.specs.Dictionary.{Dictionary}
use Rattle.basis.specs.Pivots.{Operation, Plus, Minus, Times, DividedBy}
use Rattle.basis.specs.Node.{integer_at}
use Rattle.basis.specs.Weights.{integer_numbers}
use Rattle.basis.specs.Relaxation.{IsOptimalRelaxation, IsUnboundedRelaxation}
use Rattle.basis.specs.Operations.{IsNodeOperation}
use Rattle.basis.specs.declared.Place.{Place}
use Rattle.worked_problems.specs.Problems.{times_x, endless}
use Rattle.worked_problems.proofs.Fitting.{none_some, fits_by, same_fits, never_unfit, no_err}
use Rattle.worked_problems.proofs.AnyX.{real_is_unhindered}
use Rattle.worked_problems.proofs.FromZero as at

abbrev minus_two : Rational
minus_two = whole (negsuc 1)

abbrev form : List Entry
form = times_x minus_two

gain_is : coefficient_of (scaled one_ℚ form) 0 ≡ minus_two
gain_is = Q.add-zero (one_ℚ *ℚ minus_two) ∙ Q.one-mul minus_two

below_zero : minus_two <ℚ zero_ℚ
below_zero = record { cross = parts }
  where
    parts : (negsuc 1 *ℤ pos 1) <ℤ (pos 0 *ℤ pos 1)
    parts = omega (arith, ints)

pub never_optimal : (x : List Rational) (w : Weights) (b : List Place) (d : Dictionary) → ¬ (IsOptimalRelaxation endless [] [] x w b d)
never_optimal x w b d h = at.optimal_gain false form x w b d h (omega arith, tt) (subst (λ g. g <ℚ zero_ℚ) (sym gain_is) below_zero)

-- ---- the ray

abbrev numbers : (ℕ → Rational) → List Rational
numbers r = integer_numbers (at.at_root false form) (integer_at endless) r

-- no column is to be whole, so nothing is multiplied
denominator_is : (r : ℕ → Rational) → common_denominator 1 (numbers r) ≡ 1
unfolding gcd gcd_within
denominator_is r = refl

pub unbounded_is : (x ray : List Rational) → IsUnboundedRelaxation endless [] [] x ray → (x ≡ zero_ℚ ∷ []) × (ray ≡ one_ℚ ∷ [])
unbounded_is x ray h =
    let is = at.unbounded_rises false form h.basis h.dictionary h.values h.mover h.direction h.is_unbounded in
    let whole_ray : h.direction 0 *ℚ whole (pos (common_denominator 1 (numbers h.direction))) ≡ one_ℚ = ap (λ n. h.direction 0 *ℚ whole (pos n)) (denominator_is h.direction) ∙ Q.mul-one (h.direction 0) ∙ is.rises in
    (h.point ∙ ap (λ a. a ∷ []) is.origin, h.is_ray ∙ ap (λ a. a ∷ []) whole_ray)

-- ---- operations

one_fits : (op : Operation) → fits_by op one_ℚ one_ℚ ≡ true
unfolding ◌+ℚ◌ ◌*ℚ◌ inv_ℚ neg_ℚ over gcd gcd_within
one_fits Plus = refl
one_fits Minus = refl
one_fits Times = refl
one_fits DividedBy = refl

one_over_one : over (pos 1) 1 ≡ one_ℚ
one_over_one = Q.over-self one_ℚ

pub operations_fit : (a : Rational) (op : Operation) (c : Rational) → IsNodeOperation endless [] [] a op c → fits_by op a c ≡ true
operations_fit a op c (IsNodeOperation.of_run h) = absurd (at.no_run_operation false form a op c h)
operations_fit a op c (IsNodeOperation.above_split k side is e o f) = absurd (none_some side is)
operations_fit a op c (IsNodeOperation.of_denominators b d x q r zero number u is e f) = same_fits op op a one_ℚ c one_ℚ (e ∙ one_over_one) refl (f ∙ ap (λ (n : Rational). over (pos 1) n.denominator) (sym (same_Some _ _ is)) ∙ one_over_one) (one_fits op)
operations_fit a op c (IsNodeOperation.of_denominators b d x q r (suc n) number u is e f) = absurd (none_some number is)
operations_fit a op c (IsNodeOperation.of_ray b d x q r (suc v) u known e o f) = absurd (omega arith)
operations_fit a op c (IsNodeOperation.of_ray b d x q r zero u known e o f) =
    let is = at.unbounded_rises false form b d x q r u in
    same_fits op Times a one_ℚ c one_ℚ (e ∙ is.rises) o (f ∙ ap (λ n. whole (pos n)) (denominator_is r)) (one_fits Times)

-- ---- tests of the point and of the ray

point_fits : IsOk (point_answer endless (Some (zero_ℚ ∷ [])))
point_fits = refl

ray_fits : IsOk (ray_answer endless (Some (one_ℚ ∷ [])))
unfolding ◌+ℚ◌ ◌*ℚ◌ over gcd gcd_within
ray_fits = refl

no_fault : (e : NoFit) → ¬ (IsWorkFault endless [] [] e)
no_fault e (IsWorkFault.in_method h) = never_unfit e (operations_fit e.a _ e.b h.operation) h.not_fit
no_fault e (IsWorkFault.in_value x w b d h is) = never_optimal x w b d h
no_fault e (IsWorkFault.in_point x w b d h is) = never_optimal x w b d h
no_fault e (IsWorkFault.in_bound x w b d goal h is) = never_optimal x w b d h
no_fault e (IsWorkFault.in_empty w goal h is) = at.never_infeasible false form w h
no_fault e (IsWorkFault.in_ray x ray h is) = no_err (ray_answer endless (Some ray)) e (subst (λ y. IsOk (ray_answer endless (Some y))) (sym (unbounded_is x ray h).1) ray_fits) is

none_integer : (j : ℕ) → integer_at endless j ≡ false
none_integer zero = refl
none_integer (suc j) = refl

is_unhindered : IsUnhindered endless 0
is_unhindered = unhindered endless (none_whole endless none_integer) no_fault (at.never_limited false form)

pub are_unhindered : AreUnhindered endless 0
are_unhindered Best none = is_unhindered
are_unhindered Any ray = real_is_unhindered

-- ---- it is unbounded

is_feasible : Feasible endless (zero_ℚ ∷ [])
is_feasible = record { relaxed = record { size = refl; columns = columns; rows = λ i. tt }; integers = integers }
  where
    columns : (j : ℕ) → IfSome (slice_get endless.columns j) (λ c. IsWithin c.lower c.upper (number_at (zero_ℚ ∷ []) j))
    columns zero = record { low = Q.le_refl zero_ℚ; high = tt }
    columns (suc j) = tt

    integers : (j : ℕ) → IfSome (slice_get endless.columns j) (λ c. IsTrue c.integer → IsWhole (number_at (zero_ℚ ∷ []) j))
    integers zero = λ h. refl
    integers (suc j) = tt

is_ray : IsImprovingRay endless (one_ℚ ∷ [])
is_ray = record { size = refl; columns = columns; rows = λ i. tt; integers = integers; improves = subst (λ v. v <ℚ zero_ℚ) (sym value) below_zero }
  where
    columns : (j : ℕ) → IfSome (slice_get endless.columns j) (λ c. IsHarmless c.lower c.upper (number_at (one_ℚ ∷ []) j))
    columns zero = record { low = Q.le_of_lt _ _ at.one_above; high = tt }
    columns (suc j) = tt

    integers : (j : ℕ) → IfSome (slice_get endless.columns j) (λ c. IsTrue c.integer → IsWhole (number_at (one_ℚ ∷ []) j))
    integers zero = λ h. refl
    integers (suc j) = tt

    value : one_ℚ *ℚ (minus_two *ℚ one_ℚ +ℚ zero_ℚ) ≡ minus_two
    value = Q.one-mul (minus_two *ℚ one_ℚ +ℚ zero_ℚ) ∙ Q.add-zero (minus_two *ℚ one_ℚ) ∙ Q.mul-one minus_two

pub is_unbounded : IsUnbounded endless (zero_ℚ ∷ []) (one_ℚ ∷ [])
is_unbounded = record { feasible = is_feasible; ray = is_ray }
