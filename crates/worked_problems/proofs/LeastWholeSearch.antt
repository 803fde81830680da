-- min x, 2 <= x <= 5 and whole: the optimal point of the root's relaxation is whole, so no split is honest, and no ray improves.
use Rattle.std.proofs.Common.{◌≡◌, ◌∙◌, ℕ, zero, suc, List, [], ◌∷◌, Bool, true, false, refl, sym, subst, arith}
use Rattle.std.specs.Prelude.{IfSome, IsTrue, slice_get, ℤ, pos, negsuc, ◌+ℤ◌}
use Rattle.std.proofs.lemmas.Int.{ints}
use Rattle.rational.specs.Rational.{Rational, zero_ℚ, one_ℚ, whole, ◌+ℚ◌, ◌*ℚ◌, ◌<ℚ◌, ◌≤ℚ◌}
use Rattle.rational.specs.Compare.{is_less}
use Rattle.rational.proofs.Laws as Q
use Rattle.milp.specs.Form.{number_at}
use Rattle.milp.specs.Points.{IsBetter, IsImprovingRay, IsOptimal, IsWhole, IsWithin, Feasible, Relaxed, objective_value}
use Rattle.verdicts.specs.Certificate.{Split}
use Rattle.verdicts.specs.Proves.{lower_under, upper_under}
use Rattle.certificate.specs.Written.{split_column}
use Rattle.basis.specs.Node.{IsNodePoint, integer_at}
use Rattle.search_tree.specs.Nodes.{IsHonestSplit, IsRelaxedOptimum}
use Rattle.branch_search.specs.declared.whole_fault.Wanted.TheVariants.{Best, Any}
use Rattle.worked_problems.specs.Problems.{least_whole}
use Rattle.worked_problems.specs.Unhindered.{AreUnhindered}
use Rattle.worked_problems.proofs.Wholes.{at_most as whole_le}
use Rattle.worked_problems.proofs.Unsplit.{unhindered}
use Rattle.worked_problems.proofs.LeastWhole.{no_fault, never_limited}

-- ---- the optimal point of the root's relaxation

value_is : (x : List Rational) → one_ℚ *ℚ objective_value least_whole x ≡ number_at x 0
value_is x =
    let a : Rational = number_at x 0 in
    Q.one-mul ((one_ℚ *ℚ a +ℚ zero_ℚ) +ℚ zero_ℚ) ∙ Q.add-zero (one_ℚ *ℚ a +ℚ zero_ℚ) ∙ Q.add-zero (one_ℚ *ℚ a) ∙ Q.one-mul a

abbrev two : List Rational
two = whole (pos 2) ∷ []

two_is_point : IsNodePoint least_whole [] [] two
two_is_point = record { relaxed = relaxed; columns = record { within = within }; derived = λ k. tt }
  where
    relaxed : Relaxed least_whole two
    relaxed = record { size = refl; columns = columns; rows = λ i. tt }
      where
        columns : (j : ℕ) → IfSome (slice_get least_whole.columns j) (λ c. IsWithin c.lower c.upper (number_at two j))
        columns zero = record { low = Q.le_refl (whole (pos 2)); high = whole_le (pos 2) (pos 5) (omega (arith, ints)) }
        columns (suc j) = tt

    within : (j : ℕ) → IsWithin (lower_under least_whole [] j) (upper_under least_whole [] j) (number_at two j)
    within zero = record { low = Q.le_refl (whole (pos 2)); high = whole_le (pos 2) (pos 5) (omega (arith, ints)) }
    within (suc j) = record { low = tt; high = tt }

module _ (x : List Rational) (h : IsRelaxedOptimum least_whole [] [] x) where
  at_least : whole (pos 2) ≤ℚ number_at x 0
  at_least = let column = h.point.relaxed.columns 0 in column.low

  at_most : number_at x 0 ≤ℚ whole (pos 2)
  at_most = by (is_less (whole (pos 2)) (number_at x 0)) refl
    where
      better : whole (pos 2) <ℚ number_at x 0 → IsBetter least_whole two x
      better less = subst (λ v. v <ℚ one_ℚ *ℚ objective_value least_whole x) (sym (value_is two)) (subst (λ v. whole (pos 2) <ℚ v) (sym (value_is x)) less)

      by : (t : Bool) → is_less (whole (pos 2)) (number_at x 0) ≡ t → number_at x 0 ≤ℚ whole (pos 2)
      by true e = absurd (h.none_better two two_is_point (better (Q.less_true _ _ e)))
      by false e = Q.less_false _ _ e

  -- no whole number and the next one have it strictly between them
  never_between : (at : ℤ) → whole at <ℚ number_at x 0 → number_at x 0 <ℚ whole (at +ℤ pos 1) → ⊥
  never_between (pos zero) above below = Q.lt-not-le _ _ below (Q.le_trans _ _ _ (whole_le (pos 1) (pos 2) (omega (arith, ints))) at_least)
  never_between (pos (suc zero)) above below = Q.lt-not-le _ _ below at_least
  never_between (pos (suc (suc n))) above below = Q.lt-not-le _ _ above (Q.le_trans _ _ _ at_most (whole_le (pos 2) (pos (suc (suc n))) (omega (arith, ints))))
  never_between (negsuc n) above below = Q.lt-not-le _ _ below (Q.le_trans _ _ _ (whole_le (negsuc n +ℤ pos 1) (pos 2) (omega (arith, ints))) at_least)

-- ---- no split is honest

no_split : (s : Split) → ¬ (IsHonestSplit least_whole [] [] s)
no_split s h = at_column (split_column s) h.integer h.above h.below
  where
    at_column : (j : ℕ) → integer_at least_whole j ≡ true → whole s.at <ℚ number_at h.point j → number_at h.point j <ℚ whole (s.at +ℤ pos 1) → ⊥
    at_column zero e above below = never_between h.point h.is_optimum s.at above below
    at_column (suc j) e above below = cc

-- ---- no ray improves

no_ray : (r : List Rational) → ¬ (IsImprovingRay least_whole r)
no_ray r h = Q.lt-not-le _ _ h.improves (subst (λ v. zero_ℚ ≤ℚ v) (sym is) (let column = h.columns 0 in column.low))
  where
    is : one_ℚ *ℚ (one_ℚ *ℚ number_at r 0 +ℚ zero_ℚ) ≡ number_at r 0
    is = Q.one-mul (one_ℚ *ℚ number_at r 0 +ℚ zero_ℚ) ∙ Q.add-zero (one_ℚ *ℚ number_at r 0) ∙ Q.one-mul (number_at r 0)

-- ---- its search, and its verdict

pub are_unhindered : AreUnhindered least_whole 0
are_unhindered Best none = unhindered least_whole no_split no_fault never_limited
are_unhindered Any ray = absurd (no_ray ray.0 ray.1)

is_feasible : Feasible least_whole two
is_feasible = record { relaxed = two_is_point.relaxed; integers = integers }
  where
    integers : (j : ℕ) → IfSome (slice_get least_whole.columns j) (λ c. IsTrue c.integer → IsWhole (number_at two j))
    integers zero = λ h. refl
    integers (suc j) = tt

pub is_optimal : IsOptimal least_whole two
is_optimal = record { feasible = is_feasible; best = λ y k better. above_two y k (subst (λ v. v <ℚ whole (pos 2)) (value_is y) (subst (λ v. one_ℚ *ℚ objective_value least_whole y <ℚ v) (value_is two) better)) }
  where
    above_two : (y : List Rational) → Feasible least_whole y → ¬ (number_at y 0 <ℚ whole (pos 2))
    above_two y k below = let column = k.relaxed.columns 0 in Q.lt-not-le _ _ below column.low
