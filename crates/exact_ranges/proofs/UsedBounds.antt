-- The weights that use a bound, summed one by one, and a bound with its distance.
use Rattle.std.proofs.Common.{◌≡◌, ◌∙◌, ◌==◌, ◌&&◌, cond, ℕ, Bool, true, false, List, [], ◌∷◌, refl, sym, ap, subst, Option, Some, None, IfSome, Result, Ok, Err, IfOk}
use Rattle.rational.specs.Rational.{Rational, zero_ℚ, ◌+ℚ◌, ◌*ℚ◌}
use Rattle.milp.specs.Form.{sum_at}
use Rattle.milp.specs.Points.{sign_of}
use Rattle.rational.proofs.Laws as Q
use Rattle.fraction.specs.declared.frac.NoFit.{NoFit}
use Rattle.fraction.specs.Fits.{sum_fits}
use Rattle.fraction.specs.Answers.{add_answer}
use Rattle.instance.specs.Sums.{and_then}
use Rattle.verdicts.specs.Certificate.{Item}
use Rattle.ranging.specs.BoundRanges.{BoundSide, Lower, Upper, uses, weight_using}
use Rattle.milp.specs.Problem.{Row, Problem}
use Rattle.verdicts.specs.Certificate.{Weights}
use Rattle.exact_ranges.specs.Faults.{using_answer}
use Rattle.exact_ranges.specs.Sought.{Side, side_of, HasBound}
use Rattle.exact_ranges.specs.Ranges.{Range, IsBoundRange, AreRangesOf}
use Rattle.exact_ranges.specs.BoundParts.{Used, used_at, IsUsed}

-- a sum that fits is the sum
pub sum_is : (a b : Rational) → IfOk (add_answer a b) (λ v. v ≡ a +ℚ b)
sum_is a b = go (sum_fits a b) _
  where
    go : (t : Bool) (e : NoFit) → IfOk (cond t (Ok (a +ℚ b)) (Err e)) (λ v. v ≡ a +ℚ b)
    go true e = refl
    go false e = tt

pub with_distance : (a b v : Rational) → Ok v ≡ add_answer a b → v ≡ a +ℚ b
with_distance a b v e = subst (λ (r : Result Rational NoFit). IfOk r (λ w. w ≡ a +ℚ b)) (sym e) (sum_is a b)

-- the sum of the weights from the first one on is the total and what they come to
more_sums : (i : ℕ) (s : BoundSide) (total w : Rational) (ks : List Item) → ((t : Rational) → IfOk (using_answer i s t ks) (λ v. v ≡ t +ℚ weight_using i s ks)) → (r : Result Rational NoFit) → IfOk r (λ v. v ≡ total +ℚ w) → IfOk (and_then r (λ t. using_answer i s t ks)) (λ v. v ≡ total +ℚ (w +ℚ weight_using i s ks))
more_sums i s total w ks rest (Err e) h = tt
more_sums i s total w ks rest (Ok t) h = subst (λ (u : Rational). IfOk (using_answer i s t ks) (λ v. v ≡ u)) (ap (λ (y : Rational). y +ℚ weight_using i s ks) h ∙ Q.add_assoc total w (weight_using i s ks)) (rest t)

one_sum : (i : ℕ) (s : BoundSide) (total w : Rational) (ks : List Item) → ((t : Rational) → IfOk (using_answer i s t ks) (λ v. v ≡ t +ℚ weight_using i s ks)) → (b : Bool) → IfOk (cond b (and_then (add_answer total w) (λ t. using_answer i s t ks)) (using_answer i s total ks)) (λ v. v ≡ total +ℚ (cond b w zero_ℚ +ℚ weight_using i s ks))
one_sum i s total w ks rest true = more_sums i s total w ks rest (add_answer total w) (sum_is total w)
one_sum i s total w ks rest false = subst (λ (u : Rational). IfOk (using_answer i s total ks) (λ v. v ≡ total +ℚ u)) (sym (Q.zero-add (weight_using i s ks))) (rest total)

sums_are : (i : ℕ) (s : BoundSide) (total : Rational) (ks : List Item) → IfOk (using_answer i s total ks) (λ v. v ≡ total +ℚ weight_using i s ks)
sums_are i s total [] = sym (Q.add-zero total)
sums_are i s total (k ∷ ks) = one_sum i s total k.weight ks (λ t. sums_are i s t ks) ((k.index == i) && uses s k.weight)

pub weight_is : (i : ℕ) (s : BoundSide) (ks : List Item) (v : Rational) → Ok v ≡ using_answer i s zero_ℚ ks → v ≡ weight_using i s ks
weight_is i s ks v e =
    subst (λ (r : Result Rational NoFit). IfOk r (λ w. w ≡ zero_ℚ +ℚ weight_using i s ks)) (sym e) (sums_are i s zero_ℚ ks)
    ∙ Q.zero-add (weight_using i s ks)

-- a bound that is there, as the weights use it
pub is_used : (p : Problem) (x : List Rational) (w : Weights) (i : ℕ) (s : Side) (b : Rational) (u : Used) → u ≡ used_at p x w i s b → HasBound p i s b → IsUsed p x w u
is_used p x w i s b u e h = subst (IsUsed p x w) (sym e) (record { there = h; is = refl })

pub made_used : (p : Problem) (x : List Rational) (w : Weights) (i : ℕ) (s : Side) (b v t : Rational) → v ≡ weight_using i (side_of s) w.rows → t ≡ sign_of p.direction *ℚ sum_at x p.objective → ◌≡◌ {A = Used} (record { row = i; side = s; bound = b; weight = v; total = t }) (used_at p x w i s b)
made_used p x w i s b v t e f = rw (e, f) refl

-- the ranges of both bounds of a row
pub both_sides : (p : Problem) (x : List Rational) (w : Weights) (i : ℕ) (o : Option Row) (lower upper : Option Range) → IfSome o (λ (r : Row). IsBoundRange p x w i Lower r.lower lower) → IfSome o (λ (r : Row). IsBoundRange p x w i Upper r.upper upper) → IfSome o (λ (r : Row). AreRangesOf p x w i r (record { lower = lower; upper = upper }))
both_sides p x w i None lower upper h k = tt
both_sides p x w i (Some r) lower upper h k = record { lower = h; upper = k }
