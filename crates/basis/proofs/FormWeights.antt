-- The coefficients of a form over variables as weights: their terms have the value of the form, and its value at the bounds used.
use Rattle.std.proofs.Common.{[], ◌≡◌, ◌∙◌, ℕ, zero, suc, ◌<◌, List, refl, sym, ap, subst, arith, Some}
use Rattle.std.specs.Prelude.{unwrap_or}
use mathlib.Core.Path.{ap₂}
use Rattle.rational.specs.Rational.{Rational, ◌+ℚ◌, ◌*ℚ◌, zero_ℚ}
use Rattle.milp.specs.Form.{Entry, value_at}
use Rattle.milp.specs.Problem.{Problem}
use Rattle.verdicts.specs.Certificate.{Side, Derived}
use Rattle.verdicts.specs.WeightedSums.{combined, combined_bound, coefficient_of, sum_below, AllBelow}
use Rattle.verdicts.specs.Proves.{bound_used, terms}
use Rattle.verdicts.proofs.Laws.{value_by_column}
use Rattle.rational.proofs.Laws as Q
use Rattle.basis.specs.System.{System, size, lower_of, upper_of, Satisfies}
use Rattle.basis.specs.Node.{system_of}
use Rattle.basis.specs.Weights.{weights_of, nonzero}
use Rattle.basis.proofs.Order.{nonzero_cases}
use Rattle.basis.proofs.NodeWeights.{AreBoundsThere, list_sum, used_sum}
use Rattle.basis.proofs.NodeTerms.{all_terms, terms_are, terms_value, terms_bound}

pub sum_alike : (n : ℕ) (f g : ℕ → Rational) → ((v : ℕ) → v < n → f v ≡ g v) → sum_below n f ≡ sum_below n g
sum_alike zero f g h = refl
sum_alike (suc n) f g h = ap₂ ◌+ℚ◌ (h n (omega arith)) (sum_alike n f g (λ v k. h v (omega arith)))

-- the weight a uses the bound y of v
abbrev pub UsesBound : System → ℕ → Rational → Rational → Type 0
UsesBound s v a y = ¬ (a ≡ zero_ℚ) → bound_used a (lower_of s v) (upper_of s v) ≡ Some y

list_sum-nonzero : (a : Rational) → list_sum (nonzero a) ≡ a
list_sum-nonzero a = nonzero_cases a (λ e z. ap list_sum e ∙ sym z) (λ e n. ap list_sum e ∙ Q.add-zero a)

there : (s : System) (v : ℕ) (a y : Rational) → UsesBound s v a y → AreBoundsThere s v (nonzero a)
there s v a y h = nonzero_cases a (λ e z. (let P : List Rational → Type 0 = AreBoundsThere s v in subst P (sym e) tt))
    (λ e n. (let P : List Rational → Type 0 = AreBoundsThere s v in subst P (sym e) (h n ∙ ap Some (sym (ap (λ o. unwrap_or o zero_ℚ) (h n))), tt)))

used_sum-nonzero : (s : System) (v : ℕ) (a y : Rational) → UsesBound s v a y → used_sum s v (nonzero a) ≡ a *ℚ y
used_sum-nonzero s v a y h = nonzero_cases a (λ e z. ap (used_sum s v) e ∙ sym (ap (λ t. t *ℚ y) z ∙ Q.zero-mul y))
    (λ e n. ap (used_sum s v) e ∙ Q.add-zero _ ∙ ap (λ t. a *ℚ t) (ap (λ o. unwrap_or o zero_ℚ) (h n)))

-- weights on variables, of which each uses a bound that is y there: their terms, and what these come to
module _ (p : Problem) (ds : List Derived) (sides : List Side) (a y : ℕ → Rational)
    (uses : (v : ℕ) → v < size (system_of p ds sides) → UsesBound (system_of p ds sides) v (a v) (y v)) where
  pub weights_there_at : terms p ds sides [] (weights_of p ds (λ v. nonzero (a v))) ≡ Some (all_terms p ds sides (λ v. nonzero (a v)))
  weights_there_at = terms_are p ds sides (λ v. nonzero (a v)) (λ v h. there (system_of p ds sides) v (a v) (y v) (uses v h))

  pub weights_sum_at : (z : ℕ → Rational) → Satisfies (system_of p ds sides) z → value_at z (combined (all_terms p ds sides (λ v. nonzero (a v)))) ≡ sum_below (size (system_of p ds sides)) (λ v. a v *ℚ z v)
  weights_sum_at z h =
      terms_value p ds sides (λ v. nonzero (a v)) z h
      ∙ sum_alike (size (system_of p ds sides)) (λ v. list_sum (nonzero (a v)) *ℚ z v) (λ v. a v *ℚ z v) (λ v k. ap (λ t. t *ℚ z v) (list_sum-nonzero (a v)))

  pub bounds_sum_at : combined_bound (all_terms p ds sides (λ v. nonzero (a v))) ≡ sum_below (size (system_of p ds sides)) (λ v. a v *ℚ y v)
  bounds_sum_at =
      terms_bound p ds sides (λ v. nonzero (a v))
      ∙ sum_alike (size (system_of p ds sides)) (λ v. used_sum (system_of p ds sides) v (nonzero (a v))) (λ v. a v *ℚ y v) (λ v k. used_sum-nonzero (system_of p ds sides) v (a v) (y v) (uses v k))

-- the same, where the weights are the coefficients of a form
module _ (p : Problem) (ds : List Derived) (sides : List Side) (a : ℕ → Rational) (form : List Entry) (y : ℕ → Rational)
    (below : AllBelow (size (system_of p ds sides)) form)
    (same : (v : ℕ) → v < size (system_of p ds sides) → coefficient_of form v ≡ a v)
    (uses : (v : ℕ) → v < size (system_of p ds sides) → UsesBound (system_of p ds sides) v (a v) (y v)) where
  by_column : (z : ℕ → Rational) → sum_below (size (system_of p ds sides)) (λ v. a v *ℚ z v) ≡ value_at z form
  by_column z =
      sum_alike (size (system_of p ds sides)) (λ v. a v *ℚ z v) (λ v. coefficient_of form v *ℚ z v) (λ v k. ap (λ t. t *ℚ z v) (sym (same v k)))
      ∙ sym (value_by_column (size (system_of p ds sides)) z form below)

  pub weights_there : terms p ds sides [] (weights_of p ds (λ v. nonzero (a v))) ≡ Some (all_terms p ds sides (λ v. nonzero (a v)))
  weights_there = weights_there_at p ds sides a y uses

  pub weights_value : (z : ℕ → Rational) → Satisfies (system_of p ds sides) z → value_at z (combined (all_terms p ds sides (λ v. nonzero (a v)))) ≡ value_at z form
  weights_value z h = weights_sum_at p ds sides a y uses z h ∙ by_column z

  pub weights_bound : combined_bound (all_terms p ds sides (λ v. nonzero (a v))) ≡ value_at y form
  weights_bound = bounds_sum_at p ds sides a y uses ∙ by_column y
