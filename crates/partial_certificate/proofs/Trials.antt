-- The value of the objective's form, and lists of trials one after another.
use Rattle.std.proofs.Common.{◌≡◌, ◌∙◌, Bool, true, false, cond, if◌then◌else◌, List, Option, Some, None, is_some, Result, Ok, Err, refl, sym, ap}
use Rattle.rational.specs.Rational.{Rational, ◌+ℚ◌, ◌-ℚ◌, neg_ℚ, zero_ℚ}
use Rattle.rational.specs.Compare.{is_same}
use Rattle.rational.proofs.Laws as Q
use Rattle.rational.proofs.Laws.{same_true}
use Rattle.milp.specs.Problem.{Problem}
use Rattle.fraction.specs.declared.frac.NoFit.{NoFit}
use Rattle.fraction.specs.Fits.{sum_fits}
use Rattle.fraction.specs.Answers.{add_answer}
use Rattle.instance.specs.Sums.{and_then, sum_answer}
use Rattle.cert_check.specs.Parts.{form_value_answer, value_answer}
pub use Rattle.cert_check.proofs.Laws.{after, trials_then}

abbrev picked : Bool → Rational → Result (Option Rational) NoFit
picked b g = Ok (if b then Some g else None)

-- where the value holds, the form's value is the value without the constant
pub form_value_is : (p : Problem) (x : List Rational) (v f : Rational) → Ok (Some f) ≡ form_value_answer p x v → v -ℚ p.constant ≡ f
form_value_is p x v f h = at_sum (sum_answer x zero_ℚ p.objective) (sym h)
  where
    back : (a b : Rational) → (a +ℚ b) +ℚ neg_ℚ b ≡ a
    back a b = Q.add_assoc a b (neg_ℚ b) ∙ ap (λ z. a +ℚ z) (Q.add-neg b) ∙ Q.add-zero a

    at_test : (g : Rational) (b : Bool) → is_same v (g +ℚ p.constant) ≡ b → picked b g ≡ Ok (Some f) → v -ℚ p.constant ≡ f
    at_test g true e k = ap (λ z. z -ℚ p.constant) (same_true v (g +ℚ p.constant) e) ∙ back g p.constant ∙ cc
    at_test g false e k = cc

    at_total : (g : Rational) (b : Bool) (d : NoFit) → and_then (cond b (Ok (g +ℚ p.constant)) (Err d)) (λ t. Ok (if is_same v t then Some g else None)) ≡ Ok (Some f) → v -ℚ p.constant ≡ f
    at_total g true d k = at_test g (is_same v (g +ℚ p.constant)) refl k
    at_total g false d k = cc

    at_sum : (r : Result Rational NoFit) → and_then r (λ f. and_then (add_answer f p.constant) (λ t. Ok (if is_same v t then Some f else None))) ≡ Ok (Some f) → v -ℚ p.constant ≡ f
    at_sum (Ok g) k = at_total g (sum_fits g p.constant) _ k
    at_sum (Err e) k = cc

pub value_holds : (p : Problem) (x : List Rational) (v f : Rational) → Ok (Some f) ≡ form_value_answer p x v → value_answer p (Some x) (Some v) ≡ Ok true
value_holds p x v f h = go (form_value_answer p x v) h
  where
    go : (r : Result (Option Rational) NoFit) → Ok (Some f) ≡ r → and_then r (λ f. Ok (is_some f)) ≡ Ok true
    go (Ok (Some g)) e = refl
    go (Ok None) e = cc
    go (Err d) e = cc
