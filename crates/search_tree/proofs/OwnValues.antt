-- The test of weights at a point's own value.
use Rattle.std.proofs.Common.{◌≡◌, ◌∙◌, List, Bool, true, false, sym, ap, Some, Result, Ok, Err, IfOk, IfErr, refl}
use Rattle.rational.specs.Rational.{Rational, ◌+ℚ◌, ◌-ℚ◌, neg_ℚ}
use Rattle.rational.proofs.Laws as Q
use Rattle.milp.specs.Form.{sum_at}
use Rattle.milp.specs.Problem.{Problem}
use Rattle.milp.specs.Points.{objective_value}
use Rattle.fraction.specs.declared.frac.NoFit.{NoFit}
use Rattle.verdicts.specs.Certificate.{Side as SideOf, Weights, Derived, Bound}
use Rattle.cert_check.specs.Parts.{node_answer}
use Rattle.cert_check.specs.Outcome.{form_goal}
use Rattle.search_tree.specs.Work.{node_setting}
use Rattle.search_tree.specs.Nodes.{NodePasses}
use Rattle.search_node.specs.Sides.{sides_of}
use Rattle.search_node.specs.declared.node.SplitTaken.{SplitTaken}
use Rattle.search_tree.specs.Optimum.{IsShownOptimum}
use Rattle.search_tree.specs.Faults.{IsOptimumFault, of_weights}

own_goal : (p : Problem) (x : List Rational) → form_goal p (Some (objective_value p x)) ≡ Some (sum_at x p.objective)
own_goal p x = ap Some (back (sum_at x p.objective) p.constant)
  where
    back : (a b : Rational) → (a +ℚ b) -ℚ b ≡ a
    back a b = Q.add_assoc a b (neg_ℚ b) ∙ ap (λ z. a +ℚ z) (Q.add-neg b) ∙ Q.add-zero a

-- the test at the value of the objective's form is the one at the point's own value
pub own_test : (p : Problem) (ds : List Derived) (sides : List SideOf) (x : List Rational) (w : Weights) (form : Rational) (r a : Result Bool NoFit) → form ≡ sum_at x p.objective
    → r ≡ node_answer (node_setting p ds sides) (Some form) (Bound w) → r ≡ a → node_answer (node_setting p ds sides) (form_goal p (Some (objective_value p x))) (Bound w) ≡ a
own_test p ds sides x w form r a e h k = ap (λ goal. node_answer (node_setting p ds sides) goal (Bound w)) (own_goal p x ∙ ap Some (sym e)) ∙ sym h ∙ k

-- what holds where the test passes
pub if_passed : (p : Problem) (ds : List Derived) (sides : List SideOf) (x : List Rational) (w : Weights) (form : Rational) (r : Result Bool NoFit) (P : Type 0) → form ≡ sum_at x p.objective
    → r ≡ node_answer (node_setting p ds sides) (Some form) (Bound w) → (NodePasses p (Some (objective_value p x)) ds sides (Bound w) → P) → IfOk r (λ b. b ≡ true → P)
if_passed p ds sides x w form r P e h f = go r refl
  where
    go : (a : Result Bool NoFit) → r ≡ a → IfOk a (λ b. b ≡ true → P)
    go (Ok b) k = λ t. f (own_test p ds sides x w form r (Ok true) e h (k ∙ ap Ok t))
    go (Err e) k = tt

-- what does not hold where the test fails
pub if_failed : (p : Problem) (ds : List Derived) (sides : List SideOf) (x : List Rational) (w : Weights) (form : Rational) (r : Result Bool NoFit) → form ≡ sum_at x p.objective
    → r ≡ node_answer (node_setting p ds sides) (Some form) (Bound w) → IfOk r (λ b. b ≡ false → ¬ (IsShownOptimum p ds sides x w))
if_failed p ds sides x w form r e h = go r refl
  where
    go : (a : Result Bool NoFit) → r ≡ a → IfOk a (λ b. b ≡ false → ¬ (IsShownOptimum p ds sides x w))
    go (Ok b) k = λ t shown. let never : Ok true ≡ Ok false = sym shown.passes ∙ own_test p ds sides x w form r (Ok false) e h (k ∙ ap Ok t) in cc
    go (Err e) k = tt

-- what does not fit where the test has a fault
pub if_fault : (p : Problem) (ds : List Derived) (taken : List SplitTaken) (path : List SideOf) (x : List Rational) (w : Weights) (form : Rational) (r : Result Bool NoFit) → path ≡ sides_of taken → form ≡ sum_at x p.objective
    → r ≡ node_answer (node_setting p ds path) (Some form) (Bound w) → IfErr r (IsOptimumFault p ds taken x w)
if_fault p ds taken path x w form r same e h = go r refl
  where
    go : (a : Result Bool NoFit) → r ≡ a → IfErr a (IsOptimumFault p ds taken x w)
    go (Ok b) k = tt
    go (Err fault) k = of_weights (ap (λ sides. node_answer (node_setting p ds sides) (Some (sum_at x p.objective)) (Bound w)) (sym same) ∙ ap (λ goal. node_answer (node_setting p ds path) (Some goal) (Bound w)) (sym e) ∙ sym h ∙ k)
