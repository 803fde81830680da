-- A fault of the check names an operation that does not fit.
use Rattle.std.proofs.Common.{◌≡◌, ℕ, ◌+◌, List, [], ◌∷◌, ◌++◌, Option, Some, None, Result, IfErr}
use Rattle.rational.specs.Rational.{Rational}
use Rattle.milp.specs.Problem.{Problem}
use Rattle.fraction.specs.Answers.{DoesNotFit}
use Rattle.verdicts.specs.Certificate.{Two, Side, Derived}
use Rattle.verdicts.specs.Proves.{below}
use Rattle.cert_check.specs.Setting.{Setting}
use Rattle.cert_check.specs.Outcome.{outcome, outcome_of, derived_trials, form_goal}
use Rattle.cert_check.specs.declared.part.Checked.{Checked}
use Rattle.cert_check.specs.declared.part.CheckFault.{CheckFault}
use Rattle.cert_check.proofs.Laws.{AreHonest, both_honest, derived_all_honest, fault_operation, node_honest, point_honest, value_honest}
use Rattle.partial_certificate.specs.Partial.{Best, PartialNode, Done, Todo, Partial, shape}
use Rattle.partial_certificate.specs.Outcome.{partial_answer, node_trials, tree_trials, best_trials, trials}

partial_honest : (s : Setting) (goal : Option Rational) (node : PartialNode) → IfErr (partial_answer s goal node) DoesNotFit
partial_honest s goal (Done node) = node_honest s goal node
partial_honest s goal Todo = tt

nodes_honest : (p : Problem) (goal : Option Rational) (ds : List Derived) (k : ℕ) (places : List (List Side)) (nodes : List PartialNode) → AreHonest (node_trials p goal ds k places nodes)
nodes_honest p goal ds k [] [] = tt
nodes_honest p goal ds k [] (node ∷ nodes) = (tt, tt)
nodes_honest p goal ds k (sides ∷ places) [] = (tt, tt)
nodes_honest p goal ds k (sides ∷ places) (node ∷ nodes) = (partial_honest (record { version = Two; problem = p; derived = ds; sides = sides }) goal node, nodes_honest p goal ds (k + 1) (below (shape node) sides ++ places) nodes)

tree_honest : (p : Problem) (goal : Option Rational) (c : Partial) → AreHonest (tree_trials p goal c)
tree_honest p goal c = both_honest (derived_trials p Two 1 [] c.derived) (node_trials p goal c.derived 1 ([] ∷ []) c.tree) (derived_all_honest p Two 1 [] c.derived) (nodes_honest p goal c.derived 1 ([] ∷ []) c.tree)

best_honest : (p : Problem) (c : Partial) (o : Option Best) → AreHonest (best_trials p c o)
best_honest p c None = tree_honest p None c
best_honest p c (Some b) = (point_honest p (Some b.point), (value_honest p (Some b.point) (Some b.value), tree_honest p (form_goal p (Some b.value)) c))

pub check_operation : (p : Problem) (c : Partial) (r : Result Checked CheckFault) → outcome_of r ≡ outcome (trials p c) → IfErr r (λ e. DoesNotFit e.fault)
check_operation p c r h = fault_operation (trials p c) r h (tt, best_honest p c c.best)
