-- What the check of a partial certificate answers: its trials, in order.
use Rattle.std.specs.Prelude.{ℕ, ◌+◌, ◌++◌, ◌==◌, ◌&&◌, List, [], ◌∷◌, length, Bool, true, false, Option, None, Some, Result, Ok}
use Rattle.rational.specs.Rational.{Rational}
use Rattle.milp.specs.Problem.{Problem}
use Rattle.fraction.specs.declared.frac.NoFit.{NoFit}
use Rattle.instance.specs.Sums.{meets_answer}
use Rattle.verdicts.specs.Certificate.{Two, Derived, Side}
use Rattle.verdicts.specs.Proves.{Size, Point, Value, Node, below}
use Rattle.cert_check.specs.Setting.{Setting}
use Rattle.cert_check.specs.Parts.{value_answer, node_answer}
use Rattle.cert_check.specs.Outcome.{Trial, derived_trials, form_goal}
use Rattle.partial_certificate.specs.Partial.{Best, PartialNode, Done, Todo, Partial, shape}

-- a leaf that is left to do always passes
abbrev pub partial_answer : Setting → Option Rational → PartialNode → Result Bool NoFit
partial_answer s goal (Done node) = node_answer s goal node
partial_answer s goal Todo = Ok true

-- the places that are still to be filled are known by the splits on the way to each
abbrev pub node_trials : Problem → Option Rational → List Derived → ℕ → List (List Side) → List PartialNode → List Trial
node_trials p goal ds k [] [] = []
node_trials p goal ds k [] (node ∷ nodes) = record { part = Node k; answer = Ok false } ∷ []
node_trials p goal ds k (sides ∷ places) [] = record { part = Node k; answer = Ok false } ∷ []
node_trials p goal ds k (sides ∷ places) (node ∷ nodes) = record { part = Node k; answer = partial_answer (record { version = Two; problem = p; derived = ds; sides = sides }) goal node } ∷ node_trials p goal ds (k + 1) (below (shape node) sides ++ places) nodes

abbrev pub tree_trials : Problem → Option Rational → Partial → List Trial
tree_trials p goal c = derived_trials p Two 1 [] c.derived ++ node_trials p goal c.derived 1 ([] ∷ []) c.tree

abbrev pub value_trials : Problem → Partial → Best → List Trial
value_trials p c b = record { part = Value; answer = value_answer p (Some b.point) (Some b.value) } ∷ tree_trials p (form_goal p (Some b.value)) c

abbrev pub best_trials : Problem → Partial → Option Best → List Trial
best_trials p c None = tree_trials p None c
best_trials p c (Some b) = record { part = Point; answer = meets_answer p b.point } ∷ value_trials p c b

abbrev pub trials : Problem → Partial → List Trial
trials p c = record { part = Size; answer = Ok ((c.rows == length p.rows) && (c.columns == length p.columns)) } ∷ best_trials p c c.best
