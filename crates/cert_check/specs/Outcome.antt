-- What the check of a certificate answers.
use Rattle.std.specs.Prelude.{ℕ, ◌+◌, ◌≡◌, ◌⊎◌, ◌++◌, List, [], ◌∷◌, length, Bool, true, false, ◌==◌, ◌&&◌, Option, None, Some, Result, Ok, Err, IsTrue, ⊤}
use Rattle.rational.specs.Rational.{Rational, ◌-ℚ◌}
use Rattle.milp.specs.Problem.{Problem}
use Rattle.fraction.specs.declared.frac.NoFit.{NoFit}
use Rattle.verdicts.specs.Certificate.{Version, Verdict, Optimal, Infeasible, Unbounded, Derived, TreeNode, Side, Certificate}
use Rattle.verdicts.specs.Proves.{Part as PartOf, Test, below}
use Rattle.verdicts.specs.Proves as of
use Rattle.cert_check.specs.Parts.{point_answer, value_answer, ray_answer, derived_answer, node_answer}
use Rattle.cert_check.specs.declared.part.Part.{Part}
use Rattle.cert_check.specs.declared.part.Part.TheVariants.{Size, Point, Value, Ray, DerivedRow, Node}
use Rattle.cert_check.specs.declared.part.Checked.{Checked}
use Rattle.cert_check.specs.declared.part.Checked.TheVariants.{Accepted, Refused}
use Rattle.cert_check.specs.declared.part.CheckFault.{CheckFault}

-- a part, and what its test answers
pub record Trial : Type 0 where
  pub part : PartOf
  pub answer : Result Bool NoFit

pub data Outcome : Type 0 where
  Acceptance : Outcome
  Refusal : PartOf → Outcome
  Fault : PartOf → NoFit → Outcome

abbrev pub judged : PartOf → Result Bool NoFit → Outcome → Outcome
judged part (Err e) rest = Fault part e
judged part (Ok false) rest = Refusal part
judged part (Ok true) rest = rest

-- the first part whose test does not hold decides
abbrev pub outcome : List Trial → Outcome
outcome [] = Acceptance
outcome (t ∷ ts) = judged t.part t.answer (outcome ts)

-- ---- the parts, in order

-- the rows behind those `before`
abbrev pub derived_trials : Problem → Version → ℕ → List Derived → List Derived → List Trial
derived_trials p v k before [] = []
derived_trials p v k before (d ∷ ds) = record { part = of.DerivedRow k; answer = derived_answer p v before d } ∷ derived_trials p v (k + 1) (before ++ d ∷ []) ds

-- the places that are still to be filled are known by the splits on the way to each
abbrev pub node_trials : Problem → Version → Option Rational → List Derived → ℕ → List (List Side) → List TreeNode → List Trial
node_trials p v goal ds k [] [] = []
node_trials p v goal ds k [] (node ∷ nodes) = record { part = of.Node k; answer = Ok false } ∷ []
node_trials p v goal ds k (sides ∷ places) [] = record { part = of.Node k; answer = Ok false } ∷ []
node_trials p v goal ds k (sides ∷ places) (node ∷ nodes) = record { part = of.Node k; answer = node_answer (record { version = v; problem = p; derived = ds; sides = sides }) goal node } ∷ node_trials p v goal ds (k + 1) (below node sides ++ places) nodes

abbrev pub tree_trials : Problem → Option Rational → Certificate → List Trial
tree_trials p goal c = derived_trials p c.version 1 [] c.derived ++ node_trials p c.version goal c.derived 1 ([] ∷ []) c.tree

-- the value that the objective's form has, where the objective has this one
abbrev pub form_goal : Problem → Option Rational → Option Rational
form_goal p None = None
form_goal p (Some v) = Some (v -ℚ p.constant)

abbrev pub value_trials : Problem → Certificate → List Trial
value_trials p c = record { part = of.Value; answer = value_answer p c.point c.value } ∷ tree_trials p (form_goal p c.value) c

abbrev pub ray_trials : Problem → Certificate → List Trial
ray_trials p c = record { part = of.Ray; answer = ray_answer p c.ray } ∷ []

abbrev pub verdict_trials : Problem → Certificate → Verdict → List Trial
verdict_trials p c Optimal = record { part = of.Point; answer = point_answer p c.point } ∷ value_trials p c
verdict_trials p c Infeasible = tree_trials p None c
verdict_trials p c Unbounded = record { part = of.Point; answer = point_answer p c.point } ∷ ray_trials p c

abbrev pub trials : Problem → Certificate → List Trial
trials p c = record { part = of.Size; answer = Ok ((c.rows == length p.rows) && (c.columns == length p.columns)) } ∷ verdict_trials p c c.verdict

-- ---- the code's answers

abbrev pub part_of : Part → PartOf
part_of Size = of.Size
part_of Point = of.Point
part_of Value = of.Value
part_of Ray = of.Ray
part_of (DerivedRow k) = of.DerivedRow k
part_of (Node k) = of.Node k

abbrev pub outcome_of : Result Checked CheckFault → Outcome
outcome_of (Ok Accepted) = Acceptance
outcome_of (Ok (Refused part)) = Refusal (part_of part)
outcome_of (Err e) = Fault (part_of e.part) e.fault

-- a refusal names this part
abbrev pub IfRefused : Checked → (PartOf → Type 0) → Type 0
IfRefused Accepted P = ⊤
IfRefused (Refused part) P = P (part_of part)

-- ---- what a fault says

-- all tests before that of this part hold
abbrev pub HoldsUpTo : PartOf → List Test → Type 0
HoldsUpTo part [] = ⊥
HoldsUpTo part (t ∷ ts) = (t.part ≡ part) ⊎ (IsTrue t.passes × HoldsUpTo part ts)
