-- What comes of the test of a point of a node's relaxation, with weights that are to show that none is better.
use Rattle.std.specs.Prelude.{ℕ, ◌<◌, ◌≡◌, Bool, false, length, List, Option, Some, Ok, Err}
use Rattle.rational.specs.Rational.{Rational}
use Rattle.milp.specs.Problem.{Problem}
use Rattle.milp.specs.Points.{objective_value}
use Rattle.fraction.specs.declared.frac.NoFit.{NoFit as Operation}
use Rattle.instance.specs.Sums.{value_answer, meets_answer}
use Rattle.verdicts.specs.Certificate.{Side, Weights, Derived, Bound}
use Rattle.verdicts.specs.Migrated.{named}
use Rattle.cert_check.specs.Parts.{node_answer}
use Rattle.cert_check.specs.Outcome.{form_goal}
use Rattle.basis.specs.Node.{system_of}
use Rattle.search_tree.specs.Pinned.{IsPinned}
use Rattle.search_tree.specs.Work.{node_setting}
use Rattle.branch_search.specs.Treatment.{IsTreatment}
use Rattle.branch_search.specs.declared.testing.Verdict.{Verdict}
use Rattle.branch_search.specs.declared.testing.Verdict.TheVariants.{Passed, Failed, NotTold, NoFit}

-- what rests at x tells the number of each column
abbrev pub AllPinned : Problem → List Derived → List Side → List Rational → Type 0
AllPinned p ds sides x = (j : ℕ) → j < length p.columns → IsPinned (system_of p ds sides) x j

-- an operation that does not fit: of the value of the point, of the test of the weights, which name the splits on the way, or of the
-- test of the point
pub data IsTestFault (p : Problem) (ds : List Derived) (sides : List Side) (x : List Rational) (w : Weights) (e : Operation) : Type 0 where
  of_value : value_answer p x ≡ Err e → IsTestFault p ds sides x w e
  of_weights : node_answer (node_setting p ds sides) (form_goal p (Some (objective_value p x))) (Bound (named p sides w)) ≡ Err e → IsTestFault p ds sides x w e
  of_point : meets_answer p x ≡ Err e → IsTestFault p ds sides x w e

-- what a test tells of a point, of which it may be known that it is that of a basis
abbrev pub IsVerdict : Problem → List Derived → List Side → Option Rational → List Rational → Weights → Bool → Verdict → Type 0
IsVerdict p ds sides best x w basic (Passed t) = (limit : ℕ) → IsTreatment p ds limit sides best t
IsVerdict p ds sides best x w basic Failed = node_answer (node_setting p ds sides) (form_goal p (Some (objective_value p x))) (Bound (named p sides w)) ≡ Ok false
IsVerdict p ds sides best x w basic NotTold = basic ≡ false
IsVerdict p ds sides best x w basic (NoFit e) = IsTestFault p ds sides x w e
