-- What becomes of a node of a search, given the best value so far.
use Rattle.std.specs.Prelude.{ℕ, ◌≡◌, true, List, Option, Some, Ok}
use Rattle.rational.specs.Rational.{Rational}
use Rattle.milp.specs.Problem.{Problem}
use Rattle.milp.specs.Points.{Feasible, IsImprovingRay, objective_value}
use Rattle.verdicts.specs.Certificate.{Side, Derived}
use Rattle.basis.specs.Node.{system_of, IsNodePoint}
use Rattle.basis.specs.Relaxation.{IsUnboundedRelaxation}
use Rattle.cert_check.specs.Parts.{ray_answer}
use Rattle.simplex.specs.Run.{IsLimited}
use Rattle.simplex.specs.declared.answers.Endless.{Endless}
use Rattle.search_tree.specs.declared.leaf.Leaf.TheVariants as leaf
use Rattle.search_tree.specs.Nodes.{IsHonestSplit, IsTreated, Beats, KeepsLeaf}
use Rattle.search_tree.specs.Kept.{HasSums}
use Rattle.search_tree.specs.Work.{IsWorkFault}
use Rattle.branch_search.specs.declared.treatment.Found.{Found}
use Rattle.branch_search.specs.declared.treatment.Fractional.{Fractional}
use Rattle.branch_search.specs.declared.treatment.Treatment.{Treatment}
use Rattle.branch_search.specs.declared.treatment.Treatment.TheVariants as of

-- a feasible point whose sums fit, its value, which beats the best, and weights that close the node against it
pub record IsFound (p : Problem) (ds : List Derived) (limit : ℕ) (sides : List Side) (best : Option Rational) (f : Found) : Type 0 where
  pub feasible : Feasible p f.point
  pub sums : HasSums p f.point
  pub value : f.value ≡ objective_value p f.point
  pub beats : Beats p best f.point
  pub closed : KeepsLeaf p ds limit (Some f.value) sides (leaf.Bounded f.weights)

-- the split is honest, and the node is treated against the best value
pub record IsToSplit (p : Problem) (ds : List Derived) (sides : List Side) (best : Option Rational) (f : Fractional) : Type 0 where
  pub split : IsHonestSplit p ds sides f.split
  pub treated : IsTreated p ds sides best

-- how a ray is found: it was proposed, and the checker's test of it passes, so that no operation of that test is a fault; or the
-- relaxation is unbounded by the last basis of Bland's run at the node, with this point and ray
pub data IsRayFound (p : Problem) (ds : List Derived) (sides : List Side) (e : Endless) : Type 0 where
  judged : ray_answer p (Some e.ray) ≡ Ok true → IsRayFound p ds sides e
  of_run : IsUnboundedRelaxation p ds sides e.point e.ray → IsRayFound p ds sides e

-- a ray that is found so improves the problem, from a point of the relaxation
pub record IsEndless (p : Problem) (ds : List Derived) (sides : List Side) (e : Endless) : Type 0 where
  pub point : IsNodePoint p ds sides e.point
  pub ray : IsImprovingRay p e.ray
  pub found : IsRayFound p ds sides e

-- what is said of the node: it has no point, none that beats the best, a feasible one that bounds it, or is to be split;
-- or a ray improves the problem, or an operation of the work at it does not fit; or Bland's run is longer than the limit
abbrev pub IsTreatment : Problem → List Derived → ℕ → List Side → Option Rational → Treatment → Type 0
IsTreatment p ds limit sides best (of.Refuted w) = KeepsLeaf p ds limit best sides (leaf.Refuted w)
IsTreatment p ds limit sides best (of.Bounded w) = KeepsLeaf p ds limit best sides (leaf.Bounded w)
IsTreatment p ds limit sides best (of.Feasible found) = IsFound p ds limit sides best found
IsTreatment p ds limit sides best (of.ToSplit fractional) = IsToSplit p ds sides best fractional
IsTreatment p ds limit sides best (of.Unbounded endless) = IsEndless p ds sides endless
IsTreatment p ds limit sides best (of.NotFitting e) = IsWorkFault p ds sides e
IsTreatment p ds limit sides best (of.AtLimit bases) = IsLimited (system_of p ds sides) limit bases
