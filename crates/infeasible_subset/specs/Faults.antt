-- What it says where no subset is found.
use Rattle.std.specs.Prelude.{ℕ, List, []}
use Rattle.milp.specs.Problem.{Problem}
use Rattle.fraction.specs.declared.frac.NoFit.{NoFit as Operation}
use Rattle.basis.specs.Node.{system_of}
use Rattle.basis.specs.Numbers.{node_numbers}
use Rattle.basis.specs.declared.Place.{Place}
use Rattle.simplex.specs.Run.{IsLimited}
use Rattle.search_node.specs.Faults.{IsSiteFault}
use Rattle.search_tree.specs.Work.{IsWorkFault}
use Rattle.infeasible_subset.specs.Members.{Member, has}
use Rattle.infeasible_subset.specs.Subsets.{sub}
use Rattle.infeasible_subset.specs.Listed.{AreAmong, all_bounds}
use Rattle.infeasible_subset.specs.declared.fault.SubsetFault.{SubsetFault}
use Rattle.infeasible_subset.specs.declared.fault.SubsetFault.TheVariants.{NoFit, PivotLimit, NoMemory}

-- an operation of the work at the root of a problem does not fit; it is on site numbers of that node
pub record IsRootFault (p : Problem) (e : Operation) : Type 0 where
  pub fault : IsWorkFault p [] [] e
  pub on_site : IsSiteFault (node_numbers p [] []) e

-- some bounds of the problem, and an operation at the root of the problem with these alone that does not fit
pub record IsStuckAt (p : Problem) (members : List Member) (e : Operation) : Type 0 where
  pub among : AreAmong members (all_bounds p)
  pub fault : IsRootFault (sub p (has members)) e

-- some bounds of the problem, and the bases through which Bland's run at the root of the problem with these alone goes, and further
pub record IsTooLong (p : Problem) (pivots : ℕ) (members : List Member) (bases : List (List Place)) : Type 0 where
  pub among : AreAmong members (all_bounds p)
  pub limited : IsLimited (system_of (sub p (has members)) [] []) pivots bases

abbrev pub IsFault : Problem → ℕ → SubsetFault → Type 0
IsFault p pivots (NoFit stuck) = IsStuckAt p stuck.members stuck.fault
IsFault p pivots (PivotLimit long) = IsTooLong p pivots long.members long.bases
IsFault p pivots NoMemory = Unit {0}
