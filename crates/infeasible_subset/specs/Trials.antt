-- What a trial tells of a problem without an objective.
use Rattle.std.specs.Prelude.{ℕ, []}
use Rattle.milp.specs.Problem.{Problem}
use Rattle.milp.specs.Points.{Feasible}
use Rattle.basis.specs.Node.{system_of}
use Rattle.simplex.specs.Run.{IsLimited}
use Rattle.infeasible_subset.specs.Subsets.{AreAccepted}
use Rattle.infeasible_subset.specs.Faults.{IsRootFault}
use Rattle.infeasible_subset.specs.declared.trial.Trial.{Trial}
use Rattle.infeasible_subset.specs.declared.trial.Trial.TheVariants.{Refuted, Met, NotFitting, AtLimit}

abbrev pub IsTrial : Problem → ℕ → Trial → Type 0
IsTrial p pivots (Refuted w) = AreAccepted p w
IsTrial p pivots (Met x) = Feasible p x
IsTrial p pivots (NotFitting e) = IsRootFault p e
IsTrial p pivots (AtLimit bases) = IsLimited (system_of p [] []) pivots bases
