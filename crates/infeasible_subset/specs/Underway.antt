-- One member after the other is tried.
use Rattle.std.specs.Prelude.{List, [], ◌∷◌, ◌++◌, map}
use Rattle.milp.specs.Problem.{Problem}
use Rattle.milp.specs.Points.{Feasible}
use Rattle.verdicts.specs.Certificate.{Weights}
use Rattle.infeasible_subset.specs.Members.{Member, has}
use Rattle.infeasible_subset.specs.Subsets.{sub, without, UsesOnly, AreAccepted}
use Rattle.infeasible_subset.specs.Listed.{AreAmong, all_bounds}
pub use Rattle.infeasible_subset.specs.declared.witness.Witness.{Witness}

abbrev pub members_of : List Witness → List Member
members_of ws = map (λ (w : Witness). w.member) ws

-- each point meets all members but the one that it stands beside
abbrev pub AllMeet : Problem → List Member → List Witness → Type 0
AllMeet p members [] = Unit {0}
AllMeet p members (w ∷ ws) = Feasible (sub p (without w.member (has members))) w.point × AllMeet p members ws

-- The members are those that are done, each with its point, and then those that are left. The weights, which the checker accepts,
-- refute the problem by the members alone.
pub record IsUnderway (p : Problem) (done : List Witness) (left : List Member) (w : Weights) : Type 0 where
  pub accepted : AreAccepted p w
  pub uses : UsesOnly (has (members_of done ++ left)) w
  pub points : AllMeet p (members_of done ++ left) done
  pub among : AreAmong (members_of done ++ left) (all_bounds p)
