-- Weights that pass the checker's test where they name the splits on the way.
use Rattle.std.specs.Prelude.{◌≡◌, true, List, Option, Some}
use Rattle.rational.specs.Rational.{Rational}
use Rattle.milp.specs.Problem.{Problem}
use Rattle.milp.specs.Points.{objective_value}
use Rattle.verdicts.specs.Certificate.{Two, Side, Weights, Derived, Empty, Bound}
use Rattle.verdicts.specs.Proves.{node_passes}
use Rattle.verdicts.specs.Migrated.{named}
use Rattle.basis.specs.Relaxation.{ShowsObjective, ShowsInfeasible}

-- weights that refute a node do so where they name its splits
abbrev pub EmptyIsNamed : Type 0
EmptyIsNamed = (p : Problem) (goal : Option Rational) (ds : List Derived) (sides : List Side) (w : Weights) → ShowsInfeasible p ds sides w → node_passes p Two goal ds sides (Empty (named p sides w)) ≡ true

-- weights that show the objective's value at a point of a node do so where they name its splits
abbrev pub BoundIsNamed : Type 0
BoundIsNamed = (p : Problem) (ds : List Derived) (sides : List Side) (x : List Rational) (w : Weights) → ShowsObjective p ds sides x w → node_passes p Two (Some (objective_value p x)) ds sides (Bound (named p sides w)) ≡ true
