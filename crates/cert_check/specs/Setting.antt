-- What weights stand on at a node: the problem, derived rows, and the splits on the way to the node.
use Rattle.std.specs.Prelude.{List}
use Rattle.milp.specs.Problem.{Problem}
use Rattle.verdicts.specs.Certificate.{Version, Derived, Side}

-- the version, the problem, the derived rows that weights may name, and the splits on the way, the latest first
pub record Setting : Type 0 where
  pub version : Version
  pub problem : Problem
  pub derived : List Derived
  pub sides : List Side
