-- A mixed-integer linear program.
use Rattle.std.specs.Prelude.{ℕ, List, Bool, Option}
use Rattle.rational.specs.Rational.{Rational}
use Rattle.milp.specs.Form.{Entry}
use Rattle.milp.specs.declared.Direction.{Direction}

-- a variable: it is at least `lower` and at most `upper`, where it has them, and whole where `integer` says so
pub record Column : Type 0 where
  pub name : List ℕ
  pub lower : Option Rational
  pub upper : Option Rational
  pub integer : Bool

-- a constraint: the value of its form is at least `lower` and at most `upper`, where it has them
pub record Row : Type 0 where
  pub name : List ℕ
  pub lower : Option Rational
  pub upper : Option Rational
  pub entries : List Entry

-- the columns and rows, and the objective: the value of a form plus a constant, wanted least or greatest
pub record Problem : Type 0 where
  pub columns : List Column
  pub rows : List Row
  pub direction : Direction
  pub objective_name : List ℕ
  pub objective : List Entry
  pub constant : Rational
