-- What a search that stopped at a limit has shown: the best point that it found, and a tree with leaves that are left to do.
use Rattle.std.specs.Prelude.{ℕ, List, [], Option}
use Rattle.rational.specs.Rational.{Rational}
use Rattle.verdicts.specs.Certificate.{Weights, Derived, TreeNode, Empty}

-- a point and its value
pub record Best : Type 0 where
  pub point : List Rational
  pub value : Rational

-- a node as a certificate has it, or a leaf that is left to do
pub data PartialNode : Type 0 where
  Done : TreeNode → PartialNode
  Todo : PartialNode

pub record Partial : Type 0 where
  pub rows : ℕ
  pub columns : ℕ
  pub best : Option Best
  pub derived : List Derived
  pub tree : List PartialNode

abbrev pub no_weights : Weights
no_weights = record { rows = []; columns = []; derived = []; splits = [] }

-- the node of a certificate in its place: for a leaf that is left to do, a leaf without weights
abbrev pub shape : PartialNode → TreeNode
shape (Done node) = node
shape Todo = Empty no_weights
