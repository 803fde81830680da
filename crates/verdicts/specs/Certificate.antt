-- What a certificate holds. Places count from 0.
use Rattle.std.specs.Prelude.{ℕ, ℤ, List, Option}
use Rattle.rational.specs.Rational.{Rational}
use Rattle.milp.specs.Form.{Entry}

pub data Verdict : Type 0 where
  Optimal : Verdict
  Infeasible : Verdict
  Unbounded : Verdict

-- how splits and weights are read: by branches on columns, whose bounds they narrow, or by splits that weights name
pub data Version : Type 0 where
  One : Version
  Two : Version

pub record Item : Type 0 where
  pub index : ℕ
  pub weight : Rational

pub record Weights : Type 0 where
  pub rows : List Item
  pub columns : List Item
  pub derived : List Item
  pub splits : List Item

-- form <= at on the low side, form >= at + 1 on the high side
pub record Split : Type 0 where
  pub form : List Entry
  pub at : ℤ

pub data Side : Type 0 where
  Low : Split → Side
  High : Split → Side

-- form <= at on the low side, form >= at + 1 on the high side, with their own weights
pub record FormSplit : Type 0 where
  pub at : ℤ
  pub form : List Entry
  pub low : Rational
  pub low_weights : Weights
  pub high : Rational
  pub high_weights : Weights

pub data Proof : Type 0 where
  Plain : Weights → Proof
  BySplit : FormSplit → Proof

-- form >= bound at each feasible point
pub record Derived : Type 0 where
  pub bound : Rational
  pub form : List Entry
  pub proof : Proof

pub data TreeNode : Type 0 where
  Branch : Split → TreeNode
  Empty : Weights → TreeNode
  Bound : Weights → TreeNode

pub record Certificate : Type 0 where
  pub version : Version
  pub rows : ℕ
  pub columns : ℕ
  pub verdict : Verdict
  pub value : Option Rational
  pub point : Option (List Rational)
  pub ray : Option (List Rational)
  pub derived : List Derived
  pub tree : List TreeNode
