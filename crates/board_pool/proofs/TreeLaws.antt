-- Trees that may be put where a leaf is leased.
use Rattle.std.proofs.Common.{ℕ, ◌≤◌, List, Option, arith}
use Rattle.std.specs.Option.{IfSome}
use Rattle.rational.specs.Rational.{Rational}
use Rattle.verdicts.specs.Certificate.{Side as SideOf}
use Rattle.search_tree.specs.declared.leaf.Lease.{Lease}
use Rattle.search_tree.specs.declared.leaf.Leaf.{Leaf}
use Rattle.search_tree.specs.declared.event.Entry.{Entry}
use Rattle.search_tree.specs.Tree.{Tree, AtLeaf, IsNotLeased, AllSplits, AllLeaves, made}
use Rattle.search_tree.specs.Nodes.{IsHonestSplit, IsWorthwhile, KeepsLeaf}
use Rattle.search_tree.specs.Board.{Board, IsTold}
use Rattle.board_pool.specs.OpenLeases.{IsLeasedBelow}
use Rattle.board_pool.specs.Grafts.{MayBePut}
use Rattle.board_pool.specs.Stuck.{IsNotStuck, NoneStuck}

pub leaf_may_be_put : (first : Board) (spans : List (ℕ × ℕ)) (log : List Entry) (lease : Lease) (sides : List SideOf) (goal : Option Rational) (leaf : Leaf) → IsLeasedBelow first spans log lease sides → IfSome goal (λ v. IsTold v log)
    → KeepsLeaf first.problem first.cuts first.pivot_limit goal sides leaf → IsNotLeased leaf → IsNotStuck leaf → MayBePut first spans log lease (AtLeaf leaf)
leaf_may_be_put first spans log lease sides goal leaf l told keeps not_leased not_stuck = record {
  sides = sides;
  is_leased = l;
  sound = record { splits = tt; goal = goal; is_told = told; leaves = keeps; none_leased = not_leased };
  none_stuck = not_stuck;
  within = omega arith;
  worthwhile = tt;
}

pub tree_may_be_put : (first : Board) (spans : List (ℕ × ℕ)) (log : List Entry) (lease : Lease) (sides : List SideOf) (goal : Option Rational) (t : Tree) → IsLeasedBelow first spans log lease sides → IfSome goal (λ v. IsTold v log)
    → AllSplits (IsHonestSplit first.problem first.cuts) sides t → AllSplits (λ at s. IsWorthwhile first.problem first.cuts lease.best at) sides t
    → AllLeaves (KeepsLeaf first.problem first.cuts first.pivot_limit goal) sides t → AllLeaves (λ at leaf. IsNotLeased leaf) sides t → NoneStuck t → made t ≤ lease.grant → MayBePut first spans log lease t
tree_may_be_put first spans log lease sides goal t l told honest worthwhile keeps not_leased not_stuck granted = record {
  sides = sides;
  is_leased = l;
  sound = record { splits = honest; goal = goal; is_told = told; leaves = keeps; none_leased = not_leased };
  none_stuck = not_stuck;
  within = granted;
  worthwhile = worthwhile;
}
