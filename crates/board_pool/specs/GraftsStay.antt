-- Entries that touch none of the numbers leave it allowed to put a tree.
use Rattle.std.proofs.Common.{ℕ, List, [], ◌∷◌, ◌++◌, Option, Some, None, inl, inr, ⊎_elim}
use Rattle.std.specs.Option.{IfSome}
use Rattle.rational.specs.Rational.{Rational}
use Rattle.verdicts.specs.Certificate.{Side as SideOf}
use Rattle.turn_pool.specs.Logs.{IsApart}
use Rattle.search_tree.specs.declared.leaf.Lease.{Lease}
use Rattle.search_tree.specs.declared.event.Entry.{Entry}
use Rattle.search_tree.specs.Tree.{Tree}
use Rattle.search_tree.specs.Board.{Board, IsTold}
use Rattle.search_tree.specs.Steps.{IsSound}
use Rattle.board_pool.specs.Touched.{touched}
use Rattle.board_pool.specs.Grafts.{MayBePut, with_log}
use Rattle.board_pool.specs.LeasesStay.{none_ends, leased_behind}

told_behind : (v : Rational) (log rest : List Entry) → IsTold v log → IsTold v (log ++ rest)
told_behind v [] rest told = absurd told
told_behind v (e ∷ log) rest told = ⊎_elim (λ a. inl a) (λ b. inr (told_behind v log rest b)) told

goal_behind : (goal : Option Rational) (log rest : List Entry) → IfSome goal (λ v. IsTold v log) → IfSome goal (λ v. IsTold v (log ++ rest))
goal_behind None log rest told = tt
goal_behind (Some v) log rest told = told_behind v log rest told

-- a tree that is sound stays so where the log is longer
sound_behind : (first : Board) (log rest : List Entry) (sides : List SideOf) (t : Tree) → IsSound (with_log first log) sides t → IsSound (with_log first (log ++ rest)) sides t
sound_behind first log rest sides t s = record {
  splits = s.splits;
  goal = s.goal;
  is_told = goal_behind s.goal log rest s.is_told;
  leaves = s.leaves;
  none_leased = s.none_leased;
}

pub graft_stays : (first : Board) (spans : List (ℕ × ℕ)) (log rest : List Entry) (lease : Lease) (t : Tree) → MayBePut first spans log lease t → IsApart touched spans log rest → MayBePut first spans (log ++ rest) lease t
graft_stays first spans log rest lease t m apart = record {
  sides = m.sides;
  is_leased = leased_behind first spans log rest lease m.sides m.is_leased (none_ends spans log rest m.is_leased.way lease m.is_leased.is_open apart);
  sound = sound_behind first log rest m.sides t m.sound;
  none_stuck = m.none_stuck;
  within = m.within;
  worthwhile = m.worthwhile;
}
