-- Boards of one search.
use Rattle.std.specs.Prelude.{◌≡◌, List, [], None, pos}
use Rattle.rational.specs.Rational.{over}
use Rattle.milp.specs.declared.Direction.TheVariants.{Min}
use Rattle.search_tree.specs.declared.leaf.Leaf.TheVariants.{Todo}
use Rattle.search_tree.specs.declared.event.Entry.{Entry}
use Rattle.search_tree.specs.Tree.{AtLeaf}
use Rattle.search_tree.specs.Board.{Board}
use Rattle.search_tree.specs.Steps.{IsReplay}
use Rattle.board_pool.specs.Stuck.{NoneStuck}

abbrev pub log_of : Board → List Entry
log_of b = b.log

-- the board has the problem, the cuts and the limits of the first one, no leaf at which the work is stuck, and is the replay of its
-- log
pub record IsOfSearch (first b : Board) : Type 0 where
  pub problem : b.problem ≡ first.problem
  pub cuts : b.cuts ≡ first.cuts
  pub split_limit : b.split_limit ≡ first.split_limit
  pub pivot_limit : b.pivot_limit ≡ first.pivot_limit
  pub none_stuck : NoneStuck b.tree
  pub replay : IsReplay b

-- a board of no search, for proofs that want some board
abbrev pub nowhere : Board
nowhere = record {
  problem = record { columns = []; rows = []; direction = Min; objective_name = []; objective = []; constant = over (pos 0) 1 };
  cuts = [];
  split_limit = 0;
  pivot_limit = 0;
  tree = AtLeaf (Todo tt);
  best = None;
  log = [];
}
