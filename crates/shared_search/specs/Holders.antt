-- What passes and tasks of one search have in common.
use Rattle.std.specs.Prelude.{ℕ, ◌≡◌, List, []}
use Rattle.turn_pool.specs.declared.pass.Pool.{Pool}
use Rattle.turn_pool.specs.declared.view.View.{View}
use Rattle.turn_pool.specs.Passes.{key_of}
use Rattle.turn_pool.specs.Turns.{held}
use Rattle.search_tree.specs.declared.event.Entry.{Entry}
use Rattle.search_tree.specs.Board.{Board}
use Rattle.branch_search.specs.declared.fault.LeafFault.{LeafFault}
use Rattle.branch_search.specs.Faults.{IsLeafFault}
use Rattle.shared_search.specs.declared.task.Task.{Task}

-- the board with which the pool began, as a pass knows it
abbrev pub first_of : View Board Entry → Board
first_of v = v.key.first.value

-- the same, as the pool was told it
abbrev pub first_in : Pool Board Entry → Board
first_in pool = (key_of pool).first.value

-- what a pass knows after tries that were lost, all of which these are
abbrev pub after_tries : View Board Entry → List ℕ → View Board Entry
after_tries v tries = record v { tries = tries }

-- the pass is still to the same search, and has the same numbers
pub record IsSameHolder (v w : View Board Entry) : Type 0 where
  pub key : w.key ≡ v.key
  pub numbers : held w ≡ held v

-- the task is the problem of the board, with its cuts, of which there are none, and its limit of steps
pub record IsTaskOf (first : Board) (task : Task) : Type 0 where
  pub problem : task.problem ≡ first.problem
  pub cuts : task.cuts ≡ first.cuts
  pub no_cuts : task.cuts ≡ []
  pub pivot_limit : task.pivot_limit ≡ first.pivot_limit

-- the fault is one of the work at a leaf, in a search that began with this board
abbrev pub IsFaultOf : Board → LeafFault → Type 0
IsFaultOf first fault = IsLeafFault first.problem first.cuts first.split_limit first.pivot_limit fault
