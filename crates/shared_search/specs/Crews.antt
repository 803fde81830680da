-- What is true of a worker between its rounds, and of the numbers of several.
use Rattle.std.specs.Prelude.{ℕ, ◌≡◌, ◌⊎◌, List, [], ◌∷◌, IfSome}
use Rattle.turn_pool.specs.declared.pass.Pool.{Pool}
use Rattle.turn_pool.specs.Logs.{Has}
use Rattle.turn_pool.specs.Passes.{key_of, view_of, IsPassOf}
use Rattle.turn_pool.specs.Turns.{held}
use Rattle.search_tree.specs.declared.event.Entry.{Entry}
use Rattle.search_tree.specs.Board.{Board}
use Rattle.shared_search.specs.declared.worker.Worker.{Worker}
use Rattle.shared_search.specs.Holders.{first_in, IsFaultOf}

-- its pass is to this pool, and its fault is one of the search
pub record IsReady (pool : Pool Board Entry) (w : Worker) : Type 0 where
  pub pass : IsPassOf pool w.pass
  pub key : (view_of w.pass).key ≡ key_of pool
  pub fault : IfSome w.fault (IsFaultOf (first_in pool))

-- the numbers that it holds
abbrev pub numbers : Worker → List (ℕ × ℕ)
numbers w = held (view_of w.pass)

-- one of the workers holds the number
abbrev pub AnyHas : List Worker → ℕ → Type 0
AnyHas [] k = ⊥
AnyHas (w ∷ workers) k = Has (numbers w) k ⊎ AnyHas workers k
