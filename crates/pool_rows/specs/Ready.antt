-- What is true of a worker between its calls.
use Rattle.std.specs.Prelude.{ℕ, ◌≡◌, ◌⊎◌, List, [], ◌∷◌, IfSome}
use Rattle.turn_pool.specs.declared.pass.Pool.{Pool}
use Rattle.turn_pool.specs.Logs.{Has}
use Rattle.turn_pool.specs.Passes.{key_of, view_of, IsPassOf}
use Rattle.turn_pool.specs.Turns.{held}
use Rattle.pool_rows.specs.Tasks.{Board, IsOpen}
use Rattle.pool_rows.specs.declared.entry.Entry.{Entry}
use Rattle.pool_rows.specs.declared.worker.Worker.{Worker}

-- its pass is to this pool
abbrev pub IsWorkerOf : Pool Board Entry → Worker → Type 0
IsWorkerOf pool w = IsPassOf pool w.pass × ((view_of w.pass).key ≡ key_of pool)

-- so it is, and the lease that it holds is open
abbrev pub IsReady : Pool Board Entry → Worker → Type 0
IsReady pool w = IsWorkerOf pool w × IfSome w.held (IsOpen (view_of w.pass).spans (view_of w.pass).seen)

-- the numbers that it holds
abbrev pub numbers : Worker → List (ℕ × ℕ)
numbers w = held (view_of w.pass)

-- one of the workers holds the number
abbrev pub AnyHas : List Worker → ℕ → Type 0
AnyHas [] k = ⊥
AnyHas (w ∷ workers) k = Has (numbers w) k ⊎ AnyHas workers k
