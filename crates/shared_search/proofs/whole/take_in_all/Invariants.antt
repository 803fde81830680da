use Rattle.std.proofs.Common.{ℕ, ◌⊎◌}
use Rattle.std.specs.Prelude.{All}
use Rattle.turn_pool.specs.Logs.{Has}
use Rattle.shared_search.specs.Crews.{IsReady, numbers, AnyHas}
use Rattle.shared_search.proofs.whole.take_in_all.Given as goal

abbrev pub invariant-loop-other : goal.invariant-loop-other
invariant-loop-other l = record {
  ready : IsReady l.pool l.worker;
  others : All (IsReady l.pool) l.others.items;
  numbers : (k : ℕ) → Has (numbers l.initial.worker) k ⊎ AnyHas l.initial.others.items k → Has (numbers l.worker) k ⊎ AnyHas l.others.items k;
}

abbrev pub decreases-loop-other : goal.decreases-loop-other
decreases-loop-other l = goal.left-loop-other l
