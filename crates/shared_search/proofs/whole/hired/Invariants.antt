use Rattle.std.proofs.Common.{◌≡◌, ℕ, ◌⊎◌, ◌+◌}
use Rattle.std.specs.List.{All}
use Rattle.std.specs.Vec.{vec_len, vec_capacity}
use Rattle.turn_pool.specs.Logs.{Has}
use Rattle.turn_pool.specs.Passes.{view_of}
use Rattle.shared_search.specs.Crews.{IsReady, numbers, AnyHas}
use Rattle.shared_search.proofs.whole.hired.Given as goal

abbrev pub invariant-loop : goal.invariant-loop
invariant-loop l = record {
  ready : IsReady l.pool l.first;
  crew : All (IsReady l.pool) l.crew.items;
  numbers : (k : ℕ) → Has (numbers l.initial.first) k → AnyHas l.crew.items k ⊎ Has (numbers l.first) k;
  from : (view_of l.first.pass).from ≡ (view_of l.initial.first.pass).from + l.counter;
  to : (view_of l.first.pass).to ≡ (view_of l.initial.first.pass).to;
  len : vec_len l.crew ≡ l.counter;
  room : vec_capacity l.crew ≡ vec_capacity l.initial.crew;
}
