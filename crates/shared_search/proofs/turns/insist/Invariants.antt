use Rattle.std.proofs.Common.{ℕ, ◌≡◌, List}
use Rattle.turn_pool.specs.Passes.{view_of, IsSamePool}
use Rattle.shared_search.specs.Holders.{after_tries}
use Rattle.shared_search.proofs.turns.insist.Given as goal

abbrev pub invariant-loop : goal.invariant-loop
invariant-loop g l = record {
  event : l.event ≡ l.initial.event;
  pool : IsSamePool l.initial.pass l.pass;
  view : (tries : List ℕ) × (view_of l.pass ≡ after_tries (view_of l.initial.pass) tries);
}
