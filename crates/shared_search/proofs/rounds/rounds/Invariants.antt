use Rattle.std.proofs.Common.{◌≡◌}
use Rattle.shared_search.specs.Crews.{IsReady, numbers}
use Rattle.shared_search.proofs.rounds.rounds.Given as goal

abbrev pub invariant-loop-turn : goal.invariant-loop-turn
invariant-loop-turn g l = IsReady l.pool l.worker × (numbers l.worker ≡ numbers l.initial.worker)
