use Rattle.std.proofs.Common.{◌≡◌}
use Rattle.pool_rows.specs.Ready.{IsReady, numbers}
use Rattle.pool_rows.proofs.calls.work.Given as goal

abbrev pub invariant-loop-turn : goal.invariant-loop-turn
invariant-loop-turn g l = IsReady l.pool l.worker × (numbers l.worker ≡ numbers l.initial.worker)
