use Rattle.basis.proofs.LastBases.{optimal_is_final, blocked_is_final, unbounded_is_final}
use Rattle.basis.proofs.runs.ends_are_final.Goals as goal

pub returns : goal.returns
returns c = record { optimal = optimal_is_final; blocked = blocked_is_final; unbounded = unbounded_is_final }
