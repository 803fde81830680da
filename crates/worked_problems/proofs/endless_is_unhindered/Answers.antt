use Rattle.worked_problems.proofs.RisingX.{is_unbounded, are_unhindered}
use Rattle.worked_problems.proofs.endless_is_unhindered.Goals as goal

pub returns : goal.returns
returns c = record { unbounded = is_unbounded; unhindered = are_unhindered }
