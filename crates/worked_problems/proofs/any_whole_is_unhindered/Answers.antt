use Rattle.std.proofs.Common.{true}
use Rattle.worked_problems.proofs.AnyX.{is_optimal, are_unhindered}
use Rattle.worked_problems.proofs.any_whole_is_unhindered.Goals as goal

pub returns : goal.returns
returns c = record { optimal = is_optimal true; unhindered = are_unhindered true c.none_far_out.ensures }
