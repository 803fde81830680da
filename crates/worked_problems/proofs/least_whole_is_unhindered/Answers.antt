use Rattle.worked_problems.proofs.LeastWholeSearch.{is_optimal, are_unhindered}
use Rattle.worked_problems.proofs.least_whole_is_unhindered.Goals as goal

pub returns : goal.returns
returns c = record { optimal = is_optimal; unhindered = are_unhindered }
