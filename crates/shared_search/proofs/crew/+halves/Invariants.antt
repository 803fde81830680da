use Rattle.std.proofs.Common.{◌+◌, ◌*◌, length}
use Rattle.shared_search.proofs.crew.+halves.Given as goal

abbrev pub decreases-join_mut+arg2 : goal.decreases-join_mut+arg2
decreases-join_mut+arg2 g l = 2 * length l.front.now + 1

abbrev pub decreases-join_mut+arg3 : goal.decreases-join_mut+arg3
decreases-join_mut+arg3 g l = 2 * length l.back.now + 1

abbrev pub decreases-work_all : goal.decreases-work_all
decreases-work_all g l = 2 * length l.workers.now
