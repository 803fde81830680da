use Rattle.std.proofs.Common.{◌-◌, length}
use Rattle.tree_pool.proofs.placing.+put_from.Given as goal

abbrev pub decreases-put_from : goal.decreases-put_from
decreases-put_from l = length l.slots.now - l.n
