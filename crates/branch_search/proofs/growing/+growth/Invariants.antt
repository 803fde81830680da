use Rattle.std.proofs.Common.{◌+◌, ◌*◌}
use Rattle.branch_search.proofs.growing.+growth.Given as goal

-- the splits that are left become fewer with each split; a side comes before its node's split
abbrev pub decreases-grow_split : goal.decreases-grow_split
decreases-grow_split l = l.progress.now.left * 2

abbrev pub decreases-grow_side : goal.decreases-grow_side
decreases-grow_side l = l.progress.now.left * 2 + 1
