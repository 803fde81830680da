use Rattle.std.proofs.Common.{◌≡◌, ◌≤◌, ◌++◌, length, reverse}
use Rattle.tree_pool.specs.Paths.{path_at, paths_of}
use Rattle.tree_pool.proofs.paths.splits_up.Given as goal

abbrev pub invariant-loop-at : goal.invariant-loop-at
invariant-loop-at l = record {
  within : l.at ≤ length l.links;
  whole : path_at (paths_of l.links) l.at ++ reverse l.taken.items ≡ path_at (paths_of l.links) l.place;
}

abbrev pub decreases-loop-at : goal.decreases-loop-at
decreases-loop-at l = l.at
