use Rattle.std.proofs.Common.{◌≡◌, ◌++◌, map, drop}
use Rattle.stopped_search.specs.Stopped.{open_again}
use Rattle.stopped_search.proofs.opening.opened_tree.Given as goal

abbrev pub invariant-loop-place : goal.invariant-loop-place
invariant-loop-place l = l.made ++ map open_again (drop l.place l.tree) ≡ map open_again l.tree
