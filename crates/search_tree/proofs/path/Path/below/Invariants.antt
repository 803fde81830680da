use Rattle.std.proofs.Common.{◌≡◌, ◌≤◌, ◌-◌, length, take}
use Rattle.search_node.specs.Sides.{sides_of}
use Rattle.search_tree.proofs.path.Path.below.Given as goal

abbrev pub invariant-loop-i : goal.invariant-loop-i
invariant-loop-i l = record {
  at_most : l.i ≤ length l.all;
  sides : l.path ≡ sides_of (take l.i l.all);
}

abbrev pub decreases-loop-i : goal.decreases-loop-i
decreases-loop-i l = length l.all - l.i
