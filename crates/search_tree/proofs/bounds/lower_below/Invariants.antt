use Rattle.std.proofs.Common.{◌≡◌, ◌≤◌, ◌-◌, length, take}
use Rattle.verdicts.specs.Proves.{lower_under}
use Rattle.search_node.specs.Sides.{sides_of}
use Rattle.search_tree.proofs.bounds.lower_below.Given as goal

abbrev pub invariant-loop-k : goal.invariant-loop-k
invariant-loop-k l = record {
  at_most : l.k ≤ length l.splits;
  bound : l.bound ≡ lower_under l.problem (sides_of (take l.k l.splits)) l.column;
}

abbrev pub decreases-loop-k : goal.decreases-loop-k
decreases-loop-k l = length l.splits - l.k
