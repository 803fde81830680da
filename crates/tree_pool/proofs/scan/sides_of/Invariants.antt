use Rattle.std.proofs.Common.{◌≡◌, map, take}
use Rattle.search_node.specs.declared.node.SplitTaken.{SplitTaken}
use Rattle.tree_pool.proofs.scan.sides_of.Given as goal

abbrev pub invariant-loop-split : goal.invariant-loop-split
invariant-loop-split l = l.sides.items ≡ map (λ (t : SplitTaken). t.side) (take l.split-index l.taken)
