use Rattle.std.proofs.Common.{◌≡◌, ◌≤◌, length, reverse, take}
use Rattle.certificate.specs.Parents.{parent_to}
use Rattle.certificate.proofs.tree.Tree.above_past.Given as goal

abbrev pub invariant-loop-parent : goal.invariant-loop-parent
invariant-loop-parent l = record { within : l.at ≤ length l.self; left : parent_to (reverse (take l.at l.self)) 1 ≡ parent_to (reverse (take l.place l.self)) 1 }

abbrev pub decreases-loop-parent : goal.decreases-loop-parent
decreases-loop-parent l = l.at
