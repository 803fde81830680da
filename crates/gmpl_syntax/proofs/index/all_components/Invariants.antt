-- The parts that are left, then those that were told, from the last on.
use Rattle.std.proofs.Common.{◌≡◌, ◌++◌, length, reverse}
use Rattle.gmpl_syntax.specs.Index.{all_components}
use Rattle.gmpl_syntax.proofs.index.all_components.Given as goal

abbrev pub invariant-loop-part : goal.invariant-loop-part
invariant-loop-part l = all_components l.fn.parts ≡ all_components l.left ++ reverse l.made.items

abbrev pub decreases-loop-part : goal.decreases-loop-part
decreases-loop-part l = length l.left
