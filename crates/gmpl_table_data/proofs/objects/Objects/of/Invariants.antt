-- What is left, then what was taken off its end, from the last on.
use Rattle.std.proofs.Common.{◌≡◌, ◌++◌, length, reverse}
use Rattle.gmpl_table_data.proofs.objects.Objects.of.Given as goal

abbrev pub invariant-loop-given : goal.invariant-loop-given
invariant-loop-given l = l.fn.objects ≡ l.left ++ reverse l.objects.items

abbrev pub decreases-loop-given : goal.decreases-loop-given
decreases-loop-given l = length l.left
