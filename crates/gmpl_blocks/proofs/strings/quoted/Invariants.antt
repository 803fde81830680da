-- What is read before a place, and then what stands behind it.
use Rattle.std.proofs.Common.{◌≡◌, ◌++◌, length, false}
use Rattle.gmpl_blocks.specs.Strings.{quoted}
use Rattle.gmpl_blocks.proofs.strings.quoted.Given as goal

abbrev pub invariant-loop-rest : goal.invariant-loop-rest
invariant-loop-rest l = quoted l.quote false l.fn.text ≡ l.bytes.items ++ quoted l.quote l.half l.rest

abbrev pub decreases-loop-rest : goal.decreases-loop-rest
decreases-loop-rest l = length l.rest
