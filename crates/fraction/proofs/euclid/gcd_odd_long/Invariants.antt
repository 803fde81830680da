use Rattle.std.proofs.Common.{◌≡◌, ◌+◌, ◌%◌}
use Rattle.integer.specs.Gcd.{gcd as gcd_of}
use Rattle.fraction.proofs.euclid.gcd_odd_long.Given as goal

abbrev pub invariant-loop-y : goal.invariant-loop-y
invariant-loop-y l = record { same : gcd_of l.x l.y ≡ gcd_of l.fn.a l.fn.b; odd : l.x % 2 ≡ 1 }

abbrev pub decreases-loop-y : goal.decreases-loop-y
decreases-loop-y l = l.x + l.y
