use Rattle.std.proofs.Common.{◌≡◌, ◌≤◌, ◌-◌, ◌++◌, length, take, drop}
use Rattle.verdicts.specs.Migrated.{placed}
use Rattle.migration.proofs.splits.place_for.Given as goal

abbrev pub invariant-loop-k : goal.invariant-loop-k
invariant-loop-k l = record { within : l.k ≤ length l.named; left : take l.k l.named ++ placed l.fn.item (drop l.k l.named) ≡ placed l.fn.item l.named }

abbrev pub decreases-loop-k : goal.decreases-loop-k
decreases-loop-k l = length l.named - l.k
