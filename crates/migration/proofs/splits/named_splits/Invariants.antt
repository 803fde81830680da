use Rattle.std.proofs.Common.{◌≡◌, ◌≤◌, ◌<◌, [], length, take}
use Rattle.verdicts.specs.Migrated.{Each, with_splits}
use Rattle.certificate.specs.Written.{count_max}
use Rattle.migration.proofs.splits.named_splits.Given as goal

abbrev pub invariant-loop-k : goal.invariant-loop-k
invariant-loop-k l = record { within : l.k ≤ length l.columns; indices : Each (λ i. i.index < count_max) l.named.items; left : with_splits l.problem l.turns (take l.k l.columns) l.named.items ≡ with_splits l.problem l.turns l.columns [] }

abbrev pub decreases-loop-k : goal.decreases-loop-k
decreases-loop-k l = l.k
