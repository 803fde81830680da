use Rattle.std.proofs.Common.{◌≡◌, ◌++◌, drop}
use Rattle.certificate.specs.Written.{next_rank}
use Rattle.migration.proofs.Order.{AreInOrder}
use Rattle.migration.proofs.splits.to_items.Given as goal

abbrev pub invariant-loop-item : goal.invariant-loop-item
invariant-loop-item l = record { left : l.items ++ drop l.item-index l.named ≡ l.named; order : AreInOrder (next_rank 0 l.items) (drop l.item-index l.named) }
