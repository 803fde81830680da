use Rattle.std.proofs.Common.{◌≡◌, ◌++◌, drop}
use Rattle.verdicts.specs.Migrated.{kept}
use Rattle.certificate.specs.Written.{next_rank, AreItemsFrom}
use Rattle.migration.proofs.columns.own_columns.Given as goal

abbrev pub invariant-loop-item : goal.invariant-loop-item
invariant-loop-item l = record { left : l.own ++ kept l.problem l.turns (drop l.item-index l.items) ≡ kept l.problem l.turns l.items; order : AreItemsFrom (next_rank 0 l.own) (drop l.item-index l.items) }
