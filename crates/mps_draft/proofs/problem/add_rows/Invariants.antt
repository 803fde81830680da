-- What is left to add.
use Rattle.std.proofs.Common.{map}
use Rattle.std.specs.Vec.Iter.{into_iter_items}
use Rattle.mps_draft.specs.Finished.{finished_row}
use Rattle.mps_draft.proofs.Building.{AreLeft}
use Rattle.mps_draft.proofs.problem.add_rows.Given as goal

abbrev pub invariant-loop-row : goal.invariant-loop-row
invariant-loop-row l =
    (goal.iterator-loop-row).can_next l.row-iterator
    × (goal.iterator-loop-row).is_finite l.row-iterator
    × AreLeft l.builder (into_iter_items l.row-iterator) (record l.initial.builder { rows = map finished_row l.fn.rows.items })
