-- What is left to make.
use Rattle.std.proofs.Common.{◌≡◌, ◌+◌, ◌++◌, drop, length}
use Rattle.gmpl_rows.specs.Laying.{rows_with}
use Rattle.gmpl_rows.specs.Named.{AreRowsNarrow}
use Rattle.gmpl_rows.proofs.finished.made_rows.Given as goal

abbrev pub invariant-loop-head : goal.invariant-loop-head
invariant-loop-head l =
    (l.rows.items ++ rows_with l.declared (drop l.head-index l.heads) l.left ≡ rows_with l.declared l.heads l.begun)
    × (length l.left + l.head-index ≡ length l.heads)
    × (AreRowsNarrow (drop l.head-index l.heads) → AreRowsNarrow l.heads)
