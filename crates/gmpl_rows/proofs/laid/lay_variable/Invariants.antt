-- What is left to lay out.
use Rattle.std.proofs.Common.{◌≡◌, ◌++◌, drop}
use Rattle.gmpl_rows.specs.Named.{AreUsedNarrow}
use Rattle.gmpl_rows.specs.Problem.{laid_in}
use Rattle.gmpl_rows.proofs.laid.lay_variable.Given as goal

abbrev pub invariant-loop-place : goal.invariant-loop-place
invariant-loop-place l =
    (l.laid.items ++ laid_in l.object (drop l.place l.demanded.members) (drop l.place l.demanded.columns) ≡ l.initial.laid.items ++ laid_in l.object l.demanded.members l.demanded.columns)
    × (AreUsedNarrow (drop l.place l.demanded.members) (drop l.place l.demanded.columns) → AreUsedNarrow l.demanded.members l.demanded.columns)
