use Rattle.std.proofs.Common.{◌≡◌, ◌++◌, drop}
use Rattle.cut_rows.specs.Cutting.{cut_rows}
use Rattle.cut_rows.proofs.cutting.cut_rows.Given as goal

abbrev pub invariant-loop-place : goal.invariant-loop-place
invariant-loop-place l = l.made.items ++ cut_rows l.prefix l.place (drop l.place l.cuts) ≡ cut_rows l.prefix 0 l.cuts
