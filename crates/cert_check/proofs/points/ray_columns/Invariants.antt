use Rattle.std.proofs.Common.{◌≡◌, drop, length, ◌-◌, ◌≤◌, true}
use Rattle.verdicts.specs.Proves.{meets_columns}
use Rattle.cert_check.proofs.points.ray_columns.Given as goal

abbrev pub invariant-loop-i : goal.invariant-loop-i
invariant-loop-i l = record { in_columns : l.i ≤ length l.columns; in_point : l.i ≤ length l.x; left : meets_columns true (drop l.i l.columns) (drop l.i l.x) ≡ meets_columns true l.columns l.x }

abbrev pub decreases-loop-i : goal.decreases-loop-i
decreases-loop-i l = length l.columns - l.i
