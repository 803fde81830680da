use Rattle.std.proofs.Common.{◌≡◌, map, take}
use Rattle.instance.specs.Continuous as spec
use Rattle.instance.proofs.problem.continuous_columns.Given as goal

abbrev pub invariant-loop-column : goal.invariant-loop-column
invariant-loop-column l = l.made.items ≡ map spec.continuous (take l.column-index l.columns)
