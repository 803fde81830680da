-- What is left of the sums.
use Rattle.std.proofs.Common.{◌≡◌, ◌++◌, drop, map}
use Rattle.dual_values.specs.Duals.{directed}
use Rattle.dual_values.proofs.sums.directed_all.Given as goal

abbrev pub invariant-loop-sum : goal.invariant-loop-sum
invariant-loop-sum l = map (directed l.direction) l.sums ≡ l.made.items ++ map (directed l.direction) (drop l.sum-index l.sums)
