use Rattle.std.proofs.Common.{◌≡◌, drop}
use Rattle.gmpl_value.specs.Sets.{with_all, without}
use Rattle.gmpl_value.proofs.operations.add_without.Given as goal

abbrev pub invariant-loop-tuple : goal.invariant-loop-tuple
invariant-loop-tuple l = with_all l.found (without (drop l.tuple-index l.first) l.second) ≡ with_all l.initial.found (without l.first l.second)
