use Rattle.std.proofs.Common.{◌≡◌, drop}
use Rattle.gmpl_value.specs.Sets.{with_all}
use Rattle.gmpl_value.proofs.operations.add_all.Given as goal

abbrev pub invariant-loop-tuple : goal.invariant-loop-tuple
invariant-loop-tuple l = with_all l.found (drop l.tuple-index l.set) ≡ with_all l.initial.found l.set
