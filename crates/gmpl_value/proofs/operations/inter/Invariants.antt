use Rattle.std.proofs.Common.{◌≡◌, drop}
use Rattle.gmpl_value.specs.Sets.{with_all, common, inter_of}
use Rattle.gmpl_value.proofs.operations.inter.Given as goal

abbrev pub invariant-loop-tuple : goal.invariant-loop-tuple
invariant-loop-tuple l = with_all l.found (common (drop l.tuple-index l.first) l.second) ≡ inter_of l.first l.second
