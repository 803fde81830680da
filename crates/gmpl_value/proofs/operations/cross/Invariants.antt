use Rattle.std.proofs.Common.{◌≡◌, drop}
use Rattle.std.specs.List.{flat_map}
use Rattle.gmpl_value.specs.Sets.{with_all, joined_with, cross_of}
use Rattle.gmpl_value.proofs.operations.cross.Given as goal

abbrev pub invariant-loop-tuple : goal.invariant-loop-tuple
invariant-loop-tuple l = with_all l.found (flat_map (joined_with l.second) (drop l.tuple-index l.first)) ≡ cross_of l.first l.second
