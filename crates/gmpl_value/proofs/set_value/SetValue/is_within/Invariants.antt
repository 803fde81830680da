use Rattle.std.proofs.Common.{◌≡◌, drop}
use Rattle.gmpl_value.specs.Sets.{is_within}
use Rattle.gmpl_value.proofs.set_value.SetValue.is_within.Given as goal

abbrev pub invariant-loop-tuple : goal.invariant-loop-tuple
invariant-loop-tuple l = is_within (drop l.tuple-index l.self) l.other ≡ is_within l.self l.other
