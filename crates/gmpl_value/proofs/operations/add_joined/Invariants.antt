use Rattle.std.proofs.Common.{◌≡◌, drop}
use Rattle.gmpl_value.specs.Sets.{with_all, joined_with}
use Rattle.gmpl_value.proofs.operations.add_joined.Given as goal

abbrev pub invariant-loop-last : goal.invariant-loop-last
invariant-loop-last l = with_all l.found (joined_with (drop l.last-index l.second) l.tuple) ≡ with_all l.initial.found (joined_with l.second l.tuple)
