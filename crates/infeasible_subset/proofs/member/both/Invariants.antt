use Rattle.std.proofs.Common.{◌≡◌, ◌++◌, drop}
use Rattle.infeasible_subset.specs.Members.{both}
use Rattle.infeasible_subset.proofs.member.both.Given as goal

abbrev pub invariant-loop-member : goal.invariant-loop-member
invariant-loop-member l = both l.members l.others ≡ l.made.items ++ both (drop l.member-index l.members) l.others
