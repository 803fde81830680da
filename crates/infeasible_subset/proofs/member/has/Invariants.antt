use Rattle.std.proofs.Common.{◌≡◌, drop}
use Rattle.infeasible_subset.specs.Members.{has}
use Rattle.infeasible_subset.proofs.member.has.Given as goal

abbrev pub invariant-loop-one : goal.invariant-loop-one
invariant-loop-one l = has l.members l.member ≡ has (drop l.one-index l.members) l.member
