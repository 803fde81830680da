use Rattle.std.proofs.Common.{drop}
use Rattle.infeasible_subset.specs.Meeting.{MeetsEach}
use Rattle.infeasible_subset.proofs.meeting.meets_each.Given as goal

abbrev pub invariant-loop-member : goal.invariant-loop-member
invariant-loop-member l = MeetsEach l.problem l.x (drop l.member-index l.members) → MeetsEach l.problem l.x l.members
