use Rattle.std.proofs.Common.{◌≡◌, length, subst, rules}
use Rattle.infeasible_subset.specs.Meeting.{MeetsEach}
use Rattle.infeasible_subset.proofs.EachMet.{each_met}
use Rattle.infeasible_subset.proofs.meeting.meets.Goals as goal

pub returns-then-x-columns : goal.returns-then-x-columns
returns-then-x-columns c =
    let p = c.args.problem.now in
    let x = c.args.point.now in
    let size : length x ≡ length p.columns = search rules in
    λ t. each_met p x c.args.members.now c.requires size (subst (λ y. MeetsEach p y c.args.members.now) c.as_slice-x.ensures (c.meets_each.ensures t))
