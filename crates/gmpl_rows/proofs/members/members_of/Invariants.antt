-- What is left of the rows.
use Rattle.std.proofs.Common.{◌≡◌, ◌++◌, drop, map}
use Rattle.gmpl_rows.specs.Draft.{row_member}
use Rattle.gmpl_rows.proofs.members.members_of.Given as goal

abbrev pub invariant-loop-head : goal.invariant-loop-head
invariant-loop-head l = map row_member l.heads ≡ l.members.items ++ map row_member (drop l.head-index l.heads)
