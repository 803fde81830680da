-- What is left of the variables.
use Rattle.std.proofs.Common.{◌≡◌, ◌++◌, drop}
use Rattle.gmpl_rows.specs.Problem.{members_from}
use Rattle.gmpl_rows.proofs.members.column_members.Given as goal

abbrev pub invariant-loop-place : goal.invariant-loop-place
invariant-loop-place l =
    l.members.items ++ members_from l.place (drop l.place l.draft.objects) l.left ≡ members_from 0 l.draft.objects l.draft.variables
