-- What is left of the members.
use Rattle.std.proofs.Common.{◌≡◌, ◌++◌, drop}
use Rattle.gmpl_rows.specs.Problem.{used_members}
use Rattle.gmpl_rows.proofs.members.push_members.Given as goal

abbrev pub invariant-loop-place : goal.invariant-loop-place
invariant-loop-place l =
    l.members.items ++ used_members l.statement (drop l.place l.demanded.members) (drop l.place l.demanded.columns) ≡ l.initial.members.items ++ used_members l.statement l.demanded.members l.demanded.columns
