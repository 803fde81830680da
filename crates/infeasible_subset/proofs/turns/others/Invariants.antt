use Rattle.std.proofs.Common.{◌≡◌, ◌++◌, drop}
use Rattle.infeasible_subset.specs.Underway.{members_of}
use Rattle.infeasible_subset.proofs.turns.others.Given as goal

abbrev pub invariant-loop-witness : goal.invariant-loop-witness
invariant-loop-witness l = members_of l.done ≡ l.others.items ++ members_of (drop l.witness-index l.done)
