use Rattle.std.proofs.Common.{◌≡◌, ◌++◌, map, take, drop}
use Rattle.dictionary.specs.Sparse.{solved_entry}
use Rattle.dictionary.proofs.row.solve.Given as goal

abbrev pub invariant-loop-i : goal.invariant-loop-i
invariant-loop-i l = l.entries ≡ map (solved_entry l.at l.divisor) (take l.i l.initial.entries) ++ drop l.i l.initial.entries
