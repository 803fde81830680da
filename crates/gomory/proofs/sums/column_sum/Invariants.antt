use Rattle.std.proofs.Common.{◌≡◌, drop}
use Rattle.gomory.specs.Faults.{column_answer}
use Rattle.gomory.proofs.sums.column_sum.Given as goal

abbrev pub invariant-loop-entry : goal.invariant-loop-entry
invariant-loop-entry l = column_answer l.weights l.columns l.so_far (drop l.entry-index l.entries) ≡ column_answer l.weights l.columns l.fn.total l.entries
