use Rattle.std.proofs.Common.{◌≡◌, ◌++◌, drop}
use Rattle.milp.specs.Points.{sign_of}
use Rattle.verdicts.specs.WeightedSums.{scaled}
use Rattle.simplex.proofs.relaxation.turned.Given as goal

abbrev pub invariant-loop-entry : goal.invariant-loop-entry
invariant-loop-entry l = scaled (sign_of l.direction) l.form ≡ l.entries.items ++ scaled (sign_of l.direction) (drop l.entry-index l.form)
