-- The variables so far.
use Rattle.std.proofs.Common.{◌≡◌}
use Rattle.gmpl_rows.specs.Demanded.{all_none}
use Rattle.gmpl_rows.proofs.variables.all_none.Given as goal

abbrev pub invariant-loop-statement : goal.invariant-loop-statement
invariant-loop-statement l = l.demanded.items ≡ all_none l._statement
