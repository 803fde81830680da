-- Nothing is counted.
use Rattle.gmpl_rows.proofs.Counts.{none-counted}
use Rattle.gmpl_rows.proofs.variables.Variables.new.Goals as goal

pub invariant_of-result : goal.invariant_of-result
invariant_of-result c = none-counted c.args.statements c.in_ok-demanded.demanded.items c.in_ok-demanded.ensures
