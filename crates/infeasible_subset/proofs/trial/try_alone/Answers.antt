use Rattle.infeasible_subset.specs.Members.{has}
use Rattle.infeasible_subset.proofs.Treated.{none_integer}
use Rattle.infeasible_subset.proofs.trial.try_alone.Goals as goal

pub tried-requires-clause-continuous : goal.tried-requires-clause-continuous
tried-requires-clause-continuous c = none_integer c.args.problem.now c.in_ok-part.part (has c.args.members.now) c.in_ok-part.ensures c.requires
