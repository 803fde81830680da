use Rattle.basis.proofs.Bounds.{none_outside_inside}
use Rattle.basis.proofs.runs.where_none_is_outside.Goals as goal

pub returns : goal.returns
returns c = none_outside_inside
