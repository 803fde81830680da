use Rattle.basis.proofs.Points.{point_after}
use Rattle.basis.proofs.runs.points_after_steps.Goals as goal

pub returns : goal.returns
returns c = λ s b d x q v place heading t r h k l m n o. point_after s b d x q v place heading t r h k l m n o
