use Rattle.basis.proofs.Unique.{same_point}
use Rattle.basis.proofs.dictionaries.point_is_unique.Goals as goal

pub returns : goal.returns
returns c = same_point
