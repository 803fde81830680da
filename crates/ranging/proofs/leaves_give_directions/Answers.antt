use Rattle.ranging.proofs.LeafDirections.{leaf_gives_direction}
use Rattle.ranging.proofs.leaves_give_directions.Goals as goal

pub returns : goal.returns
returns c = leaf_gives_direction
