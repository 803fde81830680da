use Rattle.verdicts.proofs.Nodes.{inside_taken, on_a_side}
use Rattle.verdicts.proofs.points_go_down.Goals as goal

pub returns : goal.returns
returns c = record { bounds = inside_taken; sides = on_a_side }
