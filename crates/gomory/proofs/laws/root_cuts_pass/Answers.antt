use Rattle.gomory.proofs.CutsPass.{root_passes}
use Rattle.gomory.proofs.laws.root_cuts_pass.Goals as goal

pub returns : goal.returns
returns c = root_passes
