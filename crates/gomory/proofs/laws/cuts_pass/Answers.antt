use Rattle.gomory.proofs.CutsPass.{passes, violated}
use Rattle.gomory.proofs.laws.cuts_pass.Goals as goal

pub returns-clause-passes : goal.returns-clause-passes
returns-clause-passes c = passes

pub returns-clause-violated : goal.returns-clause-violated
returns-clause-violated c = violated
