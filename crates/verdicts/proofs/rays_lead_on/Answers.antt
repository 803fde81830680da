use Rattle.verdicts.proofs.Steps.{step_feasible, step_better}
use Rattle.verdicts.proofs.rays_lead_on.Goals as goal

pub returns : goal.returns
returns c = record { feasible = step_feasible; better = step_better }
