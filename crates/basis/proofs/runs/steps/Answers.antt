use Rattle.basis.proofs.StepLemmas.{mend_exchanges, improve_exchanges}
use Rattle.basis.proofs.runs.steps.Goals as goal

pub returns : goal.returns
returns c = record { mend = mend_exchanges; improve = improve_exchanges }
