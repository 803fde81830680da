use Rattle.basis.proofs.OneRun.{one_start, one_step, one_run, none_longer, one_end}
use Rattle.basis.proofs.runs.runs_are_one.Goals as goal

pub returns : goal.returns
returns c = record { starts = one_start; steps = one_step; runs = one_run; longest = none_longer; ends = one_end }
