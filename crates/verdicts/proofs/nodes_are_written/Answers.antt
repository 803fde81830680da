use Rattle.verdicts.proofs.SplitRows.{written_keep, written_empty, written_bound, written_positive, written_rising, rows_taken}
use Rattle.verdicts.proofs.Named.{all_other}
use Rattle.verdicts.proofs.nodes_are_written.Goals as goal

pub returns : goal.returns
returns c = record { sums = written_keep; empty = written_empty; bound = written_bound; positive = written_positive; rising = λ p ds sides w h r. written_rising p ds sides w (all_other 0 w.columns h) r; rows = rows_taken }
