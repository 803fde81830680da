use Rattle.basis.proofs.Start.{start_is_dictionary, start_is_point}
use Rattle.basis.proofs.runs.starts.Goals as goal

pub returns : goal.returns
returns c = record { dictionary = λ s b h k. start_is_dictionary s b h k; point = start_is_point }
