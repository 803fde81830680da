use Rattle.basis.proofs.StepLemmas.{flip_keeps}
use Rattle.basis.proofs.exchanges.flips.Goals as goal

pub returns : goal.returns
returns c = λ s b d q place h k l. flip_keeps b q place k l s d h
