use Rattle.basis.proofs.Unique.{same_rates, same_gains}
use Rattle.basis.proofs.dictionaries.dictionary_is_unique.Goals as goal

pub returns : goal.returns
returns c = record { rates = λ s b d e h k v j. same_rates s b d e h k v j; gains = λ s b d e h k j. same_gains s b d e h k j }
