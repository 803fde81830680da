use Rattle.partial_reader.proofs.PartialAgain.{partial_again}
use Rattle.partial_reader.proofs.laws.partial_texts_are_read_back.Goals as goal

pub returns : goal.returns
returns c = record { again = λ d written. partial_again (record { fractions = c.texts.ensures.fractions; digits = c.texts.ensures.digits }) d written }
