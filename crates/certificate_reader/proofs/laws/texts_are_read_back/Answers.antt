use Rattle.certificate_reader.proofs.CertificateAgain.{certificate_again}
use Rattle.certificate_reader.proofs.laws.texts_are_read_back.Goals as goal

pub returns : goal.returns
returns c = λ cert written. certificate_again (record { fractions = c.texts.ensures.fractions; digits = c.texts.ensures.digits }) cert written
