use Rattle.partial_reader.proofs.ThirdLines.{partial_named, certificate_named}
use Rattle.partial_reader.proofs.laws.texts_name_their_kind.Goals as goal

pub returns-clause-partial : goal.returns-clause-partial
returns-clause-partial c = λ d written. partial_named d written

pub returns-clause-certificate : goal.returns-clause-certificate
returns-clause-certificate c = λ d written. certificate_named d written
