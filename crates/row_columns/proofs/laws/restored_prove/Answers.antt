use Rattle.row_columns.proofs.RestoredCertificates.{certificate_restored}
use Rattle.row_columns.proofs.laws.restored_prove.Goals as goal

pub returns : goal.returns
returns c = certificate_restored
