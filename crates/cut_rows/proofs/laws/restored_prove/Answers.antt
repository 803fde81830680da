use Rattle.cut_rows.proofs.RestoredCertificates.{certificate_restored}
use Rattle.cut_rows.proofs.laws.restored_prove.Goals as goal

pub returns : goal.returns
returns c = certificate_restored
