use Rattle.verdicts.proofs.Law.{certificate_right}
use Rattle.verdicts.proofs.certificates_are_right.Goals as goal

pub returns : goal.returns
returns c = certificate_right
