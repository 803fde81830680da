use Rattle.outside.specs.Causes.{Rose}
use Rattle.glpsol_cli.proofs.Completes.{rechecked}
use Rattle.glpsol_cli.proofs.laws.written_certificates_are_accepted.Goals as goal

pub returns : goal.returns
returns c = λ cert again told answer files files' out out' written k h. rechecked cert again told (Rose files files') (Rose out out') k (c.texts_are_read_back.ensures cert written) answer h
