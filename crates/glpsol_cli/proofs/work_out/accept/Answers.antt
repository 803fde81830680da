use Rattle.std.proofs.Common.{subst, IfErr}
use Rattle.glpsol_cli.specs.Stages.{IsCheckStop}
use Rattle.glpsol_cli.proofs.work_out.accept.Goals as goal

pub returns-in-Err-clause-stop : goal.returns-in-Err-clause-stop
returns-in-Err-clause-stop c = subst (λ r. IfErr r (IsCheckStop c.args.problem.now c.args.text.now)) c.in-Err.is (c.kept_certificate.ensures.stop c.args.problem.now)
