use Rattle.cert_check.proofs.OutcomeLaws.{check_accepted, check_holds, check_refused, check_no_fit}
use Rattle.cert_check.proofs.FaultLaws.{check_operation}
use Rattle.cert_check.proofs.checking.check.Goals as goal

pub returns-clause-accepted : goal.returns-clause-accepted
returns-clause-accepted c = check_accepted c.args.problem.now c.args.certificate.now c.check_parts.result c.check_parts.ensures

pub returns-clause-verdict : goal.returns-clause-verdict
returns-clause-verdict c = check_holds c.args.problem.now c.args.certificate.now c.check_parts.result c.check_parts.ensures

pub returns-clause-refused : goal.returns-clause-refused
returns-clause-refused c = check_refused c.args.problem.now c.args.certificate.now c.check_parts.result c.check_parts.ensures

pub returns-clause-no_fit : goal.returns-clause-no_fit
returns-clause-no_fit c = check_no_fit c.args.problem.now c.args.certificate.now c.check_parts.result c.check_parts.ensures

pub returns-clause-operation : goal.returns-clause-operation
returns-clause-operation c = check_operation c.args.problem.now c.args.certificate.now c.check_parts.result c.check_parts.ensures
