use Rattle.partial_certificate.proofs.Agreement.{check_accepted, check_refused, check_no_fit}
use Rattle.partial_certificate.proofs.Faults.{check_operation}
use Rattle.partial_certificate.proofs.checking.check_partial.Goals as goal

pub returns-clause-accepted : goal.returns-clause-accepted
returns-clause-accepted c = check_accepted c.args.problem.now c.args.certificate.now c.check_parts.result c.check_parts.ensures

pub returns-clause-refused : goal.returns-clause-refused
returns-clause-refused c = check_refused c.args.problem.now c.args.certificate.now c.check_parts.result c.check_parts.ensures

pub returns-clause-no_fit : goal.returns-clause-no_fit
returns-clause-no_fit c = check_no_fit c.args.problem.now c.args.certificate.now c.check_parts.result c.check_parts.ensures

pub returns-clause-operation : goal.returns-clause-operation
returns-clause-operation c = check_operation c.args.problem.now c.args.certificate.now c.check_parts.result c.check_parts.ensures
