use Rattle.partial_certificate.proofs.Agreement.{accepted_pass, accepted_show, tests_show}
use Rattle.partial_certificate.proofs.laws.accepted_partials_show.Goals as goal

pub returns : goal.returns
returns c = record { passes = accepted_pass; shows = tests_show; accepted = accepted_show }
