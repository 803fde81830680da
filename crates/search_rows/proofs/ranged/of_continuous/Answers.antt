use Rattle.std.proofs.Common.{IfOk, subst}
use Rattle.branch_search.specs.Plain.{IsPlainCertificate}
use Rattle.search_rows.proofs.ranged.of_continuous.Goals as goal

pub of_certificate-words-requires-clause-plain : goal.of_certificate-words-requires-clause-plain
of_certificate-words-requires-clause-plain c = subst (λ r. IfOk r (IsPlainCertificate c.args.problem.now)) c.in-Ok.is (c.solve-verdict.ensures.plain c.requires)
