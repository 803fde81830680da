use Rattle.std.proofs.Common.{sym, subst}
use Rattle.branch_search.specs.Plain.{IsPlainCertificate}
use Rattle.glpsol_cli.proofs.work_out.by_subset.Goals as goal

pub subset_found-requires-clause-plain : goal.subset_found-requires-clause-plain
subset_found-requires-clause-plain c = subst (IsPlainCertificate c.args.problem.now) (sym c.get.ensures) c.requires.plain
