use Rattle.std.proofs.Common.{◌≤◌, length, sym, subst}
use Rattle.exact_ranges.specs.ShownBest.{best_point}
use Rattle.exact_ranges.specs.Reached.{AllAscend}
use Rattle.exact_ranges.proofs.ReachedForms.{reached_ascend, few_reached}
use Rattle.exact_ranges.proofs.costs.with_forms.Goals as goal

pub table-requires-clause-ascending : goal.table-requires-clause-ascending
table-requires-clause-ascending c = subst AllAscend (sym c.requires.forms) (reached_ascend c.args.problem.now (best_point c.args.certificate.now) c.keeps_its_limits.ensures.well_formed)

pub table-requires-clause-few : goal.table-requires-clause-few
table-requires-clause-few c = subst (λ forms. length forms ≤ 4000000) (sym c.requires.forms) (few_reached c.args.problem.now (best_point c.args.certificate.now) c.keeps_its_limits.ensures.limits)
