use Rattle.std.proofs.Common.{sym, subst}
use Rattle.exact_ranges.specs.ShownBest.{RowsFit}
use Rattle.exact_ranges.proofs.costs.cost_ranges.Goals as goal

pub reached-requires : goal.reached-requires
reached-requires c = subst (λ x. RowsFit x c.args.problem.now.rows) (sym c.best_point.ensures) c.requires.best.rows_fit
