use Rattle.std.proofs.Common.{◌∙◌, sym}
use Rattle.search_rows.proofs.Points.{where_met}
use Rattle.search_rows.proofs.offers.is_feasible.Goals as goal

pub returns-clause-feasible : goal.returns-clause-feasible
returns-clause-feasible c = λ t. where_met c.meets.result _ c.meets.ensures.feasible (c.passes.ensures t)

pub returns-clause-met : goal.returns-clause-met
returns-clause-met c = λ t. sym c.meets.ensures.exact ∙ c.passes.ensures t
