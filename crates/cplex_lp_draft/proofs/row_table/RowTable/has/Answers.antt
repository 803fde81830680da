-- By the rows' names.
use Rattle.std.proofs.Common.{◌∙◌}
use Rattle.milp.specs.Problem.{Row}
use Rattle.model_text.proofs.Laws.{any-name}
use Rattle.cplex_lp_draft.proofs.row_table.RowTable.has.Goals as goal

pub returns : goal.returns
returns c = rw (← c.self.view_is) (c.has.ensures ∙ any-name (λ (r : Row). r.name) c.args.name.now c.self.inside.names c.self.inside.rows.items c.self.invariant.index)
