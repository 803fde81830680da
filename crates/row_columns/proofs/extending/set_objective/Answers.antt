use Rattle.std.proofs.Common.{◌∙◌}
use Rattle.row_columns.proofs.Extensions.{objective_fits}
use Rattle.row_columns.proofs.extending.set_objective.Goals as goal

pub objective-requires-2 : goal.objective-requires-2
objective-requires-2 c =
    objective_fits c.args.problem.now c.args.builder.now c.args.count c.as_slice.result.now c.in_ok-form.form c.requires c.keeps_its_limits.ensures.well_formed.objective_form (c.as_slice.ensures ∙ c.objective.ensures.form) c.in_ok-form.ensures
