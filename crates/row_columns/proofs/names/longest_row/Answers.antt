use Rattle.std.proofs.Common.{◌∙◌, ◌≤◌, length, subst}
use Rattle.milp.specs.Problem.{Row}
use Rattle.row_columns.proofs.NewNames.{one_more_name}
use Rattle.row_columns.proofs.names.longest_row.Goals as goal

pub loop-row-preserved : goal.loop-row-preserved
loop-row-preserved c =
    one_more_name (λ (x : Row). x.name) c.args.rows.now c.loop-row.row-index c.row-item.result c.loop-row.longest c.larger-longest.result c.loop-row-test.true c.row-item.is c.larger-longest.ensures.first
    (subst (λ name. length name ≤ c.larger-longest.result) (c.as_str.ensures ∙ c.name.ensures) c.larger-longest.ensures.second) c.loop-row.invariant
