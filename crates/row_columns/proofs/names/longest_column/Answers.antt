use Rattle.std.proofs.Common.{◌∙◌, ◌≤◌, length, subst}
use Rattle.milp.specs.Problem.{Column}
use Rattle.row_columns.proofs.NewNames.{one_more_name}
use Rattle.row_columns.proofs.names.longest_column.Goals as goal

pub loop-column-preserved : goal.loop-column-preserved
loop-column-preserved c =
    one_more_name (λ (x : Column). x.name) c.args.columns.now c.loop-column.column-index c.column-item.result c.loop-column.longest c.larger-longest.result c.loop-column-test.true c.column-item.is c.larger-longest.ensures.first
    (subst (λ name. length name ≤ c.larger-longest.result) (c.as_str.ensures ∙ c.name.ensures) c.larger-longest.ensures.second) c.loop-column.invariant
