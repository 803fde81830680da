use Rattle.std.proofs.Common.{◌∙◌, length, ap}
use Rattle.gomory.specs.Faults.{column_answer}
use Rattle.gomory.proofs.ColumnSums.{coefficient_is}
use Rattle.gomory.proofs.sums.coefficient.Goals as goal

pub returns-in-Ok-clause-value : goal.returns-in-Ok-clause-value
returns-in-Ok-clause-value c =
    coefficient_is c.args.instance.now c.args.weights.now c.args.column c.number-own.result c.get.result.now c.column_sum.result c.in-Ok.total
    c.number-own.ensures (c.get.ensures ∙ c.requires.by_column.entries c.args.column)
    (c.column_sum.ensures ∙ ap (λ columns. column_answer c.args.weights.now (length columns) c.number-own.result c.get.result.now) c.columns-columns.ensures) c.in-Ok.is
