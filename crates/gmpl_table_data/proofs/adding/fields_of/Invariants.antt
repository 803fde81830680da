-- The fields so far, and then those of the rest.
use Rattle.std.proofs.Common.{◌≡◌, ◌++◌, drop, map}
use Rattle.gmpl_resolved.specs.declared.statement.InputColumn.{InputColumn}
use Rattle.gmpl_table_data.proofs.adding.fields_of.Given as goal

abbrev pub invariant-loop-column : goal.invariant-loop-column
invariant-loop-column l = map (λ (column : InputColumn). column.field) l.columns ≡ l.fields.items ++ map (λ (column : InputColumn). column.field) (drop l.column-index l.columns)
