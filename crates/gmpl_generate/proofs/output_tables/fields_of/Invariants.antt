-- What is left of the columns.
use Rattle.std.proofs.Common.{◌≡◌, ◌++◌, drop, map}
use Rattle.gmpl_generate.proofs.output_tables.fields_of.Given as goal

abbrev pub invariant-loop-column : goal.invariant-loop-column
invariant-loop-column l = map (λ c. c.field) l.columns ≡ l.fields.items ++ map (λ c. c.field) (drop l.column-index l.columns)
