-- What is gone over, then the rest.
use Rattle.std.proofs.Common.{◌≡◌, map, drop}
use Rattle.gmpl_names.specs.Expressions.{all_from}
use Rattle.gmpl_names.specs.Statements.{output_column, output_columns}
use Rattle.gmpl_names.proofs.tables.output_columns.Given as goal

abbrev pub invariant-loop-one : goal.invariant-loop-one
invariant-loop-one l = output_columns l.objects l.all l.fn.scope ≡ all_from l.made (map (output_column l.objects) (drop l.one-index l.all)) l.scope
