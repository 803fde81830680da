-- What is gone over, then the rest.
use Rattle.std.proofs.Common.{◌≡◌, map, drop}
use Rattle.gmpl_names.specs.Expressions.{all_from}
use Rattle.gmpl_names.specs.Statements.{input_column, input_columns}
use Rattle.gmpl_names.proofs.tables.input_columns.Given as goal

abbrev pub invariant-loop-one : goal.invariant-loop-one
invariant-loop-one l = input_columns l.objects l.all l.scope ≡ all_from l.made (map (input_column l.objects) (drop l.one-index l.all)) l.scope
