use Rattle.std.proofs.Common.{drop}
use Rattle.row_columns.specs.Extending.{form_columns}
use Rattle.row_columns.proofs.Adding.{IsOnWay}
use Rattle.row_columns.proofs.columns.add_form_columns.Given as goal

abbrev pub invariant-loop-place : goal.invariant-loop-place
invariant-loop-place l = IsOnWay l.initial.builder l.builder (form_columns l.prefix 0 l.forms) (form_columns l.prefix l.place (drop l.place l.forms))
