use Rattle.std.proofs.Common.{◌≡◌, ◌++◌, drop}
use Rattle.row_columns.specs.Extended.{moved}
use Rattle.row_columns.proofs.moving.push_moved.Given as goal

abbrev pub invariant-loop-entry : goal.invariant-loop-entry
invariant-loop-entry l = l.made.items ++ moved l.count (drop l.entry-index l.form) ≡ l.initial.made.items ++ moved l.count l.form
