use Rattle.std.proofs.Common.{◌≡◌, ◌++◌, drop}
use Rattle.exact_ranges.specs.ShownBest.{RowsFit}
use Rattle.exact_ranges.specs.Reached.{reached_rows}
use Rattle.exact_ranges.proofs.reached.add_rows.Given as goal

abbrev pub invariant-loop-row : goal.invariant-loop-row
invariant-loop-row l = RowsFit l.x (drop l.row-index l.rows) × (l.initial.forms.items ++ reached_rows l.x l.rows ≡ l.forms.items ++ reached_rows l.x (drop l.row-index l.rows))
