-- What is left to lay down.
use Rattle.std.proofs.Common.{◌≡◌, drop}
use Rattle.gmpl_rows.specs.Laying.{lay_cells}
use Rattle.gmpl_rows.proofs.row_entries.lay_cells.Given as goal

abbrev pub invariant-loop-cell : goal.invariant-loop-cell
invariant-loop-cell l = lay_cells l.column (drop l.cell-index l.cells) l.rows.items ≡ lay_cells l.column l.cells l.initial.rows.items
