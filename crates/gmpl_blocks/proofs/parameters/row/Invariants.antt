-- What is read of the whole is what is read from here.
use Rattle.std.proofs.Common.{◌≡◌, drop}
use Rattle.gmpl_blocks.specs.Parameters.{row, cells}
use Rattle.gmpl_blocks.proofs.parameters.row.Given as goal

abbrev pub invariant-loop-column : goal.invariant-loop-column
invariant-loop-column l = row l.table l.slots l.fn.values l.fn.tokens ≡ cells l.table.is_transposed l.slots l.row (drop l.column-index l.table.columns) l.values l.tokens
