-- What is read of the whole is what is read from here.
use Rattle.std.proofs.Common.{◌≡◌, drop}
use Rattle.gmpl_blocks.specs.Sets.{row, marks}
use Rattle.gmpl_blocks.proofs.sets.row.Given as goal

abbrev pub invariant-loop-column : goal.invariant-loop-column
invariant-loop-column l = row l.head l.slots l.fn.given l.fn.tokens ≡ marks l.head.is_transposed l.slots l.row (drop l.column-index l.head.columns) l.given l.tokens
