-- What is read of the whole is what is read from here, behind what was found.
use Rattle.std.proofs.Common.{◌≡◌, ◌-◌}
use Rattle.gmpl_blocks.specs.Symbols.{further_columns, columns_from}
use Rattle.gmpl_blocks.proofs.symbols.further_columns.Given as goal

abbrev pub invariant-loop-turn : goal.invariant-loop-turn
invariant-loop-turn l = further_columns l.fn.found l.fn.tokens ≡ columns_from (l._turn-end - l._turn) l.found l.tokens
