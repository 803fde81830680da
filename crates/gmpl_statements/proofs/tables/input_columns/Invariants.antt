-- What is read of the whole is what is read from here, behind what was found.
use Rattle.std.proofs.Common.{◌≡◌, ◌-◌, []}
use Rattle.gmpl_input.specs.Rules.{further, further_from}
use Rattle.gmpl_statements.specs.Tables.{input_column}
use Rattle.gmpl_statements.proofs.tables.input_columns.Given as goal

abbrev pub invariant-loop-turn : goal.invariant-loop-turn
invariant-loop-turn l = further input_column [] l.fn.tokens ≡ further_from input_column (l._turn-end - l._turn) l.found l.tokens
