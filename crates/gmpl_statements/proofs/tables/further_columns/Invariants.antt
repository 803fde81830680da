-- What is read of the whole is what is read from here, behind what was found.
use Rattle.std.proofs.Common.{◌≡◌, ◌-◌, []}
use Rattle.gmpl_input.specs.Rules.{further, further_from}
use Rattle.gmpl_statements.specs.Tables.{output_column}
use Rattle.gmpl_statements.proofs.tables.further_columns.Given as goal

abbrev pub invariant-loop-turn : goal.invariant-loop-turn
invariant-loop-turn l = further (output_column l.reader.depth) l.fn.found l.fn.tokens ≡ further_from (output_column l.reader.depth) (l._turn-end - l._turn) l.found l.tokens
