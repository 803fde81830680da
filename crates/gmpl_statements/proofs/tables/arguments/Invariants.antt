-- What is read of the whole is what is read from here.
use Rattle.std.proofs.Common.{◌≡◌, ◌-◌}
use Rattle.gmpl_statements.specs.Tables.{arguments, arguments_from}
use Rattle.gmpl_statements.proofs.tables.arguments.Given as goal

abbrev pub invariant-loop-turn : goal.invariant-loop-turn
invariant-loop-turn l = arguments l.fn.reader.depth l.fn.tokens ≡ arguments_from l.fn.reader.depth (l._turn-end - l._turn) l.tokens
