-- What is left is the rest of the whole.
use Rattle.std.proofs.Common.{◌+◌, ◌-◌}
use Rattle.gmpl_statements.specs.Statements.{statements_left, statements_of}
use Rattle.gmpl_parse.proofs.OneByOne.{IsLeft}
use Rattle.gmpl_parse.proofs.reading.resolved.Given as goal

abbrev pub invariant-loop-turn : goal.invariant-loop-turn
invariant-loop-turn l = IsLeft (statements_of l.fn.tokens) (statements_left (l.turns - l.turn) (l.turn + 1) l.reader) l.resolver (l.turn + 1)
