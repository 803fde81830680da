-- What is read of the whole is what is read from here, behind what was found.
use Rattle.std.proofs.Common.{◌≡◌, ◌+◌, ◌-◌, ◌*◌, []}
use Rattle.gmpl_input.specs.Rules.{further, further_from}
use Rattle.gmpl_expressions.specs.Grammar.{expression}
use Rattle.gmpl_statements.proofs.simple.more_listed.Given as goal

abbrev pub invariant-loop-turn : goal.invariant-loop-turn
invariant-loop-turn l = further (expression l.reader.depth) l.fn.found l.fn.tokens ≡ further_from (expression l.reader.depth) (l._turn-end - l._turn) l.found l.tokens
