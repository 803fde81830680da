-- What is read of the whole is what is read from here, behind what was found.
use Rattle.std.proofs.Common.{◌≡◌, ◌-◌, []}
use Rattle.gmpl_statements.specs.Attributes.{attributes, attributes_from}
use Rattle.gmpl_statements.proofs.attributes.attributes.Given as goal

abbrev pub invariant-loop-turn : goal.invariant-loop-turn
invariant-loop-turn l = attributes l.reader.depth l.declared l.fn.tokens ≡ attributes_from l.reader.depth l.declared (l._turn-end - l._turn) l.words l.found l.tokens
