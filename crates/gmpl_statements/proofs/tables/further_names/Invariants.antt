-- What is read of the whole is what is read from here, behind what was found.
use Rattle.std.proofs.Common.{◌≡◌, ◌-◌, []}
use Rattle.gmpl_input.specs.Rules.{further, further_from}
use Rattle.gmpl_statements.specs.Parts.{name}
use Rattle.gmpl_statements.proofs.tables.further_names.Given as goal

abbrev pub invariant-loop-turn : goal.invariant-loop-turn
invariant-loop-turn l = further name l.fn.found l.fn.tokens ≡ further_from name (l._turn-end - l._turn) l.found l.tokens
