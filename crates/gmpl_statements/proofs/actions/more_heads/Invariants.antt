-- What is read of the whole is what is read from here, behind what was found.
use Rattle.std.proofs.Common.{◌≡◌, ◌+◌, ◌-◌, ◌*◌, []}
use Rattle.gmpl_statements.specs.Actions.{heads_from}
use Rattle.gmpl_statements.proofs.actions.more_heads.Given as goal

abbrev pub invariant-loop-turn : goal.invariant-loop-turn
invariant-loop-turn l = heads_from l.reader.depth l.most l.fn.found l.fn.tokens ≡ heads_from l.reader.depth (l.most - l._turn) l.found l.tokens
