-- What is read of the whole is what is read from here, behind what was found.
use Rattle.std.proofs.Common.{◌≡◌, ◌-◌}
use Rattle.gmpl_blocks.specs.Sets.{further_subscripts, subscripts_from}
use Rattle.gmpl_blocks.proofs.sets.further_subscripts.Given as goal

abbrev pub invariant-loop-turn : goal.invariant-loop-turn
invariant-loop-turn l = further_subscripts l.fn.found l.fn.tokens ≡ subscripts_from (l._turn-end - l._turn) l.found l.tokens
