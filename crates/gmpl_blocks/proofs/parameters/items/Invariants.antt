-- What is read of the whole is what is read from here, behind what was read.
use Rattle.std.proofs.Common.{◌≡◌, ◌-◌}
use Rattle.gmpl_blocks.specs.Parameters.{items, items_from}
use Rattle.gmpl_blocks.proofs.parameters.items.Given as goal

abbrev pub invariant-loop-turn : goal.invariant-loop-turn
invariant-loop-turn l = items l.dimension l.fn.block l.fn.tokens ≡ items_from l.dimension (l._turn-end - l._turn) l.block l.tokens
