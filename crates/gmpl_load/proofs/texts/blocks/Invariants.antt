-- What is read of the whole is what is read from here, behind what was read.
use Rattle.std.proofs.Common.{◌≡◌, ◌-◌}
use Rattle.gmpl_load.specs.Texts.{blocks, blocks_from}
use Rattle.gmpl_load.proofs.texts.blocks.Given as goal

abbrev pub invariant-loop-turn : goal.invariant-loop-turn
invariant-loop-turn l = blocks l.names l.objects l.fault l.fn.loaded l.fn.tokens ≡ blocks_from l.names l.objects l.fault (l._turn-end - l._turn) l.loaded l.tokens
