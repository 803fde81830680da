-- What is read of the whole is what is read from here, behind what was read.
use Rattle.std.proofs.Common.{◌≡◌, ◌-◌}
use Rattle.gmpl_load.specs.Tabbing.{rows, rows_from}
use Rattle.gmpl_load.proofs.tabbing.rows.Given as goal

abbrev pub invariant-loop-turn : goal.invariant-loop-turn
invariant-loop-turn l = rows l.slots l.fn.block l.fn.tokens ≡ rows_from l.slots (l._turn-end - l._turn) l.block l.tokens
