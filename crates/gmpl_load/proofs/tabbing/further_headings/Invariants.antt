-- What is read of the whole is what is read from here, behind what was read.
use Rattle.std.proofs.Common.{◌≡◌, ◌-◌}
use Rattle.gmpl_load.specs.Tabbing.{further_headings, headings_from}
use Rattle.gmpl_load.proofs.tabbing.further_headings.Given as goal

abbrev pub invariant-loop-turn : goal.invariant-loop-turn
invariant-loop-turn l = further_headings l.names l.objects l.fn.block l.fn.tokens ≡ headings_from l.names l.objects (l._turn-end - l._turn) l.block l.tokens
