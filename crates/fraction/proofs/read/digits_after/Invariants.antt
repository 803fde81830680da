use Rattle.std.proofs.Common.{◌≡◌, ◌≤◌, ◌+◌, drop}
use Rattle.fraction.specs.Reading.{kept_on}
use Rattle.fraction.proofs.read.digits_after.Given as goal

abbrev pub invariant-loop-c : goal.invariant-loop-c
invariant-loop-c l = (kept_on l.kept (drop l.c-index l.text) ≡ kept_on l.fn.start l.text) × (l.kept.zeros ≤ l.fn.start.zeros + l.c-index)
