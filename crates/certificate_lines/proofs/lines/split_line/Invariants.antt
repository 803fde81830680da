use Rattle.std.proofs.Common.{◌≡◌, ℕ, ◌<◌, get_or, false}
use Rattle.certificate_lines.specs.Lines.{is_feed}
use Rattle.certificate_lines.proofs.lines.split_line.Given as goal

abbrev pub invariant-loop-i : goal.invariant-loop-i
invariant-loop-i l = (k : ℕ) → k < l.i → is_feed (get_or l.bytes k 0) ≡ false
