use Rattle.std.proofs.Common.{◌≡◌, ℕ, ◌<◌, get_or, false}
use Rattle.certificate_lines.specs.Fields.{is_colon}
use Rattle.certificate_lines.proofs.fields.colon_place.Given as goal

abbrev pub invariant-loop-i : goal.invariant-loop-i
invariant-loop-i l = (k : ℕ) → k < l.i → is_colon (get_or l.field k 0) ≡ false
