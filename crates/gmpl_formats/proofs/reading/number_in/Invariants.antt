use Rattle.std.proofs.Common.{◌≡◌, drop}
use Rattle.gmpl_formats.specs.Conversions.{number_on}
use Rattle.gmpl_formats.proofs.reading.number_in.Given as goal

abbrev pub invariant-loop-digit : goal.invariant-loop-digit
invariant-loop-digit l = number_on l.most l.number (drop l.digit-index l.digits) ≡ number_on l.most 0 l.digits
