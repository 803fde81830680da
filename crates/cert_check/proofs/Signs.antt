-- Signs of numbers.
use Rattle.std.proofs.Common.{◌≡◌, sym}
use Rattle.std.specs.Prelude.{neg_ℤ, ℤ}
use Rattle.rational.specs.Rational.{neg_ℚ, whole}
use Rattle.rational.proofs.Laws.{neg_whole}

pub whole_negative : (t : ℤ) → neg_ℚ (whole t) ≡ whole (neg_ℤ t)
whole_negative t = sym (neg_whole t)
