-- A number times the sign of a direction.
use Rattle.std.proofs.Common.{◌≡◌, sym}
use Rattle.std.specs.Prelude.{negsuc}
use Rattle.rational.specs.Rational.{Rational, ◌*ℚ◌, neg_ℚ, one_ℚ, whole}
use Rattle.rational.proofs.Laws as Q
use Rattle.verdicts.proofs.Laws.{minus_one-mul}

pub least : (a : Rational) → a ≡ one_ℚ *ℚ a
least a = sym (Q.one-mul a)

pub greatest : (a : Rational) → neg_ℚ a ≡ whole (negsuc 0) *ℚ a
greatest a = sym (minus_one-mul a)
