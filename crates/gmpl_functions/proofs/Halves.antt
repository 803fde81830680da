-- One half.
use Rattle.std.proofs.Common.{◌≡◌, ◌∙◌, Bool, true, false, cond, Ok, ap, refl}
use Rattle.std.specs.Prelude.{pos}
use Rattle.integer.specs.Gcd.{gcd, gcd_within}
use Rattle.rational.specs.Rational.{◌*ℚ◌, inv_ℚ, over, one_ℚ, whole, ◌/ℚ◌}
use Rattle.rational.proofs.Laws.{same_parts}
use Rattle.fraction.specs.Fits.{fits}
use Rattle.fraction.specs.Answers.{div_answer}
use Rattle.gmpl_functions.specs.Numbers.{half}

half_is : one_ℚ /ℚ whole (pos 2) ≡ half
unfolding gcd gcd_within ◌*ℚ◌ inv_ℚ over
half_is = same_parts _ _ refl refl

half_fits : fits (one_ℚ /ℚ whole (pos 2)) ≡ true
unfolding gcd gcd_within ◌*ℚ◌ inv_ℚ over
half_fits = refl

cond_true : {A : Type 0} (b : Bool) (x y : A) → b ≡ true → cond b x y ≡ x
cond_true true x y h = refl
cond_true false x y h = absurd cc

pub half_answer : div_answer one_ℚ (whole (pos 2)) ≡ Ok half
half_answer = cond_true (fits (one_ℚ /ℚ whole (pos 2))) _ _ half_fits ∙ ap Ok half_is
