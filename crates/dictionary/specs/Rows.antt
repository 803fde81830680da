-- Rows of numbers, and what a pivot makes of them.
use Rattle.std.specs.Prelude.{ℕ, negsuc, ◌<◌, ◌≡◌, ◌≢◌, List, length, false}
use Rattle.rational.specs.Rational.{Rational, zero_ℚ, whole, inv_ℚ, neg_ℚ, ◌+ℚ◌, ◌*ℚ◌, ◌/ℚ◌}
use Rattle.milp.specs.Form.{number_at}
use Rattle.fraction.specs.Fits.{fits, sum_fits}
use Rattle.fraction.specs.declared.frac.Op.TheVariants.{Add, Mul, Div}
use Rattle.fraction.specs.declared.frac.NoFit.{NoFit}

-- the row `old`, whose number at the place `at` is not 0, solved for that place
pub record IsSolved (old : List Rational) (at : ℕ) (new : List Rational) : Type 0 where
  pub size : length new ≡ length old
  pub at_place : number_at new at ≡ inv_ℚ (number_at old at)
  pub others : (c : ℕ) → c < length old → c ≢ at → number_at new c ≡ neg_ℚ (number_at old c /ℚ number_at old at)

-- the row `old` with the row `solved` put in for the place `at`
pub record IsSubstituted (old solved : List Rational) (at : ℕ) (new : List Rational) : Type 0 where
  pub size : length new ≡ length old
  pub at_place : number_at new at ≡ number_at old at *ℚ number_at solved at
  pub others : (c : ℕ) → c < length old → c ≢ at → number_at new c ≡ number_at old c +ℚ number_at old at *ℚ number_at solved c

-- e is the quotient a / b, and does not fit
pub record IsQuotient (a b : Rational) (e : NoFit) : Type 0 where
  pub named : e ≡ record { a = a; op = Div; b = b }
  pub not_fit : fits (a /ℚ b) ≡ false

-- e is a quotient of `IsSolved` that does not fit
pub data IsSolvingFault (old : List Rational) (at : ℕ) (e : NoFit) : Type 0 where
  at_place : IsQuotient (whole (negsuc 0)) (number_at old at) e → IsSolvingFault old at e
  other : (c : ℕ) → c < length old → c ≢ at → IsQuotient (number_at old c) (number_at old at) e → IsSolvingFault old at e

-- e is the product q * a, or its sum with b, and does not fit
pub data IsProductOrSum (q a b : Rational) (e : NoFit) : Type 0 where
  product : e ≡ record { a = q; op = Mul; b = a } → fits (q *ℚ a) ≡ false → IsProductOrSum q a b e
  sum : e ≡ record { a = q *ℚ a; op = Add; b = b } → sum_fits (q *ℚ a) b ≡ false → IsProductOrSum q a b e

-- e is a product or a sum of `IsSubstituted` that does not fit
pub data IsSubstitutionFault (old solved : List Rational) (at : ℕ) (e : NoFit) : Type 0 where
  at_place : IsProductOrSum (number_at old at) (number_at solved at) zero_ℚ e → IsSubstitutionFault old solved at e
  other : (c : ℕ) → c < length old → c ≢ at → IsProductOrSum (number_at old at) (number_at solved c) (number_at old c) e → IsSubstitutionFault old solved at e
