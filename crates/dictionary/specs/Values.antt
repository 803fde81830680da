-- Variables and the bounds that they have passed, as tests.
use Rattle.std.specs.Prelude.{ℕ, ◌<◌, ◌≡◌, ◌==◌, cond, Bool, true, false, List, length, Option, Some, None, if◌then◌else◌}
use Rattle.rational.specs.Rational.{Rational, zero_ℚ, one_ℚ, neg_ℚ, ◌+ℚ◌, ◌*ℚ◌}
use Rattle.milp.specs.Form.{number_at}
use Rattle.verdicts.specs.Proves.{lies_above, lies_below}
use Rattle.rational.specs.Compare.{is_less}
use Rattle.basis.specs.System.{Bounds}
use Rattle.basis.specs.Dictionary.{place_of, IsBasic, rate_of}
use Rattle.fraction.specs.Fits.{sum_fits}
use Rattle.fraction.specs.declared.frac.Op.TheVariants.{Add}
use Rattle.fraction.specs.declared.frac.NoFit.{NoFit}
use Rattle.dictionary.specs.Rows.{IsProductOrSum}
use Rattle.dictionary.specs.Table.{Table, is_basic, dictionary_of}
use Rattle.basis.specs.declared.Place.{Place}
use Rattle.basis.specs.declared.Place.TheVariants.{Basic, AtLower, AtUpper, AtZero}

-- the bound that x has passed, the lower one first
abbrev pub passed_bound : Bounds → Rational → Option Place
passed_bound b x = if lies_above b.lower x then (if lies_below b.upper x then None else Some AtUpper) else Some AtLower

-- x can rise within its bounds, or fall
abbrev pub can_rise : Bounds → Rational → Bool
can_rise b x = elim b.upper [ None ↦ true | Some u ↦ is_less x u ]

abbrev pub can_fall : Bounds → Rational → Bool
can_fall b x = elim b.lower [ None ↦ true | Some l ↦ is_less l x ]

-- x can leave its value so that what changes at this rate rises
abbrev pub can_raise : Bounds → Rational → Rational → Bool
can_raise b x rate = if is_less zero_ℚ rate then can_rise b x else (if is_less rate zero_ℚ then can_fall b x else false)

-- x can leave its value so that a variable that is past the bound of this place, and changes at this rate, comes back
abbrev pub can_mend : Place → Bounds → Rational → Rational → Bool
can_mend Basic b x rate = false
can_mend AtLower b x rate = can_raise b x rate
can_mend AtUpper b x rate = can_raise b x (neg_ℚ rate)
can_mend AtZero b x rate = false

-- how each variable moves where the resting variable q rises by 1
abbrev pub direction_of : Table → ℕ → ℕ → Rational
direction_of t q v = cond (v == q) one_ℚ (cond (is_basic (place_of t.places v)) (rate_of (dictionary_of t) q v) zero_ℚ)

-- the numbers after q has moved by `by`, and the basic variables with it
pub record AreMoved (t : Table) (q : ℕ) (by : Rational) (old new : List Rational) : Type 0 where
  pub size : length new ≡ length old
  pub numbers : (v : ℕ) → v < length old → number_at new v ≡ number_at old v +ℚ by *ℚ direction_of t q v

-- e is an operation of moving the variable v, at x, and does not fit
pub data IsVariableFault (t : Table) (q : ℕ) (by : Rational) (v : ℕ) (x : Rational) (e : NoFit) : Type 0 where
  mover : v ≡ q → e ≡ record { a = x; op = Add; b = by } → sum_fits x by ≡ false → IsVariableFault t q by v x e
  basic : IsBasic t.places v → IsProductOrSum (rate_of (dictionary_of t) q v) by x e → IsVariableFault t q by v x e

-- e is an operation of moving the variables, and does not fit
pub record IsMoveFault (t : Table) (q : ℕ) (by : Rational) (old : List Rational) (e : NoFit) : Type 0 where
  pub variable : ℕ
  pub known : variable < length old
  pub fault : IsVariableFault t q by variable (number_at old variable) e
