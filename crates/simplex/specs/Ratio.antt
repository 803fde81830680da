-- How far a variable moves until it reaches a bound.
use Rattle.std.specs.Prelude.{ℕ, ◌<◌, ◌≡◌, Bool, true, false, List, Option, Some, None, option_map, if◌then◌else◌}
use Rattle.rational.specs.Rational.{Rational, zero_ℚ, neg_ℚ, ◌-ℚ◌}
use Rattle.milp.specs.Form.{number_at}
use Rattle.rational.specs.Compare.{is_less}
use Rattle.basis.specs.System.{Bounds, System, size}
use Rattle.basis.specs.Dictionary.{IsBasic, rate_of}
use Rattle.basis.specs.Bland.{Reaches, IsFirst, ReachesNone}
use Rattle.basis.specs.Operations.{LiesAhead}
use Rattle.basis.specs.Pivots.{IsLengthOperation}
use Rattle.fraction.specs.Fits.{sum_fits}
use Rattle.fraction.specs.Answers.{DoesNotFit}
use Rattle.fraction.specs.declared.frac.Op.TheVariants.{Sub}
use Rattle.fraction.specs.declared.frac.NoFit.{NoFit}
use Rattle.dictionary.specs.Rows.{IsQuotient}
use Rattle.dictionary.specs.Table.{Table, dictionary_of, operation_of}
use Rattle.dictionary.specs.Values.{direction_of}
use Rattle.simplex.specs.declared.ratio.Reach.{Reach}
use Rattle.basis.specs.declared.Place.{Place}
use Rattle.basis.specs.declared.Place.TheVariants.{AtLower, AtUpper}

-- a, or minus a where the mover falls
abbrev pub turned : Bool → Rational → Rational
turned true a = a
turned false a = neg_ℚ a

-- how each variable moves where the resting variable q rises by 1, or falls by 1
abbrev pub along : Table → ℕ → Bool → ℕ → Rational
along t q rises v = turned rises (direction_of t q v)

-- the bound in the way of a variable that changes so
abbrev pub bound_ahead : Bounds → Rational → Option (Rational × Place)
bound_ahead b change = if is_less zero_ℚ change then option_map (λ u. (u, AtUpper)) b.upper else (if is_less change zero_ℚ then option_map (λ l. (l, AtLower)) b.lower else None)

-- after the step t, and no other, v is at a bound in its way, that of this place
pub record IsReach (s : System) (x r : ℕ → Rational) (v : ℕ) (t : Rational) (place : Place) : Type 0 where
  pub reaches : Reaches s x r t v place
  pub only : (u : Rational) (p : Place) → Reaches s x r u v p → u ≡ t

-- e is an operation that finds how far q has to move until v is at the bound, and does not fit
pub record IsWayFault (x : List Rational) (t : Table) (q v : ℕ) (bound : Rational) (e : NoFit) : Type 0 where
  pub operation : IsLengthOperation t.places (number_at x) (dictionary_of t) q v bound e.a (operation_of e.op) e.b
  pub not_fit : DoesNotFit e

-- e is such an operation for a variable and the bound ahead of it
pub record IsLengthFault (s : System) (x : List Rational) (t : Table) (q : ℕ) (rises : Bool) (e : NoFit) : Type 0 where
  pub variable : ℕ
  pub bound : Rational
  pub known : variable < size s
  pub ahead : LiesAhead s variable (along t q rises variable) bound
  pub fault : IsWayFault x t q variable bound e

-- e is the way from x to the bound, or the quotient of this way by the rate of the basic variable v, and does not fit
pub data IsStepFault (t : Table) (q v : ℕ) (x bound : Rational) (e : NoFit) : Type 0 where
  way : e ≡ record { a = bound; op = Sub; b = x } → sum_fits bound (neg_ℚ x) ≡ false → IsStepFault t q v x bound e
  length : IsBasic t.places v → IsQuotient (bound -ℚ x) (rate_of (dictionary_of t) q v) e → IsStepFault t q v x bound e

-- where v reaches a bound, if it ever does
abbrev pub IsReachOf : System → (ℕ → Rational) → (ℕ → Rational) → ℕ → Option Reach → Type 0
IsReachOf s x r v None = (u : Rational) → (p : Place) → ¬ (Reaches s x r u v p)
IsReachOf s x r v (Some reach) = (reach.variable ≡ v) × IsReach s x r v reach.step reach.place

-- which variable reaches a bound first, and the least of those, if any ever does
abbrev pub IsFirstReach : System → (ℕ → Rational) → (ℕ → Rational) → Option Reach → Type 0
IsFirstReach s x r None = ReachesNone s x r
IsFirstReach s x r (Some reach) = (reach.variable < size s) × Reaches s x r reach.step reach.variable reach.place × IsFirst s x r reach.step reach.variable

-- the sooner of two reaches, and the first of them where they come at once
abbrev pub sooner_reach : Option Reach → Reach → Reach
sooner_reach None reach = reach
sooner_reach (Some best) reach = if is_less reach.step best.step then reach else best

-- the sooner of two, where there are any
abbrev pub sooner_of : Option Reach → Option Reach → Option Reach
sooner_of first None = first
sooner_of first (Some reach) = Some (sooner_reach first reach)
