-- Steps of a run: what the rule leads to from a state.
use Rattle.std.specs.Prelude.{pos, ◌+◌, ◌≡◌, ◌≢◌, ◌⊎◌, List, ◌∷◌, length, Option, None}
use Rattle.rational.specs.Rational.{Rational, ◌+ℚ◌, ◌*ℚ◌}
use Rattle.milp.specs.Form.{number_at}
use Rattle.basis.specs.System.{Bounds, System, IsSystem, AreBoundsInOrder}
use Rattle.basis.specs.Dictionary.{IsBasic, IsResting, IsDictionary, rate_of, RestsAt}
use Rattle.basis.specs.Bland.{exchanged, BlandStep}
use Rattle.fraction.specs.declared.frac.NoFit.{NoFit}
use Rattle.search_node.specs.Bases.{next_bases}
use Rattle.simplex.specs.Run.{IsState, IsEndOf, IsEnded}
use Rattle.dictionary.specs.Table.{Table, dictionary_of, IsPivotFault}
use Rattle.dictionary.specs.Values.{direction_of, AreMoved, IsMoveFault}
use Rattle.simplex.specs.declared.decision.Step.{Step}
use Rattle.simplex.specs.declared.decision.Choice.{Choice}
use Rattle.simplex.specs.declared.decision.Choice.TheVariants.{Next, Stop}
use Rattle.simplex.specs.declared.state.State.{State}
use Rattle.simplex.specs.declared.runs.Progress.{Progress}
use Rattle.simplex.specs.declared.runs.Progress.TheVariants.{On, Over}
use Rattle.simplex.specs.declared.runs.RunFault.{RunFault}
use Rattle.simplex.specs.declared.runs.RunFault.TheVariants.{NoFit as NotFitting, PivotLimit, NoMemory}
use Rattle.basis.specs.declared.Place.{Place}
use Rattle.basis.specs.declared.Place.TheVariants.{Basic, AtLower, AtUpper, AtZero}

-- a run that is at the basis of the table t, the first of these bases, and went through the others, the latest first
pub record IsReached (s : System) (t : Table) (values : List Rational) (bases : List (List Place)) : Type 0 where
  pub is_system : IsSystem s
  pub in_order : AreBoundsInOrder s
  pub before : List (List Place)
  pub all : bases ≡ t.places ∷ before
  pub is_state : IsState s t values before

-- a run that is at this state
abbrev pub IsAt : System → State → Type 0
IsAt s state = IsReached s state.dictionary state.values.items state.bases

-- the leaving variable is the entering one, or it is basic and changes with that one
abbrev pub CanLeave : Table → Step → Type 0
CanLeave t step = (step.leaves ≡ step.enters) ⊎ (IsBasic t.places step.leaves × ((rate_of (dictionary_of t) step.enters step.leaves).numerator ≢ pos 0))

-- the rule exchanges so, and the leaving variable comes to its place where the entering one rises by as much as the step says
pub record IsStep (s : System) (t : Table) (values : List Rational) (step : Step) : Type 0 where
  pub is_step : BlandStep s t.places (exchanged t.places step.enters step.leaves step.place)
  pub stops : step.place ≢ Basic
  pub enters : IsResting t.places step.enters
  pub leaves : CanLeave t step
  pub lands : RestsAt s step.place step.leaves (number_at values step.leaves +ℚ step.by *ℚ direction_of t step.enters step.leaves)

-- the next step, or how the run ends
abbrev pub IsChoice : System → Table → List Rational → Choice → Type 0
IsChoice s t values (Next step) = IsStep s t values step
IsChoice s t values (Stop end) = IsEndOf s t values end

-- the bound of a place
abbrev pub bound_at : Bounds → Place → Option Rational
bound_at b Basic = None
bound_at b AtLower = b.lower
bound_at b AtUpper = b.upper
bound_at b AtZero = None

-- what a step makes of a state
pub record IsAdvanced (old : State) (step : Step) (new : State) : Type 0 where
  pub basis : new.dictionary.places ≡ exchanged old.dictionary.places step.enters step.leaves step.place
  pub dictionary : (s : System) → IsDictionary s old.dictionary.places (dictionary_of old.dictionary) → IsDictionary s new.dictionary.places (dictionary_of new.dictionary)
  pub values : AreMoved old.dictionary step.enters step.by old.values.items new.values.items
  pub bases : new.bases ≡ next_bases old.bases (record { enters = step.enters; leaves = step.leaves; place = step.place })

-- e is an operation of a step, of the moves or of the pivot, and does not fit
pub data IsStepOperation (t : Table) (xs : List Rational) (step : Step) (e : NoFit) : Type 0 where
  move : IsMoveFault t step.enters step.by xs e → IsStepOperation t xs step e
  pivot : IsBasic t.places step.leaves → IsPivotFault t step.enters step.leaves e → IsStepOperation t xs step e

-- a step fails so
abbrev pub IsStepFailure : Table → List Rational → Step → RunFault → Type 0
IsStepFailure t xs step (NotFitting e) = IsStepOperation t xs step e
IsStepFailure t xs step (PivotLimit bases) = ⊥
IsStepFailure t xs step NoMemory = Unit {0}

-- a run goes on from a state to one with one more basis, or is over
abbrev pub IsProgress : System → State → Progress → Type 0
IsProgress s old (On new) = IsAt s new × (length new.bases ≡ length old.bases + 1)
IsProgress s old (Over ended) = IsEnded s ended.dictionary ended.values.items ended.end
