-- Runs of Bland's rule: their states and how they end.
use Rattle.std.specs.Prelude.{ℕ, ◌≡◌, ◌≢◌, List, ◌∷◌, length}
use Rattle.rational.specs.Rational.{Rational}
use Rattle.milp.specs.Form.{number_at}
use Rattle.basis.specs.System.{System, size}
use Rattle.basis.specs.Dictionary.{IsDictionary, IsBasicPoint}
use Rattle.basis.specs.Bland.{IsRun, IsOptimalBasis, IsPivotLimit}
use Rattle.basis.specs.Relaxation.{IsBlocked, IsUnboundedBasis}
use Rattle.basis.specs.Operations.{IsRunOperation}
use Rattle.fraction.specs.Answers.{DoesNotFit}
use Rattle.fraction.specs.declared.frac.NoFit.{NoFit}
use Rattle.dictionary.specs.Table.{Table, dictionary_of, operation_of}
use Rattle.simplex.specs.Ratio.{along}
use Rattle.simplex.specs.declared.runs.End.{End}
use Rattle.simplex.specs.declared.runs.End.TheVariants.{Optimal, Blocked, Endless}
use Rattle.simplex.specs.declared.runs.RunFault.{RunFault}
use Rattle.simplex.specs.declared.runs.RunFault.TheVariants.{NoFit as NotFitting, PivotLimit, NoMemory}
use Rattle.basis.specs.declared.Place.{Place}

-- a state of a run: the basis, its dictionary and its point, after the bases `before`, the latest of them first
pub record IsState (s : System) (t : Table) (values : List Rational) (before : List (List Place)) : Type 0 where
  pub is_run : IsRun s t.places before
  pub is_dictionary : IsDictionary s t.places (dictionary_of t)
  pub is_point : IsBasicPoint s t.places (number_at values)
  pub size : length values ≡ size s

-- what holds where a run ends so
abbrev pub IsEndOf : System → Table → List Rational → End → Type 0
IsEndOf s t values Optimal = IsOptimalBasis s t.places (dictionary_of t) (number_at values)
IsEndOf s t values (Blocked r place) = IsBlocked s t.places (dictionary_of t) (number_at values) r place
IsEndOf s t values (Endless q rises) = IsUnboundedBasis s t.places (dictionary_of t) (number_at values) q (along t q rises)

-- t is the last basis of a run, with its dictionary, `numbers` are those of the variables there, and the run ends so
pub record IsEnded (s : System) (t : Table) (numbers : List Rational) (end : End) : Type 0 where
  pub places : length t.places ≡ size s
  pub values : length numbers ≡ size s
  pub is_end : IsEndOf s t numbers end

-- e is an operation of a run, and does not fit
pub record IsRunFault (s : System) (e : NoFit) : Type 0 where
  pub operation : IsRunOperation s e.a (operation_of e.op) e.b
  pub not_fit : DoesNotFit e

-- bases are all that a run of `limit` steps went through, the latest first, and one more step leads on; a limit of 0 is none
pub record IsLimited (s : System) (limit : ℕ) (bases : List (List Place)) : Type 0 where
  pub some : limit ≢ 0
  pub last : List Place
  pub before : List (List Place)
  pub all : bases ≡ last ∷ before
  pub is_limit : IsPivotLimit s limit last before

-- a run of at most `limit` steps, or of any number where the limit is 0, fails so
abbrev pub IsFaultOf : System → ℕ → RunFault → Type 0
IsFaultOf s limit (NotFitting e) = IsRunFault s e
IsFaultOf s limit (PivotLimit bases) = IsLimited s limit bases
IsFaultOf s limit NoMemory = Unit {0}
