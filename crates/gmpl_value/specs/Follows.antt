-- How a call's answer follows a definition's: want of memory is free.
use Rattle.std.specs.Prelude.{◌≡◌, Result, Ok, Err}
use Rattle.rational.specs.Rational.{Rational}
use Rattle.fraction.specs.declared.frac.NoFit.{NoFit}
use Rattle.gmpl_value.specs.declared.fault.SetFault.{SetFault}
use Rattle.gmpl_value.specs.declared.fault.SetFault.TheVariants as fault

-- the call's fault is the definition's
abbrev pub Faults : {A : Type 0} → SetFault → Result A SetFault → Type 0
Faults fault.NoMemory answer = Unit {0}
Faults fault.TooMany answer = answer ≡ Err fault.TooMany
Faults (fault.NoFit n) answer = answer ≡ Err (fault.NoFit n)

-- the value is the definition's
abbrev pub Gives : {A : Type 0} → Result A SetFault → Result A SetFault → Type 0
Gives (Ok a) answer = answer ≡ Ok a
Gives (Err f) answer = Faults f answer

-- the same of a value as it is seen
abbrev pub GivesAs : {A B : Type 0} → (A → B) → Result A SetFault → Result B SetFault → Type 0
GivesAs view (Ok a) answer = answer ≡ Ok (view a)
GivesAs view (Err f) answer = Faults f answer

-- the state after the call is the definition's
abbrev pub Follows : {A B : Type 0} → Result B SetFault → A → Result A SetFault → Type 0
Follows (Ok _) new answer = answer ≡ Ok new
Follows (Err f) new answer = Faults f answer

abbrev pub then_do : {A B E : Type 0} → (A → Result B E) → Result A E → Result B E
then_do f (Err fault) = Err fault
then_do f (Ok a) = f a

-- an answer of the arithmetic
abbrev pub fitting : Result Rational NoFit → Result Rational SetFault
fitting (Ok q) = Ok q
fitting (Err n) = Err (fault.NoFit n)
