-- A value or the first fault, and how a call's answer follows it: want of memory is free.
use Rattle.std.specs.Prelude.{◌≡◌, Result, Ok, Err}
use Rattle.rational.specs.Rational.{Rational}
use Rattle.fraction.specs.declared.frac.NoFit.{NoFit}
use Rattle.gmpl_value.specs.declared.fault.SetFault.{SetFault}
use Rattle.gmpl_value.specs.declared.fault.SetFault.TheVariants as set
use Rattle.gmpl_value.specs.declared.eval_fault.EvalFault.{EvalFault}
use Rattle.gmpl_value.specs.declared.eval_fault.EvalFault.TheVariants as fault

abbrev pub Outcome : Type 0 → Type 0
Outcome A = Result A EvalFault

-- the call's fault is the definition's
abbrev pub Faults : {A : Type 0} → EvalFault → Outcome A → Type 0
Faults fault.NoMemory answer = Unit {0}
Faults f answer = answer ≡ Err f

-- the value is the definition's
abbrev pub Gives : {A : Type 0} → Result A EvalFault → Outcome A → Type 0
Gives (Ok a) answer = answer ≡ Ok a
Gives (Err f) answer = Faults f answer

-- the same of a value as it is seen
abbrev pub GivesAs : {A B : Type 0} → (A → B) → Result A EvalFault → Outcome B → Type 0
GivesAs view (Ok a) answer = answer ≡ Ok (view a)
GivesAs view (Err f) answer = Faults f answer

-- the state after the call is the definition's
abbrev pub Follows : {A B : Type 0} → Result B EvalFault → A → Outcome A → Type 0
Follows (Ok _) new answer = answer ≡ Ok new
Follows (Err f) new answer = Faults f answer

abbrev pub then_do : {A B : Type 0} → (A → Outcome B) → Outcome A → Outcome B
then_do go (Err f) = Err f
then_do go (Ok a) = go a

-- an answer of the arithmetic
abbrev pub fitting : Result Rational NoFit → Outcome Rational
fitting (Ok q) = Ok q
fitting (Err n) = Err (fault.NoFit n)

abbrev pub as_eval_fault : SetFault → EvalFault
as_eval_fault set.TooMany = fault.TooMany
as_eval_fault (set.NoFit n) = fault.NoFit n
as_eval_fault set.NoMemory = fault.NoMemory
