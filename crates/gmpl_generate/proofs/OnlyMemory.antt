-- What has a value has no fault but want of memory.
use Rattle.std.proofs.Common.{◌≡◌, Ok, refl}
use Rattle.gmpl_value.specs.declared.eval_fault.EvalFault.{EvalFault}
use Rattle.gmpl_value.specs.declared.eval_fault.EvalFault.TheVariants.{NoValue, OutOfDomain, Restriction, DivZero, NotWhole, NotANumber, Nonlinear, BadFormat, Depth, TooMany, NoDual, NoFit, NoMemory}
use Rattle.gmpl_value.specs.Outcome.{Faults, Outcome}

abbrev value_of : {A : Type 0} → A → Outcome A
value_of a = Ok a

pub only_memory : {A : Type 0} (a : A) (f : EvalFault) → Faults f (value_of a) → f ≡ NoMemory
only_memory a NoMemory is = refl
only_memory a NoValue is = absurd cc
only_memory a OutOfDomain is = absurd cc
only_memory a Restriction is = absurd cc
only_memory a DivZero is = absurd cc
only_memory a NotWhole is = absurd cc
only_memory a NotANumber is = absurd cc
only_memory a Nonlinear is = absurd cc
only_memory a BadFormat is = absurd cc
only_memory a Depth is = absurd cc
only_memory a TooMany is = absurd cc
only_memory a NoDual is = absurd cc
only_memory a (NoFit n) is = absurd cc
