-- What a fault tells of the operation that does not fit.
use Rattle.fraction.specs.declared.frac.NoFit.{NoFit}
use Rattle.dictionary.specs.declared.fault.Fault.{Fault}
use Rattle.dictionary.specs.declared.fault.Fault.TheVariants.{NoFit as no_fit, NoMemory as no_memory}

-- the fault is an operation of which P holds, or want of memory
abbrev pub IfNoFit : (NoFit → Type 0) → Fault → Type 0
IfNoFit P (no_fit e) = P e
IfNoFit P no_memory = Unit {0}
