-- The first fault of a model, with its statement.
use Rattle.std.specs.Prelude.{ℕ, Result, Ok, Err}
use Rattle.gmpl_value.specs.Outcome.{Outcome}
use Rattle.gmpl_generate.specs.declared.fault.ModelFault.{ModelFault}
use Rattle.gmpl_generate.specs.declared.fault.ModelFaultKind.TheVariants.{Evaluation}
use Rattle.gmpl_generate.specs.Running.{fault_at}

-- a fault is its statement's
abbrev pub of_statement : {A : Type 0} → ℕ → ℕ → Outcome A → Result A ModelFault
of_statement number line (Ok a) = Ok a
of_statement number line (Err fault) = Err (fault_at number line (Evaluation fault))
