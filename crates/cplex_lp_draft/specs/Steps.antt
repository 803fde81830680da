-- How the tokens of a text follow each other, up to its first fault.
use Rattle.std.specs.Prelude.{ℕ, Result, Ok, Err}
use Rattle.rational.specs.Rational.{Rational}
use Rattle.fraction.specs.Literal.{read_of}
use Rattle.model_text.specs.declared.fault.FaultKind.{FaultKind}
use Rattle.model_text.specs.declared.fault.FaultKind.TheVariants.{BadLine, TooWide}
use Rattle.model_text.specs.declared.fault.FileFault.{FileFault}
use Rattle.cplex_lp_tokens.specs.Tokens.{Token}

-- a fault of this kind at a line
abbrev pub fault_at : {A : Type 0} → ℕ → FaultKind → Result A FileFault
fault_at line kind = Err (record { line = line; kind = kind })

-- the token doesn't stand where it may
abbrev pub misplaced : {A : Type 0} → Token → Result A FileFault
misplaced t = fault_at t.line BadLine

-- a number that is written as one, or the fault that it doesn't fit
abbrev pub fitting_at : {E : Type 0} → ℕ → Result Rational E → Result Rational FileFault
fitting_at line (Ok value) = Ok value
fitting_at line (Err fault) = fault_at line TooWide

-- the value of a literal
abbrev pub number_of : Token → Result Rational FileFault
number_of t = fitting_at t.line (read_of t.text)
