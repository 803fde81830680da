-- How the parts of a line follow each other, up to its first fault.
use Rattle.std.specs.Prelude.{ℕ, List, [], ◌∷◌, Result, Ok, Err}
use Rattle.rational.specs.Rational.{Rational}
use Rattle.fraction.specs.Literal.{read_of}
use Rattle.fraction.specs.declared.read.ReadFault.{ReadFault}
use Rattle.fraction.specs.declared.read.ReadFault.TheVariants.{NotANumber, TooWide as TooWideNumber}
use Rattle.model_text.specs.declared.fault.FaultKind.{FaultKind}
use Rattle.model_text.specs.declared.fault.FaultKind.TheVariants.{BadLine, BadNumber, TooWide}

-- no further field may come
abbrev pub at_end : {A : Type 0} → List (List ℕ) → A → Result A FaultKind
at_end [] a = Ok a
at_end (field ∷ fields) a = Err BadLine

abbrev pub kind_of : ReadFault → FaultKind
kind_of NotANumber = BadNumber
kind_of TooWideNumber = TooWide

-- what follows from the value of a number field
abbrev pub with_number : {A : Type 0} → (Rational → Result A FaultKind) → Result Rational ReadFault → Result A FaultKind
with_number f (Err fault) = Err (kind_of fault)
with_number f (Ok value) = f value

-- the number of a field, or its fault
abbrev pub number_of : List ℕ → Result Rational FaultKind
number_of field = with_number Ok (read_of field)
