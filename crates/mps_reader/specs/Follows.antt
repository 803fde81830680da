-- What a step of the reader, its declaration and the definition's answer have to do with each other.
use Rattle.std.specs.Prelude.{ℕ, Result, Ok, Err}
use Rattle.model_text.specs.declared.error.ReadError.{ReadError}
use Rattle.model_text.specs.declared.error.ReadError.TheVariants.{Fault, NoMemory}
use Rattle.model_text.specs.declared.fault.FaultKind.{FaultKind}
use Rattle.model_text.specs.declared.fault.FileFault.{FileFault}
use Rattle.rational.specs.Rational.{Rational}
use Rattle.fraction.specs.declared.read.ReadFault.{ReadFault}
use Rattle.mps_draft.specs.declared.row.RowRange.{RowRange}
use Rattle.mps_reader.specs.Steps.{kind_of}

-- the number of a field, or the fault of its line
abbrev pub number_or_fault : Result Rational ReadFault → Result Rational (ReadError FaultKind)
number_or_fault (Ok value) = Ok value
number_or_fault (Err fault) = Err (Fault (kind_of fault))

-- the bounds of a range, or the fault of its line
abbrev pub range_or_fault : Result RowRange FaultKind → Result RowRange (ReadError FaultKind)
range_or_fault (Ok range) = Ok range
range_or_fault (Err kind) = Err (Fault kind)

-- the error of a line of this number
abbrev pub fault_at : ℕ → ReadError FaultKind → ReadError FileFault
fault_at n (Fault kind) = Fault (record { line = n; kind = kind })
fault_at n NoMemory = NoMemory
