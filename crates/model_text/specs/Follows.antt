-- What a step of a reader, what it has read and the definition's answer have to do with each other.
use Rattle.std.specs.Prelude.{◌≡◌, Result, Ok, Err}
use Rattle.model_text.specs.declared.error.ReadError.{ReadError}
use Rattle.model_text.specs.declared.error.ReadError.TheVariants.{Fault, NoMemory}

-- the step and the definition go the same way; want of memory is free
abbrev pub Follows : {A F : Type 0} → Result (Unit {0}) (ReadError F) → A → Result A F → Type 0
Follows (Ok _) new answer = answer ≡ Ok new
Follows (Err (Fault fault)) new answer = answer ≡ Err fault
Follows (Err NoMemory) new answer = Unit {0}

-- the same of what is read
abbrev pub Reads : {A F : Type 0} → Result A (ReadError F) → Result A F → Type 0
Reads (Ok a) answer = answer ≡ Ok a
Reads (Err (Fault fault)) answer = answer ≡ Err fault
Reads (Err NoMemory) answer = Unit {0}

-- an answer as the reader gives it
abbrev pub as_read : {A F : Type 0} → Result A F → Result A (ReadError F)
as_read (Ok a) = Ok a
as_read (Err fault) = Err (Fault fault)
