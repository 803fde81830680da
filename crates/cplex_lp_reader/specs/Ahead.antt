-- What a part of the tokens comes to, whatever comes after them.
use Rattle.std.specs.Prelude.{◌≡◌, Result, Ok, Err}
use Rattle.model_text.specs.declared.error.ReadError.{ReadError}
use Rattle.model_text.specs.declared.error.ReadError.TheVariants.{Fault, NoMemory}

-- the whole comes to what is left of it, or to the fault; want of memory is free
abbrev pub GoesOn : {A F : Type 0} → Result (Unit {0}) (ReadError F) → Result A F → Result A F → Type 0
GoesOn (Ok _) whole left = whole ≡ left
GoesOn (Err (Fault fault)) whole left = whole ≡ Err fault
GoesOn (Err NoMemory) whole left = Unit {0}
