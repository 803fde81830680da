-- How the parts of a text follow each other, up to its first fault.
use Rattle.std.specs.Prelude.{Result, Ok, Err}

-- the next step, where there was no fault
abbrev pub then_do : {A B F : Type 0} → (A → Result B F) → Result A F → Result B F
then_do f (Err fault) = Err fault
then_do f (Ok a) = f a
