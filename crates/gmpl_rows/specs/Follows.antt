-- What an answer says, but for want of memory.
use Rattle.std.specs.Prelude.{Result, Ok, Err, ◌≡◌}
use Rattle.gmpl_rows.specs.declared.fault.DraftFault.{DraftFault}
use Rattle.gmpl_rows.specs.declared.fault.DraftFault.TheVariants.{TooMany, NoMemory}

abbrev pub Follows : {A : Type 0} → Result A DraftFault → Result A DraftFault → Type 0
Follows (Ok a) answer = answer ≡ Ok a
Follows (Err TooMany) answer = answer ≡ Err TooMany
Follows (Err NoMemory) answer = Unit {0}

abbrev pub then_do : {A B : Type 0} → (A → Result B DraftFault) → Result A DraftFault → Result B DraftFault
then_do go (Err f) = Err f
then_do go (Ok a) = go a
