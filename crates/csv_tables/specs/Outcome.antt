-- A value or the first fault, and how a call's answer follows it: want of memory is free.
use Rattle.std.specs.Prelude.{◌≡◌, Result, Ok, Err}
use Rattle.csv_tables.specs.declared.fault.TableFault.{TableFault}
use Rattle.csv_tables.specs.declared.fault.TableError.{TableError}
use Rattle.csv_tables.specs.declared.fault.TableError.TheVariants.{Fault, NoMemory}

abbrev pub Outcome : Type 0 → Type 0
Outcome A = Result A TableFault

abbrev pub then_do : {A B : Type 0} → (A → Outcome B) → Outcome A → Outcome B
then_do go (Err fault) = Err fault
then_do go (Ok a) = go a

-- the value is the definition's, as it is seen, and so is the fault
abbrev pub GivesAs : {A B : Type 0} → (A → B) → Result A TableError → Outcome B → Type 0
GivesAs view (Ok a) answer = answer ≡ Ok (view a)
GivesAs view (Err (Fault fault)) answer = answer ≡ Err fault
GivesAs view (Err NoMemory) answer = Unit {0}

-- the same of a value that is seen as it is
abbrev pub Gives : {A : Type 0} → Result A TableError → Outcome A → Type 0
Gives (Ok a) answer = answer ≡ Ok a
Gives (Err (Fault fault)) answer = answer ≡ Err fault
Gives (Err NoMemory) answer = Unit {0}
