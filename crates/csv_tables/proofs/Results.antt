-- What a result says of its value and of its error.
use Rattle.std.proofs.Common.{◌≡◌, Some, subst}
use Rattle.std.specs.Prelude.{Result, Ok, Err, IfOk, OnOk, IsErrAnd}
use Rattle.std.specs.Result.{result_ok}
use Rattle.std.proofs.lemmas.Option.{same_Some}
use Rattle.csv_tables.specs.Outcome.{GivesAs}
use Rattle.csv_tables.specs.declared.fault.TableFault.{TableFault}
use Rattle.csv_tables.specs.declared.fault.TableError.{TableError}

-- what an `Ok` says of the value that `ok` gives
pub from_ok : {A E : Type 0} (P : A → Type 0) (r : Result A E) (a : A) → result_ok r ≡ Some a → IfOk r P → P a
from_ok P (Ok b) a is h = subst P (same_Some _ _ is) h
from_ok P (Err e) a is h = cc is

-- what holds after an `Ok`
pub after_ok : {A E T : Type 0} (r : Result A E) (a : A) → result_ok r ≡ Some a → OnOk r T → T
after_ok (Ok b) a is h = h
after_ok (Err e) a is h = cc is

-- an error that is handed on
pub handed_on : {A B : Type 0} (view : A → B) (r : Result A TableError) (error : TableError) (answer : Result B TableFault)
    → IsErrAnd r (λ e. e ≡ error) → GivesAs view (Err error) answer → GivesAs view r answer
handed_on view (Ok a) error answer same h = absurd same
handed_on view (Err e) error answer same h = rw same h
