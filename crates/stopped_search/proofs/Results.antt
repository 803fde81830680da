-- What holds of results and options.
use Rattle.std.proofs.Common.{◌≡◌, Result, Ok, Err, IfOk, Option, Some, None, IfSome, sym, subst}
use Rattle.std.specs.Result.{result_ok}

pub if_ok : {A E : Type 0} (r : Result A E) (P Q : A → Type 0) → ((x : A) → P x → Q x) → IfOk r P → IfOk r Q
if_ok (Ok x) P Q f h = f x h
if_ok (Err e) P Q f h = tt

pub if_some : {A : Type 0} (o : Option A) (P Q : A → Type 0) → ((x : A) → P x → Q x) → IfSome o P → IfSome o Q
if_some None P Q f h = tt
if_some (Some x) P Q f h = f x h

-- what holds of a value that is handed on
pub made_so : {A E : Type 0} (r : Result A E) (x : A) (P : A → Type 0) → IfOk r (λ y. y ≡ x) → P x → IfOk r P
made_so (Ok y) x P is h = subst P (sym is) h
made_so (Err e) x P is h = tt

-- without the error
pub some_of : {A E : Type 0} (r : Result A E) (o : Option A) (P : A → Type 0) → o ≡ result_ok r → IfOk r P → IfSome o P
some_of {A} (Ok x) o P is h = subst (λ (a : Option A). IfSome a P) (sym is) h
some_of {A} (Err e) o P is h = subst (λ (a : Option A). IfSome a P) (sym is) tt
