-- What holds of an answer's value, or of its fault, and what follows of it.
use Rattle.std.proofs.Common.{Result, Ok, Err, IfOk, IfErr}

pub ok_gives : {A B : Type 0} (r : Result A B) (P Q : A → Type 0) → ((a : A) → P a → Q a) → IfOk r P → IfOk r Q
ok_gives (Ok a) P Q f h = f a h
ok_gives (Err b) P Q f h = tt

pub err_gives : {A B : Type 0} (r : Result A B) (P Q : B → Type 0) → ((b : B) → P b → Q b) → IfErr r P → IfErr r Q
err_gives (Ok a) P Q f h = tt
err_gives (Err b) P Q f h = f b h
