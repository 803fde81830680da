-- Results whose parts are handed on.
use Rattle.std.proofs.Common.{◌≡◌, ◌∙◌, ℕ, ◌≤◌, List, [], ◌∷◌, length, None, Option, refl, sym, subst, arith}
use Rattle.std.specs.Prelude.{Result, Ok, Err, IfOk, IfErr}
use Rattle.std.specs.Vec.Iter.{into_iter_items, into_iter_len, into_iter_steps}
use Rattle.std.specs.declared.vec.IntoIter.{IntoIter}
use Rattle.outside.specs.Causes.{Rose}

pub rose_within : (a b c d : ℕ) → a ≤ b → c ≤ d → Rose b c → Rose a d
rose_within a b c d h k r = omega (arith, h, k, r)

pub ok_also : {T E : Type 0} (r : Result T E) (P Q : T → Type 0) → ((x : T) → P x → Q x) → IfOk r P → IfOk r Q
ok_also (Ok x) P Q f h = f x h
ok_also (Err e) P Q f h = tt

pub err_also : {T E : Type 0} (r : Result T E) (P Q : E → Type 0) → ((e : E) → P e → Q e) → IfErr r P → IfErr r Q
err_also (Ok x) P Q f h = tt
err_also (Err e) P Q f h = f e h

empty : {X : Type 0} (xs : List X) → length xs ≡ 0 → xs ≡ []
empty [] e = refl
empty (x ∷ xs) e = absurd (omega (arith, e))

-- where the next step gives nothing, no element is left
pub none_left : {X Z : Type 0} (s t : IntoIter X Z) (r : Option X) → r ≡ None → into_iter_steps s r t → into_iter_len s ≡ length (into_iter_items s) → into_iter_items s ≡ []
none_left s t r e h k = empty (into_iter_items s) (sym k ∙ (subst (λ o. into_iter_steps s o t) e h).0)
