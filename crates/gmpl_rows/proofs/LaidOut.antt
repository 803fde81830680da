-- The columns of one variable, place by place.
use Rattle.std.proofs.Common.{◌≡◌, ◌∙◌, ◌<◌, ◌+◌, length, get_or, subst, ℕ, zero, suc, Bool, true, false, cond, List, [], ◌∷◌, ◌++◌, drop, slice_get, Some, refl, sym, ap, arith}
use Rattle.std.proofs.lemmas.List.{append_assoc}
use Rattle.gmpl_value.specs.declared.symbol.Symbol.{Symbol}
use Rattle.gmpl_rows.specs.MemberColumn.{MemberColumn, is_used}
use Rattle.gmpl_rows.specs.Problem.{LaidColumn, laid_member, laid_in}
use Rattle.gmpl_rows.specs.declared.declared.Declared.{Declared}

-- an element that a loop takes, given as the list is lent
pub at-place : {X : Type 0} (xs lent : List X) (i : ℕ) (x : X) → lent ≡ xs → i < length lent → x ≡ get_or lent i x → slice_get xs i ≡ Some x
at-place xs lent i x same lt is = subst (λ ys. slice_get ys i ≡ Some x) same (within lent i x lt is)
  where
    within : {X : Type 0} (ys : List X) (j : ℕ) (y : X) → j < length ys → y ≡ get_or ys j y → slice_get ys j ≡ Some y
    within [] j y l e = absurd (omega (arith, l))
    within (z ∷ ys) zero y l e = ap Some (sym e)
    within (z ∷ ys) (suc j) y l e = within ys j y (omega (arith, l)) e

head : {X : Type 0} (x y : X) (xs : List X) → slice_get (x ∷ xs) 0 ≡ Some y → x ≡ y
head x y xs e = cc

next : (v : Declared) (ms : List (List Symbol)) (ks : List MemberColumn) (j : ℕ) (m : List Symbol) (k : MemberColumn) → slice_get ms j ≡ Some m → slice_get ks j ≡ Some k → laid_in v (drop j ms) (drop j ks) ≡ cond (is_used k) (laid_member v m k ∷ laid_in v (drop (j + 1) ms) (drop (j + 1) ks)) (laid_in v (drop (j + 1) ms) (drop (j + 1) ks))
next v [] ks j m k a b = cc
next v (n ∷ ms) [] j m k a b = cc
next v (n ∷ ms) (l ∷ ks) zero m k a b = rw (head n m ms a, head l k ks b) refl
next v (n ∷ ms) (l ∷ ks) (suc j) m k a b = let e : suc j + 1 ≡ suc (j + 1) = omega arith in rw e (next v ms ks j m k a b)

taken : (t : Bool) (laid more all rest : List LaidColumn) (x : LaidColumn) → more ≡ cond t (laid ++ x ∷ []) laid → laid ++ cond t (x ∷ rest) rest ≡ all → more ++ rest ≡ all
taken true laid more all rest x is e = ap (λ (l : List LaidColumn). l ++ rest) is ∙ append_assoc laid (x ∷ []) rest ∙ e
taken false laid more all rest x is e = ap (λ (l : List LaidColumn). l ++ rest) is ∙ e

pub laid-more : (v : Declared) (ms : List (List Symbol)) (ks : List MemberColumn) (j : ℕ) (m : List Symbol) (k : MemberColumn) (laid more all : List LaidColumn) → slice_get ms j ≡ Some m → slice_get ks j ≡ Some k → more ≡ cond (is_used k) (laid ++ laid_member v m k ∷ []) laid → laid ++ laid_in v (drop j ms) (drop j ks) ≡ all → more ++ laid_in v (drop (j + 1) ms) (drop (j + 1) ks) ≡ all
laid-more v ms ks j m k laid more all a b is e =
    taken (is_used k) laid more all (laid_in v (drop (j + 1) ms) (drop (j + 1) ks)) (laid_member v m k) is (ap (λ (l : List LaidColumn). laid ++ l) (sym (next v ms ks j m k a b)) ∙ e)
