-- The terms of a form, one after another.
use Rattle.std.proofs.Common.{◌≡◌, ◌∙◌, ◌+◌, ℕ, zero, suc, Ok, Err, List, [], ◌∷◌, drop, slice_get, refl, sym, ap, subst, arith}
use Rattle.std.specs.Prelude.{Result}
use Rattle.std.specs.Result.{IsErrAnd}
use Rattle.gmpl_value.specs.declared.eval_fault.EvalFault.{EvalFault}
use Rattle.gmpl_value.specs.declared.eval_fault.EvalFault.TheVariants.{NoValue, OutOfDomain, Restriction, DivZero, NotWhole, NotANumber, Nonlinear, BadFormat, Depth, TooMany, NoDual, NoFit, NoMemory}
use Rattle.gmpl_value.specs.Outcome.{Faults, GivesAs, Outcome, then_do}
use Rattle.gmpl_functions.specs.Linear.{Terms}
use Rattle.gmpl_data.specs.declared.tables.LoadedModel.{LoadedModel}
use Rattle.gmpl_rows.specs.declared.term.Term.{Term}
use Rattle.gmpl_generate.specs.Rows.{terms_of, term_at}

pub then_faults : {A B : Type 0} (f : EvalFault) (go : A → Outcome B) (answer : Outcome A) → Faults f answer → Faults f (then_do go answer)
then_faults NoMemory go answer is = tt
then_faults NoValue go answer is = ap (then_do go) is
then_faults OutOfDomain go answer is = ap (then_do go) is
then_faults Restriction go answer is = ap (then_do go) is
then_faults DivZero go answer is = ap (then_do go) is
then_faults NotWhole go answer is = ap (then_do go) is
then_faults NotANumber go answer is = ap (then_do go) is
then_faults Nonlinear go answer is = ap (then_do go) is
then_faults BadFormat go answer is = ap (then_do go) is
then_faults Depth go answer is = ap (then_do go) is
then_faults TooMany go answer is = ap (then_do go) is
then_faults NoDual go answer is = ap (then_do go) is
then_faults (NoFit n) go answer is = ap (then_do go) is

pub next_term : (model : LoadedModel) (found : List Term) (ts : Terms) (i : ℕ) → terms_of model found (drop i ts) ≡ then_do (λ more. terms_of model more (drop (suc i) ts)) (term_at model found (slice_get ts i))
next_term model found [] zero = refl
next_term model found [] (suc i) = refl
next_term model found (t ∷ ts) zero = refl
next_term model found (t ∷ ts) (suc i) = next_term model found ts i

pub terms_on : (model : LoadedModel) (found new : List Term) (ts : Terms) (i : ℕ) (answer : Outcome (List Term)) → terms_of model found (drop i ts) ≡ answer → term_at model found (slice_get ts i) ≡ Ok new → terms_of model new (drop (i + 1) ts) ≡ answer
terms_on model found new ts i answer before is =
    let next : i + 1 ≡ suc i = omega arith in
    rw next (sym (next_term model found ts i ∙ ap (then_do (λ more. terms_of model more (drop (suc i) ts))) is) ∙ before)

pub terms_fail : (model : LoadedModel) (found : List Term) (ts : Terms) (i : ℕ) (f : EvalFault) (answer : Outcome (List Term)) → terms_of model found (drop i ts) ≡ answer → Faults f (term_at model found (slice_get ts i)) → Faults f answer
terms_fail model found ts i f answer before is = subst (Faults f) (sym (next_term model found ts i) ∙ before) (then_faults f _ (term_at model found (slice_get ts i)) is)

pub handed_on : {A B : Type 0} (view : A → B) (result : Result A EvalFault) (f : EvalFault) (answer : Outcome B) → IsErrAnd result (λ d. d ≡ f) → Faults f answer → GivesAs view result answer
handed_on view (Ok a) f answer never h = absurd never
handed_on view (Err d) f answer is h = subst (λ d. Faults d answer) (sym is) h
