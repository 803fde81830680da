-- Terms that are put to others, one after another.
use Rattle.std.proofs.Common.{◌≡◌, ◌∙◌, ◌+◌, ℕ, zero, suc, Ok, Err, [], ◌∷◌, drop, slice_get, refl, sym, ap, subst, arith}
use Rattle.std.specs.Prelude.{Result}
use Rattle.std.specs.Result.{IsErrAnd}
use Rattle.gmpl_value.specs.declared.eval_fault.EvalFault.{EvalFault}
use Rattle.gmpl_value.specs.Outcome.{Faults, Follows, Outcome, then_do}
use Rattle.gmpl_functions.specs.declared.terms.Sign.{Sign}
use Rattle.gmpl_functions.specs.Linear.{Terms}
use Rattle.gmpl_functions.specs.Sums.{put_all, put_found}
use Rattle.gmpl_functions.proofs.ScalingSteps.{then_faults}

pub next_put : (sign : Sign) (done ts : Terms) (i : ℕ) → put_all sign done (drop i ts) ≡ then_do (λ more. put_all sign more (drop (suc i) ts)) (put_found sign done (slice_get ts i))
next_put sign done [] zero = refl
next_put sign done [] (suc i) = refl
next_put sign done (t ∷ ts) zero = refl
next_put sign done (t ∷ ts) (suc i) = next_put sign done ts i

pub put_on : (sign : Sign) (done ts new : Terms) (i : ℕ) (answer : Outcome Terms) → put_all sign done (drop i ts) ≡ answer → put_found sign done (slice_get ts i) ≡ Ok new → put_all sign new (drop (i + 1) ts) ≡ answer
put_on sign done ts new i answer before is =
    let next : i + 1 ≡ suc i = omega arith in
    rw next (sym (next_put sign done ts i ∙ ap (then_do (λ more. put_all sign more (drop (suc i) ts))) is) ∙ before)

pub put_fails : (sign : Sign) (done ts : Terms) (i : ℕ) (f : EvalFault) (answer : Outcome Terms) → put_all sign done (drop i ts) ≡ answer → Faults f (put_found sign done (slice_get ts i)) → Faults f answer
put_fails sign done ts i f answer before is = subst (Faults f) (sym (next_put sign done ts i) ∙ before) (then_faults f _ (put_found sign done (slice_get ts i)) is)

pub handed_on : {A B : Type 0} (result : Result A EvalFault) (f : EvalFault) (new : B) (answer : Outcome B) → IsErrAnd result (λ d. d ≡ f) → Faults f answer → Follows result new answer
handed_on (Ok a) f new answer never h = absurd never
handed_on (Err d) f new answer is h = subst (λ d. Faults d answer) (sym is) h
