-- Terms that are scaled in their places, one after another.
use Rattle.std.proofs.Common.{◌≡◌, ◌<◌, ◌≤◌, ℕ, zero, suc, Ok, [], ◌∷◌, length, refl, ap, arith, slice_get, map, None}
use Rattle.rational.specs.Rational.{Rational}
use Rattle.gmpl_value.specs.declared.eval_fault.EvalFault.{EvalFault}
use Rattle.gmpl_value.specs.declared.eval_fault.EvalFault.TheVariants.{NoValue, OutOfDomain, Restriction, DivZero, NotWhole, NotANumber, Nonlinear, BadFormat, Depth, TooMany, NoDual, NoFit, NoMemory}
use Rattle.gmpl_value.specs.Outcome.{Faults, Outcome, then_do}
use Rattle.gmpl_functions.specs.declared.scaling.Scaling.{Scaling}
use Rattle.gmpl_functions.specs.declared.variable.Variable.{Variable}
use Rattle.gmpl_functions.specs.Linear.{Terms}
use Rattle.gmpl_functions.specs.Scalings.{scaled_number, scaled_terms, value_at, with_value_at}

-- the terms from a place on are scaled
abbrev pub scaled_from : Scaling → ℕ → Terms → Outcome Terms
scaled_from s zero ts = scaled_terms s ts
scaled_from s (suc i) [] = Ok []
scaled_from s (suc i) (t ∷ ts) = then_do (λ more. Ok (t ∷ more)) (scaled_from s i ts)

pub scaled_on : (s : Scaling) (i : ℕ) (ts : Terms) (c : Rational) → i < length ts → scaled_number s (value_at ts i) ≡ Ok c → scaled_from s i ts ≡ scaled_from s (suc i) (with_value_at ts i c)
scaled_on s i [] c h is = absurd (omega arith)
scaled_on s zero (t ∷ ts) c h is = ap (then_do (λ d. then_do (λ more. Ok ((t.0, d) ∷ more)) (scaled_terms s ts))) is
scaled_on s (suc i) (t ∷ ts) c h is = ap (then_do (λ more. Ok (t ∷ more))) (scaled_on s i ts c (omega arith) is)

pub then_faults : {A B : Type 0} (f : EvalFault) (go : A → Outcome B) (answer : Outcome A) → Faults f answer → Faults f (then_do go answer)
then_faults NoMemory go answer is = tt
then_faults NoValue go answer is = ap (then_do go) is
then_faults OutOfDomain go answer is = ap (then_do go) is
then_faults Restriction go answer is = ap (then_do go) is
then_faults DivZero go answer is = ap (then_do go) is
then_faults NotWhole go answer is = ap (then_do go) is
then_faults NotANumber go answer is = ap (then_do go) is
then_faults Nonlinear go answer is = ap (then_do go) is
then_faults BadFormat go answer is = ap (then_do go) is
then_faults Depth go answer is = ap (then_do go) is
then_faults TooMany go answer is = ap (then_do go) is
then_faults NoDual go answer is = ap (then_do go) is
then_faults (NoFit n) go answer is = ap (then_do go) is

pub scaled_fails : (s : Scaling) (i : ℕ) (ts : Terms) (f : EvalFault) → i < length ts → Faults f (scaled_number s (value_at ts i)) → Faults f (scaled_from s i ts)
scaled_fails s i [] f h is = absurd (omega arith)
scaled_fails s zero (t ∷ ts) f h is = then_faults f _ (scaled_number s t.1) is
scaled_fails s (suc i) (t ∷ ts) f h is = then_faults f _ (scaled_from s i ts) (scaled_fails s i ts f (omega arith) is)

pub all_scaled : (s : Scaling) (i : ℕ) (ts : Terms) → length ts ≤ i → scaled_from s i ts ≡ Ok ts
all_scaled s zero [] h = refl
all_scaled s zero (t ∷ ts) h = absurd (omega arith)
all_scaled s (suc i) [] h = refl
all_scaled s (suc i) (t ∷ ts) h = ap (then_do (λ more. Ok (t ∷ more))) (all_scaled s i ts (omega arith))

pub length-with_value_at : (ts : Terms) (i : ℕ) (c : Rational) → length (with_value_at ts i c) ≡ length ts
length-with_value_at [] i c = refl
length-with_value_at (t ∷ ts) zero c = refl
length-with_value_at (t ∷ ts) (suc i) c = ap suc (length-with_value_at ts i c)

-- past the end nothing changes
pub nothing_there : (ts : Terms) (i : ℕ) (c : Rational) → slice_get (map (λ (t : Variable × Rational). t.1) ts) i ≡ None → with_value_at ts i c ≡ ts
nothing_there [] i c h = refl
nothing_there (t ∷ ts) zero c h = absurd cc
nothing_there (t ∷ ts) (suc i) c h = ap (λ l. t ∷ l) (nothing_there ts i c h)
