-- Rows, number by number.
use Rattle.std.proofs.Common.{◌≡◌, ◌∙◌, ℕ, zero, suc, ◌+◌, ◌<◌, ◌≤◌, ◌≢◌, List, [], ◌∷◌, length, get_or, set, refl, sym, ap, subst, arith}
use Rattle.std.proofs.lemmas.List.{length-set, get_or-set_same, get_or-set_other}
use Rattle.std.proofs.Math.Decide.{ℕ_discrete}
use Rattle.std.specs.Prelude.{negsuc, cond, Bool, true, false, Result, Ok, Err, IfOk, IfErr, IsErrAnd}
use mathlib.Core.Path.{ap₂}
use Rattle.rational.specs.Rational.{Rational, zero_ℚ, whole, neg_ℚ, inv_ℚ, ◌+ℚ◌, ◌*ℚ◌, ◌/ℚ◌}
use Rattle.rational.proofs.Laws as Q
use Rattle.milp.specs.Form.{number_at}
use Rattle.verdicts.proofs.Laws.{minus_one-mul}
use Rattle.rational.specs.Compare.{is_zero}
use Rattle.fraction.specs.Fits.{fits}
use Rattle.fraction.specs.Answers.{mul_add_answer, result_fits}
use Rattle.fraction.specs.declared.frac.Op.TheVariants.{Add, Mul}
use Rattle.fraction.specs.declared.frac.NoFit.{NoFit}
use Rattle.dictionary.specs.Faults.{IfNoFit}
use Rattle.dictionary.specs.declared.fault.Fault.{Fault}
use Rattle.dictionary.specs.declared.fault.Fault.TheVariants.{NoFit as no_fit, NoMemory as no_memory}
use Rattle.dictionary.specs.Rows.{IsSolved, IsSubstituted, IsQuotient, IsSolvingFault, IsProductOrSum, IsSubstitutionFault}

other_default : (xs : List Rational) (i : ℕ) (a b : Rational) → i < length xs → get_or xs i a ≡ get_or xs i b
other_default [] i a b h = absurd (omega arith)
other_default (x ∷ xs) zero a b h = refl
other_default (x ∷ xs) (suc i) a b h = other_default xs i a b (omega arith)

pub read_number : (xs : List Rational) (i : ℕ) (a : Rational) → i < length xs → a ≡ get_or xs i a → a ≡ number_at xs i
read_number xs i a h e = e ∙ other_default xs i a zero_ℚ h

pub err_from : {X E : Type 0} (r : Result X E) (e : E) (P : E → Type 0) → IsErrAnd r (λ d. d ≡ e) → P e → IfErr r P
err_from (Ok u) e P h p = tt
err_from (Err d) e P h p = subst P (sym h) p

-- what a fault tells follows it into other words
pub handed_on : (P Q : NoFit → Type 0) (f : Fault) → ((e : NoFit) → P e → Q e) → IfNoFit P f → IfNoFit Q f
handed_on P Q (no_fit e) h p = h e p
handed_on P Q no_memory h p = tt

-- ---- a row solved

pub minus_one_over : (k : Rational) → neg_ℚ (whole (negsuc 0) /ℚ k) ≡ inv_ℚ k
minus_one_over k = ap neg_ℚ (minus_one-mul (inv_ℚ k)) ∙ Q.neg_neg (inv_ℚ k)

-- ---- a row whose number is 0 there stays

pub substituted_zero : (old ss : List Rational) (at : ℕ) (k : Rational) (t : Bool) → k ≡ number_at old at → t ≡ is_zero k → t ≡ true → IsSubstituted old ss at old
substituted_zero old ss at k t e f g = record {
  size = refl;
  at_place = zero ∙ sym (ap (λ u. u *ℚ number_at ss at) zero ∙ Q.zero-mul _);
  others = λ c l n. sym (ap (λ u. number_at old c +ℚ u *ℚ number_at ss c) zero ∙ ap (λ u. number_at old c +ℚ u) (Q.zero-mul _) ∙ Q.add-zero _);
}
  where
    zero : number_at old at ≡ zero_ℚ
    zero = sym e ∙ Q.zero_true k (sym f ∙ g)

-- ---- a product and a sum at once

abbrev answer_by : Bool → Bool → Rational → Rational → Rational → Result Rational NoFit
answer_by t u q a b = cond t (Ok (q *ℚ a +ℚ b)) (cond u (Err (record { a = q *ℚ a; op = Add; b = b })) (Err (record { a = q; op = Mul; b = a })))

pub mul_add_value : (q a b : Rational) (r : Result Rational NoFit) → r ≡ mul_add_answer q a b → IfOk r (λ v. v ≡ q *ℚ a +ℚ b)
mul_add_value q a b r e = let P : Result Rational NoFit → Type 0 = λ s. IfOk s (λ v. v ≡ q *ℚ a +ℚ b) in subst P (sym e) (go (fits (q *ℚ a +ℚ b)) (fits (q *ℚ a)))
  where
    go : (t u : Bool) → IfOk (answer_by t u q a b) (λ v. v ≡ q *ℚ a +ℚ b)
    go true u = refl
    go false true = tt
    go false false = tt

pub mul_add_fault : (q a b : Rational) (r : Result Rational NoFit) → r ≡ mul_add_answer q a b → IfErr r (λ e. result_fits e ≡ false) → IfErr r (IsProductOrSum q a b)
mul_add_fault q a b r e f = let P : Result Rational NoFit → Type 0 = λ s. IfErr s (λ g. result_fits g ≡ false) in let R : Result Rational NoFit → Type 0 = λ s. IfErr s (IsProductOrSum q a b) in
    subst R (sym e) (go (fits (q *ℚ a +ℚ b)) (fits (q *ℚ a)) (subst P e f))
  where
    go : (t u : Bool) → IfErr (answer_by t u q a b) (λ g. result_fits g ≡ false) → IfErr (answer_by t u q a b) (IsProductOrSum q a b)
    go true u h = tt
    go false true h = IsProductOrSum.sum refl h
    go false false h = IsProductOrSum.product refl h
