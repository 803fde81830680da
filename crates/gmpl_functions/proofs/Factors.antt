-- Products with one factor more, and powers of 0, 1 and -1.
use Rattle.std.proofs.Common.{◌≡◌, ◌∙◌, ℕ, zero, suc, ◌+◌, ◌-◌, ◌*◌, ◌%◌, ◌/◌, ◌≤◌, ℤ, pos, negsuc, Result, Ok, Err, refl, sym, ap, subst, arith, unsigned_abs}
use Rattle.std.specs.Prelude.{◌*ℤ◌}
use Rattle.std.specs.Result.{IsErrAnd}
use Rattle.rational.specs.Rational.{Rational, whole, one_ℚ}
use Rattle.rational.proofs.Laws.{same_parts}
use Rattle.fraction.specs.Fits.{part_max}
use Rattle.fraction.specs.Answers.{mul_answer}
use Rattle.fraction.specs.declared.frac.NoFit.{NoFit}
use Rattle.gmpl_value.specs.declared.eval_fault.EvalFault.{EvalFault}
use Rattle.gmpl_value.specs.declared.eval_fault.EvalFault.TheVariants as fault
use Rattle.gmpl_value.specs.Outcome.{Outcome, Faults, Gives}
use Rattle.gmpl_functions.specs.Powers.{product_of, with_factors}

pub one_more : (left less : ℕ) (product next x : Rational) → left ≡ suc less → mul_answer product x ≡ Ok next → with_factors left product x ≡ with_factors less next x
one_more left less product next x is fits = rw is (rw fits refl)

pub no_more : (left less : ℕ) (product x : Rational) (n : NoFit) → left ≡ suc less → mul_answer product x ≡ Err n → with_factors left product x ≡ Err (fault.NoFit n)
no_more left less product x n is fails = rw is (rw fails refl)

pub handed_on : {A : Type 0} (result : Result A EvalFault) (f : EvalFault) (answer : Outcome A) → IsErrAnd result (λ d. d ≡ f) → Faults f answer → Gives result answer
handed_on (Ok a) f answer never h = absurd never
handed_on (Err d) f answer is h = subst (λ d. Faults d answer) (sym is) h

module _ (product : (n m : ℤ) → unsigned_abs (n *ℤ m) ≤ part_max → mul_answer (whole n) (whole m) ≡ Ok (whole (n *ℤ m))) where
  -- a number whose cube is itself
  record Repeats (x : Rational) : Type 0 where
    square : Rational
    one : mul_answer one_ℚ x ≡ Ok x
    two : mul_answer x x ≡ Ok square
    three : mul_answer square x ≡ Ok x

  repeats_whole : (z : ℤ) → unsigned_abs z ≤ 1 → Repeats (whole z)
  repeats_whole (pos zero) h = record { square = whole (pos 0); one = product (pos 1) (pos 0) (omega arith); two = product (pos 0) (pos 0) (omega arith); three = product (pos 0) (pos 0) (omega arith) }
  repeats_whole (pos (suc zero)) h = record { square = whole (pos 1); one = product (pos 1) (pos 1) (omega arith); two = product (pos 1) (pos 1) (omega arith); three = product (pos 1) (pos 1) (omega arith) }
  repeats_whole (pos (suc (suc n))) h = absurd (omega arith)
  repeats_whole (negsuc zero) h = record { square = whole (pos 1); one = product (pos 1) (negsuc 0) (omega arith); two = product (negsuc 0) (negsuc 0) (omega arith); three = product (pos 1) (negsuc 0) (omega arith) }
  repeats_whole (negsuc (suc n)) h = absurd (omega arith)

  two_more : (x : Rational) → Repeats x → (n : ℕ) → product_of x (suc (suc (suc n))) ≡ product_of x (suc n)
  two_more x r n = rw (r.one, r.two, r.three) refl

  by_twos : (x : Rational) → Repeats x → (k m : ℕ) → product_of x (suc m + 2 * k) ≡ product_of x (suc m)
  by_twos x r zero m = let same : suc m + 2 * 0 ≡ suc m = omega arith in ap (product_of x) same
  by_twos x r (suc k) m =
      let more : suc m + 2 * suc k ≡ suc (suc (suc (m + 2 * k))) = omega arith in
      let same : suc (m + 2 * k) ≡ suc m + 2 * k = omega arith in
      ap (product_of x) more ∙ two_more x r (m + 2 * k) ∙ ap (product_of x) same ∙ by_twos x r k m

  pub fewer_factors : (x : Rational) (count : ℕ) → x.denominator ≡ 1 → unsigned_abs x.numerator ≤ 1 → 3 ≤ count → product_of x (2 - count % 2) ≡ product_of x count
  fewer_factors x count d n h =
      let is : x ≡ whole x.numerator = same_parts x (whole x.numerator) refl d in
      let r = subst Repeats (sym is) (repeats_whole x.numerator n) in
      let m = 1 - count % 2 in
      let k = (count - (2 - count % 2)) / 2 in
      let first : 2 - count % 2 ≡ suc m = omega arith in
      let whole_count : suc m + 2 * k ≡ count = omega arith in
      ap (product_of x) first ∙ sym (by_twos x r k m) ∙ ap (product_of x) whole_count
