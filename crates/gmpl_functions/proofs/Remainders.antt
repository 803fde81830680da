-- What is left of a whole number from 0 on by one above 0.
use Rattle.std.proofs.Common.{◌≡◌, ◌∙◌, ◌≤◌, ◌<◌, ◌+◌, ◌*◌, ◌/◌, ◌%◌, ◌^◌, ℕ, zero, suc, true, false, cond, Result, Ok, Err, sym, ap, arith, unsigned_abs, div-add-mod', mod-lt, to_z}
use Rattle.std.proofs.Math.Nat.{div-div-eq-div-mul, div-le_self, mul-div_cancel'}
use Rattle.std.proofs.lemmas.Bool.Decides.{nat_tests}
use Rattle.std.proofs.lemmas.Int.{ints, to_z_pos}
use Rattle.std.specs.Int.{w128}
use Rattle.std.specs.Prelude.{ℤ, pos, neg_ℤ, ◌+ℤ◌, ◌*ℤ◌, min, max}
use Rattle.integer.specs.Gcd.{gcd}
use Rattle.integer.proofs.Laws.{ring, gcd-is}
use Rattle.rational.specs.Rational.{Rational, over, whole, inv_ℚ, floor_ℚ, ◌*ℚ◌, ◌/ℚ◌}
use Rattle.rational.specs.Compare.{is_zero}
use Rattle.rational.proofs.Laws.{value_mul, value_over, value_same, value_self}
use Rattle.fraction.specs.Fits.{fits, part_max}
use Rattle.fraction.specs.Answers.{add_answer, div_answer, mul_answer, sub_answer}
use Rattle.fraction.specs.declared.frac.Op.TheVariants.{Div}
use Rattle.fraction.specs.declared.frac.NoFit.{NoFit}
use Rattle.gmpl_value.specs.Outcome.{fitting, then_do}
use Rattle.gmpl_value.specs.declared.eval_fault.EvalFault.TheVariants.{DivZero}
use Rattle.gmpl_functions.specs.Numbers.{mod_of, quotient_of}
use Rattle.gmpl_functions.proofs.WholeAnswers.{difference}

inverse_is : (k : ℕ) → inv_ℚ (whole (pos (suc k))) ≡ over (pos 1) (suc k)
unfolding inv_ℚ
inverse_is k =
    let one : min (suc k) 1 ≡ 1 = omega arith in
    ap (λ n. over (pos (n * 1)) (suc k)) one

quotient_is : (n k : ℕ) → whole (pos n) /ℚ whole (pos (suc k)) ≡ over (pos n) (suc k)
quotient_is n k =
    let some : 0 < suc k = omega arith in
    let same : (pos n *ℤ pos 1) *ℤ pos (suc k) ≡ pos n *ℤ (pos 1 *ℤ pos (suc k)) = simp ring in
    ap (λ i. whole (pos n) *ℚ i) (inverse_is k) ∙ value_same _ _ _ _ _ _ (value_mul _ _ _ _ _ _ (value_self (whole (pos n))) (value_over (pos 1) (suc k) some)) (value_over (pos n) (suc k) some) same

parts_fit : (q : Rational) → unsigned_abs q.numerator ≤ part_max → q.denominator ≤ part_max → fits q ≡ true
parts_fit q h k = grind (arith, nat_tests)

quotient_fits : (n d : ℕ) → 0 < d → n ≤ part_max → d ≤ part_max → fits (over (pos n) d) ≡ true
unfolding over
quotient_fits n d some h k =
    let g = gcd n (max 1 d) in
    let top : max 1 d ≡ d = omega arith in
    parts_fit (over (pos n) d) (omega (arith, div-le_self n g)) (omega (arith, top, div-le_self (max 1 d) g))

quotient_floor : (n d : ℕ) → 0 < d → floor_ℚ (over (pos n) d) ≡ pos (n / d)
unfolding over
quotient_floor n d some =
    let g = gcd n (max 1 d) in
    let top : max 1 d ≡ d = omega arith in
    ap pos (div-div-eq-div-mul n g (max 1 d / g) ∙ ap (λ m. n / m) (mul-div_cancel' g (gcd-is n (max 1 d)).1 ∙ top))

divided : (n k : ℕ) → n ≤ part_max → suc k ≤ part_max → div_answer (whole (pos n)) (whole (pos (suc k))) ≡ Ok (over (pos n) (suc k))
divided n k h l =
    let answer : Rational → Result Rational NoFit = λ q. cond (fits q) (Ok q) (Err (record { a = whole (pos n); op = Div; b = whole (pos (suc k)) })) in
    let some : 0 < suc k = omega arith in
    ap answer (quotient_is n k) ∙ ap (λ t. cond t (Ok (over (pos n) (suc k))) (Err (record { a = whole (pos n); op = Div; b = whole (pos (suc k)) }))) (quotient_fits n (suc k) some h l)

divided_by : (n k : ℕ) → n ≤ part_max → suc k ≤ part_max → quotient_of (whole (pos n)) (whole (pos (suc k))) ≡ Ok (over (pos n) (suc k))
divided_by n k h l =
    let some : is_zero (whole (pos (suc k))) ≡ false = grind (arith, nat_tests) in
    ap (λ t. cond t (Err DivZero) (fitting (div_answer (whole (pos n)) (whole (pos (suc k)))))) some ∙ ap fitting (divided n k h l)

module _ (sum : (n m : ℤ) → unsigned_abs n ≤ part_max → unsigned_abs m ≤ part_max → unsigned_abs (n +ℤ m) ≤ part_max → add_answer (whole n) (whole m) ≡ Ok (whole (n +ℤ m))) (product : (n m : ℤ) → unsigned_abs (n *ℤ m) ≤ part_max → mul_answer (whole n) (whole m) ≡ Ok (whole (n *ℤ m))) where
  remainder : (n k : ℕ) → n ≤ part_max → suc k ≤ part_max → mod_of (whole (pos n)) (whole (pos (suc k))) ≡ Ok (whole (pos (n % suc k)))
  remainder n k h l =
      let parts : n / suc k * suc k + n % suc k ≡ n = div-add-mod' n (suc k) in
      let taken : unsigned_abs (pos (suc k) *ℤ pos (n / suc k)) ≤ part_max = omega (arith, ints) in
      let some : 0 < suc k = omega arith in
      let left : pos n +ℤ neg_ℤ (pos (suc k) *ℤ pos (n / suc k)) ≡ pos (n % suc k) = omega (arith, ints) in
      let negative : unsigned_abs (neg_ℤ (pos (suc k) *ℤ pos (n / suc k))) ≤ part_max = omega (arith, ints) in
      let small : unsigned_abs (pos n +ℤ neg_ℤ (pos (suc k) *ℤ pos (n / suc k))) ≤ part_max = omega (arith, ints) in
      ap (then_do (λ q. then_do (λ p. fitting (sub_answer (whole (pos n)) p)) (fitting (mul_answer (whole (pos (suc k))) (whole (floor_ℚ q)))))) (divided_by n k h l)
      ∙ ap (λ z. then_do (λ p. fitting (sub_answer (whole (pos n)) p)) (fitting (mul_answer (whole (pos (suc k))) (whole z)))) (quotient_floor n (suc k) some)
      ∙ ap (λ r. then_do (λ p. fitting (sub_answer (whole (pos n)) p)) (fitting r)) (product (pos (suc k)) (pos (n / suc k)) taken)
      ∙ ap fitting (difference sum (pos n) (pos (suc k) *ℤ pos (n / suc k)) h negative small)
      ∙ ap (λ z. Ok (whole z)) left

  pub left_is : (n d : ℕ) (left : Rational) → 0 < d → n < 2 ^ 63 → d < 2 ^ 63 → left ≡ whole (to_z w128 (n % d)) → mod_of (whole (pos n)) (whole (pos d)) ≡ Ok left
  left_is n zero left some h k is = absurd (omega arith)
  left_is n (suc d) left some h k is =
      let below : n % suc d < suc d = mod-lt n some in
      let held : to_z w128 (n % suc d) ≡ pos (n % suc d) = to_z_pos w128 (n % suc d) (omega arith) in
      remainder n d (omega arith) (omega arith) ∙ ap Ok (sym (is ∙ ap whole held))
