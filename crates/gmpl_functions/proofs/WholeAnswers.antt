-- What is answered at whole numbers whose sizes are words of 63 bits.
use Rattle.std.proofs.Common.{◌≡◌, ◌∙◌, ◌≤◌, ◌<◌, ◌*◌, ◌^◌, Bool, true, false, cond, Result, Ok, Err, sym, ap, arith, unsigned_abs, mul-le-mul, to_z, of_z}
use Rattle.std.proofs.lemmas.Int.{ints, unsigned_abs-mul, fits_signed_from_abs, to_z-of_z}
use Rattle.std.specs.Int.{w128}
use Rattle.std.specs.Prelude.{ℤ, neg_ℤ, ◌+ℤ◌, ◌-ℤ◌, ◌*ℤ◌}
use Rattle.rational.specs.Rational.{Rational, whole}
use Rattle.rational.proofs.Laws.{neg_whole}
use Rattle.fraction.specs.Fits.{part_max}
use Rattle.fraction.specs.Answers.{add_answer, mul_answer, sub_answer}

-- a whole number in a word of 128 bits
abbrev pub stored : ℤ → ℤ
stored z = to_z w128 (of_z w128 z)

stored_is : (z : ℤ) → unsigned_abs z ≤ part_max → stored z ≡ z
stored_is z h = to_z-of_z w128 z (fits_signed_from_abs w128 z (omega arith))

stored_by : (join : ℤ → ℤ → ℤ) (x y : ℤ) → unsigned_abs x < 2 ^ 63 → unsigned_abs y < 2 ^ 63 → unsigned_abs (join x y) ≤ part_max → stored (join (stored x) (stored y)) ≡ join x y
stored_by join x y h k l =
    let first = stored_is x (omega arith) in
    let second = stored_is y (omega arith) in
    (λ j. stored (join (first j) (second j))) ∙ stored_is (join x y) l

small_sum : (x y : ℤ) → unsigned_abs x < 2 ^ 63 → unsigned_abs y < 2 ^ 63 → unsigned_abs (x +ℤ y) ≤ part_max
small_sum x y h k = omega (arith, ints)

small_negative : (x : ℤ) → unsigned_abs x < 2 ^ 63 → unsigned_abs (neg_ℤ x) < 2 ^ 63
small_negative x h = omega (arith, ints)

small_product : (x y : ℤ) → unsigned_abs x < 2 ^ 63 → unsigned_abs y < 2 ^ 63 → unsigned_abs (x *ℤ y) ≤ part_max
small_product x y h k =
    let first : unsigned_abs x ≤ 2 ^ 63 = omega arith in
    let second : unsigned_abs y ≤ 2 ^ 63 = omega arith in
    omega (arith, unsigned_abs-mul x y, mul-le-mul first second)

same_answer : {A E : Type 0} (fits : Bool) (x c : A) (e f : E) → cond fits (Ok x) (Err e) ≡ Ok c → cond fits (Ok x) (Err f) ≡ Ok c
same_answer true x c e f is = is
same_answer false x c e f is = absurd cc

module _ (sum : (n m : ℤ) → unsigned_abs n ≤ part_max → unsigned_abs m ≤ part_max → unsigned_abs (n +ℤ m) ≤ part_max → add_answer (whole n) (whole m) ≡ Ok (whole (n +ℤ m))) where
  -- a difference is the sum with the negative
  pub difference : (n m : ℤ) → unsigned_abs n ≤ part_max → unsigned_abs (neg_ℤ m) ≤ part_max → unsigned_abs (n +ℤ neg_ℤ m) ≤ part_max → sub_answer (whole n) (whole m) ≡ Ok (whole (n +ℤ neg_ℤ m))
  difference n m h k l =
      let added = ap (λ q. add_answer (whole n) q) (sym (neg_whole m)) ∙ sum n (neg_ℤ m) h k l in
      same_answer _ _ _ _ _ added

  pub sum_is : (x y : ℤ) (made : Rational) → unsigned_abs x < 2 ^ 63 → unsigned_abs y < 2 ^ 63 → made ≡ whole (stored (stored x +ℤ stored y)) → add_answer (whole x) (whole y) ≡ Ok made
  sum_is x y made h k is =
      let small = small_sum x y h k in
      sum x y (omega arith) (omega arith) small ∙ ap Ok (sym (is ∙ ap whole (stored_by (λ a b. a +ℤ b) x y h k small)))

  pub difference_is : (x y : ℤ) (made : Rational) → unsigned_abs x < 2 ^ 63 → unsigned_abs y < 2 ^ 63 → made ≡ whole (stored (stored x -ℤ stored y)) → sub_answer (whole x) (whole y) ≡ Ok made
  difference_is x y made h k is =
      let less = small_negative y k in
      let small = small_sum x (neg_ℤ y) h less in
      difference x y (omega arith) (omega arith) small ∙ ap Ok (sym (is ∙ ap whole (stored_by (λ a b. a -ℤ b) x y h k small)))

module _ (product : (n m : ℤ) → unsigned_abs (n *ℤ m) ≤ part_max → mul_answer (whole n) (whole m) ≡ Ok (whole (n *ℤ m))) where
  pub product_is : (x y : ℤ) (made : Rational) → unsigned_abs x < 2 ^ 63 → unsigned_abs y < 2 ^ 63 → made ≡ whole (stored (stored x *ℤ stored y)) → mul_answer (whole x) (whole y) ≡ Ok made
  product_is x y made h k is =
      let small = small_product x y h k in
      product x y small ∙ ap Ok (sym (is ∙ ap whole (stored_by (λ a b. a *ℤ b) x y h k small)))
