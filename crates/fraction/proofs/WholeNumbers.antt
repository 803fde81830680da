-- Sums and products of whole numbers are whole, and fit where their value does.
use Rattle.std.proofs.Common.{◌≡◌, ◌∙◌, ◌≤◌, ◌/◌, Bool, true, false, refl, sym, ap, lit≤, IsTrue}
use Rattle.std.specs.Prelude.{ℤ, pos, ◌*ℤ◌, ◌+ℤ◌, unsigned_abs, cond, Result, Ok, Err}
use Rattle.integer.specs.Gcd.{gcd, gcd_within}
use Rattle.integer.proofs.Laws as Z
use Rattle.rational.specs.Rational.{Rational, whole, ◌+ℚ◌}
use Rattle.rational.proofs.Laws.{whole-mul}
use Rattle.fraction.specs.Fits.{fits, sum_fits, part_max, common_den}
use Rattle.fraction.specs.Answers.{add_answer, mul_answer}
use Rattle.fraction.specs.declared.frac.Op.TheVariants.{Mul}
use Rattle.fraction.specs.declared.frac.NoFit.{NoFit}
use Rattle.fraction.proofs.FracLemmas.{fits_from, sum_from, whole_over}

cond_true : {A : Type 0} (b : Bool) (x y : A) → IsTrue b → cond b x y ≡ x
cond_true true x y h = refl
cond_true false x y h = cc

pub mul_answer-whole : (n m : ℤ) → unsigned_abs (n *ℤ m) ≤ part_max → mul_answer (whole n) (whole m) ≡ Ok (whole (n *ℤ m))
mul_answer-whole n m small =
    let answer : Rational → Result Rational NoFit = λ q. cond (fits q) (Ok q) (Err (record { a = whole n; op = Mul; b = whole m })) in
    ap answer (whole-mul n m) ∙ cond_true (fits (whole (n *ℤ m))) _ _ (fits_from (whole (n *ℤ m)) small (lit≤ tt))

gcd-one : gcd 1 1 ≡ 1
unfolding gcd gcd_within
gcd-one = refl

scale-one : (n : ℤ) → n ≡ n *ℤ pos (1 / gcd 1 1)
scale-one n = rw gcd-one (sym (Z.mul-one n))

sum_whole : (n m : ℤ) → unsigned_abs n ≤ part_max → unsigned_abs m ≤ part_max → unsigned_abs (n +ℤ m) ≤ part_max
    → IsTrue (sum_fits (whole n) (whole m)) × (whole (n +ℤ m) ≡ whole n +ℚ whole m)
sum_whole n m h k l =
    let one : 1 ≡ common_den (whole n) (whole m) = rw gcd-one refl in
    sum_from (whole n) (whole m) (whole (n +ℤ m)) n m (n +ℤ m) 1 (scale-one n) (scale-one m) refl one h k l (lit≤ tt) (sym (whole_over (n +ℤ m)))

pub add_answer-whole : (n m : ℤ) → unsigned_abs n ≤ part_max → unsigned_abs m ≤ part_max → unsigned_abs (n +ℤ m) ≤ part_max → add_answer (whole n) (whole m) ≡ Ok (whole (n +ℤ m))
add_answer-whole n m h k l =
    let s = sum_whole n m h k l in
    cond_true (sum_fits (whole n) (whole m)) _ _ s.0 ∙ ap Ok (sym s.1)

pub ruleset whole_numbers_lemmas = (mul_answer-whole, add_answer-whole)
