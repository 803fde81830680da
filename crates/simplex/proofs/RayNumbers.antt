-- Rays, number by number.
use Rattle.std.proofs.Common.{◌≡◌, ◌∙◌, ℕ, ◌+◌, ◌<◌, List, [], ◌∷◌, ◌++◌, length, get_or, refl, sym, ap, subst, arith, cond, slice_get}
use Rattle.std.specs.Prelude.{pos, Result, Ok, Err, IfErr, IsErrAnd}
use mathlib.Core.Path.{ap₂}
use Rattle.std.proofs.lemmas.List.{take_all}
use Rattle.std.proofs.lemmas.Option.{slice_get_read}
use Rattle.rational.specs.Rational.{Rational, zero_ℚ, whole, ◌*ℚ◌}
use Rattle.milp.specs.Form.{number_at}
use Rattle.milp.specs.Problem.{Column}
use Rattle.verdicts.specs.Proves.{is_integer}
use Rattle.rational.specs.Denominators.{common_denominator}
use Rattle.basis.specs.Weights.{numbers_from}
use Rattle.basis.proofs.Laws.{length-numbers, numbers-below}
use Rattle.fraction.specs.declared.frac.NoFit.{NoFit}
use Rattle.fraction.specs.Denominators.{IsDenominatorFault}
use Rattle.dictionary.specs.Faults.{IfNoFit}
use Rattle.simplex.specs.Rays.{IsProduct, IsProductFault, IsRayFault, AreScaled, numbers_to_be_whole, denominator_of, whole_ray}
use Rattle.dictionary.specs.declared.fault.Fault.{Fault}
use Rattle.dictionary.specs.declared.fault.Fault.TheVariants as F
use Rattle.simplex.proofs.PointNumbers.{first_numbers, one_more_number, numbers_alike}

pub fault_from : {X : Type 0} (r : Result X Fault) (f : NoFit) (P : NoFit → Type 0) → IsErrAnd r (λ e. e ≡ F.NoFit f) → P f → IfErr r (IfNoFit P)
fault_from (Ok x) f P h p = tt
fault_from (Err e) f P h p = subst (IfNoFit P) (sym h) p

integer_number : (columns : List Column) (xs : List Rational) (j : ℕ) (c : Column) (a r : Rational) → j < length columns → c ≡ get_or columns j c → a ≡ number_at xs j → r ≡ cond c.integer a zero_ℚ
    → r ≡ cond (is_integer (slice_get columns j)) (number_at xs j) zero_ℚ
integer_number columns xs j c a r h is e f = let at = slice_get_read columns (length columns) j c refl h is in f ∙ ap (λ x. cond c.integer x zero_ℚ) e ∙ ap (λ o. cond (is_integer o) (number_at xs j) zero_ℚ) (sym at)

pub one_more_integer : (columns : List Column) (xs : List Rational) (j : ℕ) (c : Column) (a r : Rational) (old new : List Rational) → j < length columns → c ≡ get_or columns j c → a ≡ number_at xs j → r ≡ cond c.integer a zero_ℚ → new ≡ old ++ r ∷ []
    → old ≡ numbers_from 0 j (λ k. cond (is_integer (slice_get columns k)) (number_at xs k) zero_ℚ) → new ≡ numbers_from 0 (j + 1) (λ k. cond (is_integer (slice_get columns k)) (number_at xs k) zero_ℚ)
one_more_integer columns xs j c a r old new h is e f g k = g ∙ one_more_number j (λ m. cond (is_integer (slice_get columns m)) (number_at xs m) zero_ℚ) old r k (integer_number columns xs j c a r h is e f)

pub same_length : (n : ℕ) (r : ℕ → Rational) (xs : List Rational) → xs ≡ numbers_from 0 n r → length xs ≡ n
same_length n r xs e = ap (λ (l : List Rational). length l) e ∙ length-numbers 0 n r

pub same_integers : (columns : List Column) (r : ℕ → Rational) (xs ys : List Rational) → xs ≡ numbers_from 0 (length columns) r → ys ≡ numbers_to_be_whole columns (number_at xs) → ys ≡ numbers_to_be_whole columns r
same_integers columns r xs ys e f = f ∙ ap (λ l. numbers_to_be_whole columns (number_at l)) e
    ∙ numbers_alike (length columns) 0 (λ j. cond (is_integer (slice_get columns j)) (number_at (numbers_from 0 (length columns) r) j) zero_ℚ) (λ j. cond (is_integer (slice_get columns j)) (r j) zero_ℚ)
    (λ j h. ap (λ a. cond (is_integer (slice_get columns j)) a zero_ℚ) (numbers-below (length columns) r j (omega arith)))

pub denominators_fault : (columns : List Column) (r : ℕ → Rational) (xs ys : List Rational) (f : NoFit) → xs ≡ numbers_from 0 (length columns) r → ys ≡ numbers_to_be_whole columns (number_at xs) → IsDenominatorFault ys f → IsRayFault columns r f
denominators_fault columns r xs ys f e g h = IsRayFault.denominators (subst (λ l. IsDenominatorFault l f) (same_integers columns r xs ys e g) h)

is_denominator : (columns : List Column) (r : ℕ → Rational) (xs ys : List Rational) (m : ℕ) (b : Rational) → xs ≡ numbers_from 0 (length columns) r → ys ≡ numbers_to_be_whole columns (number_at xs) → m ≡ common_denominator 1 ys → b ≡ whole (pos m)
    → b ≡ whole (pos (denominator_of columns r))
is_denominator columns r xs ys m b e f g h = h ∙ ap (λ n. whole (pos n)) (g ∙ ap (common_denominator 1) (same_integers columns r xs ys e f))

pub product_fault : (columns : List Column) (r : ℕ → Rational) (xs ys old : List Rational) (m : ℕ) (b : Rational) (f : NoFit) → xs ≡ numbers_from 0 (length columns) r → ys ≡ numbers_to_be_whole columns (number_at xs) → m ≡ common_denominator 1 ys → b ≡ whole (pos m)
    → old ≡ xs → IsProductFault old b f → IsRayFault columns r f
product_fault columns r xs ys old m b f e g h k same fault =
    let all = same ∙ e in
    let inside : fault.index < length columns = (let n = same_length (length columns) r old all in let l = fault.known in omega arith) in
    let P : Rational → Rational → Type 0 = λ u v. IsProduct u v f in
    IsRayFault.product fault.index inside
    (subst (P (r fault.index)) (is_denominator columns r xs ys m b e g h k) (subst (λ u. P u b) (ap (λ l. number_at l fault.index) all ∙ numbers-below (length columns) r fault.index inside) fault.fault))

pub scaled_ray : (columns : List Column) (r : ℕ → Rational) (xs ys old new : List Rational) (m : ℕ) (b : Rational) → xs ≡ numbers_from 0 (length columns) r → ys ≡ numbers_to_be_whole columns (number_at xs) → m ≡ common_denominator 1 ys → b ≡ whole (pos m)
    → old ≡ xs → AreScaled old b new → new ≡ whole_ray columns r
scaled_ray columns r xs ys old new m b e g h k same scaled =
    let n = length columns in
    let all = same ∙ e in
    let size : length new ≡ n = scaled.size ∙ same_length n r old all in
    sym (take_all n new (omega arith)) ∙ first_numbers n new (omega arith)
    ∙ numbers_alike n 0 (number_at new) (λ v. r v *ℚ whole (pos (denominator_of columns r)))
    (λ j l. (let inside : j < length old = (let o = same_length n r old all in omega arith) in
    scaled.numbers j inside ∙ ap₂ (λ u v. u *ℚ v) (ap (λ z. number_at z j) all ∙ numbers-below n r j (omega arith)) (is_denominator columns r xs ys m b e g h k)))
