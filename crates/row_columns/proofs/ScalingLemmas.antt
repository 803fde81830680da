-- The scale of a row's whole form is not 0, and what is scaled keeps its order.
use Rattle.std.proofs.Common.{◌≡◌, ◌∙◌, ◌<◌, ◌≤◌, ◌≢◌, ℕ, zero, suc, ◌+◌, ◌*◌, ◌/◌, ◌&&◌, ◌==◌, not, nat_le, nat_lt, Bool, true, false, cond, List, [], ◌∷◌, length, get_or, slice_get, Option, Some, None, drop, mul-pos, refl, sym, ap, subst, arith}
use Rattle.std.specs.Prelude.{ℤ, pos, negsuc, unsigned_abs, int_lt, neg_ℤ, Result, Ok, Err, IfOk, IfErr, IfSome, IfNone, IsErrAnd}
use Rattle.std.proofs.Math.Nat.{pos_of_dvd_of_pos, le_of_dvd}
use Rattle.std.proofs.lemmas.Bool.{and_parts, and_from, not-true, not_from_false, false_from_ne_true, ne_eqb, eqb-false, cond-false, le-ltb}
use Rattle.std.proofs.lemmas.Option.{slice_get_read}
use Rattle.std.proofs.lemmas.List.{drop_more}
use Rattle.integer.specs.Gcd.{gcd}
use Rattle.integer.proofs.Laws.{gcd-is, gcd_end, gcd_pos, lowest_over}
use Rattle.rational.specs.Rational.{Rational, whole, zero_ℚ, one_ℚ, neg_ℚ, abs_ℚ, inv_ℚ, ◌*ℚ◌}
use Rattle.rational.specs.Compare.{is_zero, is_whole}
use Rattle.rational.specs.Denominators.{common_denominator}
use Rattle.rational.proofs.Laws as Q
use Rattle.milp.specs.Form.{Entry}
use Rattle.milp.specs.Problem.{Problem}
use Rattle.verdicts.specs.WeightedSums.{scaled}
use Rattle.verdicts.specs.Proves.{is_integer, is_whole_form}
use Rattle.fraction.specs.declared.frac.NoFit.{NoFit}
use Rattle.fraction.specs.Denominators.{IsDenominatorFault}
use Rattle.fraction.specs.Fits.{fits}
use Rattle.fraction.specs.Answers.{mul_answer, div_answer}
use Rattle.instance.specs.WellFormed.{are_entries_from, are_entries}
use Rattle.row_columns.specs.RowForms.{coefficients, common_numerator, scale_of, IsScalingFault, HasNoForm}
use Rattle.row_columns.specs.Scaling.{are_on_integers, scale_between, IsScaleFault, IsUnfitProduct, IsUnfitForm}

-- ---- numerators

abs_of : (n : ℤ) (x : Rational) → x.numerator ≡ n → (cond (int_lt n (pos 0)) (neg_ℚ x) x).numerator ≡ pos (unsigned_abs n)
unfolding neg_ℚ
abs_of (pos k) x e = ap (λ (q : Rational). q.numerator) (cond-false (int_lt (pos k) (pos 0)) (neg_ℚ x) x (le-ltb k 0 (omega arith))) ∙ e
abs_of (negsuc k) x e = ap neg_ℤ e

pub abs_numerator : (a : Rational) → (abs_ℚ a).numerator ≡ pos (unsigned_abs a.numerator)
abs_numerator a = abs_of a.numerator a refl

gcd_fits : (m n b : ℕ) → m ≤ b → n ≤ b → gcd m n ≤ b
gcd_fits m zero b h k = subst (λ g. g ≤ b) (sym (gcd_end m)) h
gcd_fits m (suc n) b h k = let l : gcd m (suc n) ≤ suc n = le_of_dvd (omega arith) (gcd-is m (suc n)).1 in omega (arith, l, k)

gcd_some : (m n : ℕ) → 0 < m → 0 < gcd m n
gcd_some m n h = pos_of_dvd_of_pos (gcd-is m n).0 h

numerator_some : (m : ℕ) (numbers : List Rational) → 0 < m → 0 < common_numerator m numbers
numerator_some m [] h = h
numerator_some m (a ∷ rest) h = numerator_some (gcd m (unsigned_abs a.numerator)) rest (gcd_some m (unsigned_abs a.numerator) h)

above_zero : (n : ℕ) → not (n == 0) ≡ true → 0 < n
above_zero n h = let k = eqb-false n 0 (not-true (n == 0) h) in omega (arith, k)

pub record IsFirst (least n : ℕ) (e : Entry) (es : List Entry) : Type 0 where
  pub low : nat_le least e.column ≡ true
  pub high : nat_lt e.column n ≡ true
  pub some : not (is_zero e.coefficient) ≡ true
  pub rest : are_entries_from (e.column + 1) n es ≡ true

pub first_of : (least n : ℕ) (e : Entry) (es : List Entry) → are_entries_from least n (e ∷ es) ≡ true → IsFirst least n e es
first_of least n e es h =
    let low = and_parts _ _ h in
    let high = and_parts _ _ low.1 in
    let some = and_parts _ _ high.1 in
    record { low = low.0; high = high.0; some = some.0; rest = some.1 }

form_numerator_some : (n : ℕ) (form : List Entry) → form ≢ [] → are_entries_from 0 n form ≡ true → 0 < common_numerator 0 (coefficients form)
form_numerator_some n [] some h = absurd (some refl)
form_numerator_some n (e ∷ es) some h = numerator_some (gcd 0 (unsigned_abs e.coefficient.numerator)) (coefficients es) (gcd_pos 0 (unsigned_abs e.coefficient.numerator) (above_zero (unsigned_abs e.coefficient.numerator) (first_of 0 n e es h).some))

-- ---- one more numerator

pub one_more_numerator : (numbers : List Rational) (i : ℕ) (a : Rational) (common n more all : ℕ) → i < length numbers → a ≡ get_or numbers i a → n ≡ unsigned_abs a.numerator → more ≡ gcd common n → common_numerator common (drop i numbers) ≡ all → common_numerator more (drop (i + 1) numbers) ≡ all
one_more_numerator numbers i a common n more all h is size step done =
    let rest = drop (i + 1) numbers in
    let there : drop i numbers ≡ a ∷ rest = drop_more numbers i a h ∙ ap (λ x. x ∷ rest) (sym is) in
    ap (λ m. common_numerator m rest) (step ∙ ap (gcd common) size) ∙ sym (ap (common_numerator common) there) ∙ done

pub more_fits : (common n more b : ℕ) → more ≡ gcd common n → common ≤ b → n ≤ b → more ≤ b
more_fits common n more b step h k = subst (λ m. m ≤ b) (sym step) (gcd_fits common n b h k)

denominator_some : (m : ℕ) (numbers : List Rational) → 0 < m → 0 < common_denominator m numbers
denominator_some m [] h = h
denominator_some m (a ∷ rest) h = denominator_some (m * (a.denominator / gcd m a.denominator)) rest (mul-pos h (lowest_over (pos m) a.denominator a.lowest.positive).positive)

-- ---- numbers that are not 0

not_zero : (a : Rational) → is_zero a ≡ false → ¬ (a.numerator ≡ pos 0)
not_zero a h e = eqb-false (unsigned_abs a.numerator) 0 h (ap unsigned_abs e)

product_some : (w a : Rational) → is_zero w ≡ false → is_zero a ≡ false → is_zero (w *ℚ a) ≡ false
product_some w a h k = false_from_ne_true (is_zero (w *ℚ a)) never
  where
    is_none : is_zero (w *ℚ a) ≡ true → a ≡ zero_ℚ
    is_none t =
        sym (Q.inv_left w a (not_zero w h))
        ∙ sym (Q.mul_assoc w (inv_ℚ w) a)
        ∙ ap (λ y. y *ℚ a) (Q.mul_comm w (inv_ℚ w))
        ∙ Q.mul_assoc (inv_ℚ w) w a
        ∙ ap (λ y. inv_ℚ w *ℚ y) (Q.zero_true (w *ℚ a) t)
        ∙ Q.mul-zero (inv_ℚ w)

    never : is_zero (w *ℚ a) ≡ true → ⊥
    never t = not_zero a k (ap (λ (q : Rational). q.numerator) (is_none t))

whole_some : (n : ℕ) → 0 < n → is_zero (whole (pos n)) ≡ false
whole_some n h = ne_eqb n 0 (λ e. omega (arith, e, h))

inverse_some : (a : Rational) → is_zero a ≡ false → is_zero (inv_ℚ a) ≡ false
inverse_some a h = false_from_ne_true (is_zero (inv_ℚ a)) never
  where
    one_none : is_zero (inv_ℚ a) ≡ true → one_ℚ ≡ zero_ℚ
    one_none t = sym (Q.mul-inv a (not_zero a h)) ∙ ap (λ y. a *ℚ y) (Q.zero_true (inv_ℚ a) t) ∙ Q.mul-zero a

    never : is_zero (inv_ℚ a) ≡ true → ⊥
    never t = not_zero one_ℚ refl (ap (λ (q : Rational). q.numerator) (one_none t))

scale_some : (numbers : List Rational) → 0 < common_numerator 0 numbers → is_zero (scale_between numbers) ≡ false
scale_some numbers h = product_some (whole (pos (common_denominator 1 numbers))) (inv_ℚ (whole (pos (common_numerator 0 numbers)))) (whole_some (common_denominator 1 numbers) (denominator_some 1 numbers (omega arith)))
    (inverse_some (whole (pos (common_numerator 0 numbers))) (whole_some (common_numerator 0 numbers) h))

-- ---- a scaled form

scaled_entries : (w : Rational) (least n : ℕ) (es : List Entry) → is_zero w ≡ false → are_entries_from least n es ≡ true → are_entries_from least n (scaled w es) ≡ true
scaled_entries w least n [] h k = refl
scaled_entries w least n (e ∷ es) h k =
    let first = first_of least n e es k in
    and_from _ _ first.low (and_from _ _ first.high (and_from _ _ (not_from_false _ (product_some w e.coefficient h (not-true _ first.some))) (scaled_entries w (e.column + 1) n es h first.rest)))

neither : (x t y z : Bool) → (t && y) ≡ false → (y ≡ false → z ≡ false) → ((x && t) && z) ≡ false
neither false t y z h f = refl
neither true false y z h f = refl
neither true true y z h f = f h

not_on_integers : (p : Problem) (w : Rational) (es : List Entry) → are_on_integers p es ≡ false → is_whole_form p (scaled w es) ≡ false
not_on_integers p w [] h = h
not_on_integers p w (e ∷ es) h = neither (is_whole (w *ℚ e.coefficient)) (is_integer (slice_get p.columns e.column)) (are_on_integers p es) (is_whole_form p (scaled w es)) h (not_on_integers p w es)

pub product_unfit : (w : Rational) (es : List Entry) (i : ℕ) (e : Entry) (a : Rational) (f : NoFit) → i < length es → e ≡ get_or es i e → a ≡ e.coefficient → mul_answer w a ≡ Err f → IsUnfitProduct w es
product_unfit w es i e a f h is same unfit = record { place = i; entry = e; is_entry = slice_get_read es (length es) i e refl h is; fault = f; unfit = subst (λ b. mul_answer w b ≡ Err f) same unfit }

-- ---- the scale and its faults

fault_kept : {X : Type 0} (r : Result X NoFit) (e : NoFit) (P : NoFit → Type 0) → IsErrAnd r (λ d. d ≡ e) → P e → IfErr r P
fault_kept (Ok u) e P h p = tt
fault_kept (Err d) e P h p = subst P (sym h) p

pub divisor_some : (numbers : List Rational) (n : ℕ) (q : Rational) → 0 < common_numerator 0 numbers → n ≡ common_numerator 0 numbers → q ≡ whole (pos n) → q.numerator ≢ pos 0
divisor_some numbers n q some same is e = not_zero (whole (pos n)) (whole_some n (subst (λ m. 0 < m) (sym same) some)) (ap (λ (a : Rational). a.numerator) (sym is) ∙ e)

answer_made : (b : Bool) (q : Rational) (f : NoFit) (r : Result Rational NoFit) → r ≡ cond b (Ok q) (Err f) → IfOk r (λ v. v ≡ q)
answer_made true q f r e = subst (λ s. IfOk s (λ v. v ≡ q)) (sym e) refl
answer_made false q f r e = subst (λ s. IfOk s (λ v. v ≡ q)) (sym e) tt

answer_unfit : (r : Result Rational NoFit) (P : NoFit → Type 0) → ((e : NoFit) → r ≡ Err e → P e) → IfErr r P
answer_unfit (Ok a) P f = tt
answer_unfit (Err e) P f = f e refl

module _ (numbers : List Rational) (m n : ℕ) (above below : Rational) (r : Result Rational NoFit) (m_is : m ≡ common_denominator 1 numbers) (n_is : n ≡ common_numerator 0 numbers) (above_is : above ≡ whole (pos m)) (below_is : below ≡ whole (pos n)) (is : r ≡ div_answer above below) where
  quotient : r ≡ div_answer (whole (pos (common_denominator 1 numbers))) (whole (pos (common_numerator 0 numbers)))
  quotient = is ∙ ap (λ a. div_answer a below) (above_is ∙ ap (λ k. whole (pos k)) m_is) ∙ ap (div_answer (whole (pos (common_denominator 1 numbers)))) (below_is ∙ ap (λ k. whole (pos k)) n_is)

  pub scale_made : IfOk r (λ by. by ≡ scale_between numbers)
  scale_made = answer_made (fits (scale_between numbers)) (scale_between numbers) _ r quotient

  pub scale_unfit : IfErr r (IsScaleFault numbers)
  scale_unfit = answer_unfit r (IsScaleFault numbers) (λ e h. IsScaleFault.of_quotient (sym quotient ∙ h))

pub denominator_unfit : {X : Type 0} (r : Result X NoFit) (e : NoFit) (numbers : List Rational) → IsErrAnd r (λ d. d ≡ e) → IsDenominatorFault numbers e → IfErr r (IsScaleFault numbers)
denominator_unfit r e numbers h f = fault_kept r e (IsScaleFault numbers) h (IsScaleFault.of_denominator f)

-- ---- the whole form

pub numbers_some : (n : ℕ) (form : List Entry) (numbers : List Rational) → numbers ≡ coefficients form → form ≢ [] → are_entries n form ≡ true → 0 < common_numerator 0 numbers
numbers_some n form numbers is some h = subst (λ ns. 0 < common_numerator 0 ns) (sym is) (form_numerator_some n form some h)

pub scale_unfit_form : (form : List Entry) (numbers : List Rational) (e : NoFit) → numbers ≡ coefficients form → IsScaleFault numbers e → IsUnfitForm form
scale_unfit_form form numbers e is (IsScaleFault.of_denominator f) = record { fault = e; unfit = IsScalingFault.of_denominator (subst (λ ns. IsDenominatorFault ns e) is f) }
scale_unfit_form form numbers e is (IsScaleFault.of_quotient f) = record { fault = e; unfit = IsScalingFault.of_scale (subst (λ ns. div_answer (whole (pos (common_denominator 1 ns))) (whole (pos (common_numerator 0 ns))) ≡ Err e) is f) }

pub by_is : (form : List Entry) (numbers : List Rational) (by : Rational) → numbers ≡ coefficients form → by ≡ scale_between numbers → by ≡ scale_of form
by_is form numbers by is made = made ∙ ap scale_between is

product_unfit_form : (form : List Entry) (by : Rational) → by ≡ scale_of form → IsUnfitProduct by form → IsUnfitForm form
product_unfit_form form by is u = record { fault = u.fault; unfit = IsScalingFault.of_product u.place u.entry u.is_entry (subst (λ w. mul_answer w u.entry.coefficient ≡ Err u.fault) is u.unfit) }

if_none : {A E : Type 0} (r : Result (Option A) E) (P Q : Type 0) → (P → Q) → IfOk r (λ o. IfNone o P) → IfOk r (λ o. IfNone o Q)
if_none (Err e) P Q f h = tt
if_none (Ok None) P Q f h = f h
if_none (Ok (Some a)) P Q f h = tt

pub if_some : {A E : Type 0} (r : Result (Option A) E) (P Q : A → Type 0) → ((a : A) → P a → Q a) → IfOk r (λ o. IfSome o P) → IfOk r (λ o. IfSome o Q)
if_some (Err e) P Q f h = tt
if_some (Ok None) P Q f h = tt
if_some (Ok (Some a)) P Q f h = f a h

pub form_unfit : {A E : Type 0} (r : Result (Option A) E) (form : List Entry) (by : Rational) → by ≡ scale_of form → IfOk r (λ o. IfNone o (IsUnfitProduct by form)) → IfOk r (λ o. IfNone o (IsUnfitForm form))
form_unfit r form by is h = if_none r (IsUnfitProduct by form) (IsUnfitForm form) (product_unfit_form form by is) h

pub scaled_in_order : (n : ℕ) (form made : List Entry) (numbers : List Rational) (by : Rational) → 0 < common_numerator 0 numbers → by ≡ scale_between numbers → are_entries n form ≡ true → made ≡ scaled by form → are_entries n made ≡ true
scaled_in_order n form made numbers by some is h made_is = ap (are_entries n) made_is ∙ scaled_entries by 0 n form (ap is_zero is ∙ scale_some numbers some) h

pub no_integers : (p : Problem) (form : List Entry) → are_on_integers p form ≡ false → HasNoForm p form
no_integers p form h = HasNoForm.not_whole (not_on_integers p (scale_of form) form h)

pub no_fit : (p : Problem) (form : List Entry) → IsUnfitForm form → HasNoForm p form
no_fit p form u = HasNoForm.not_fitting u.fault u.unfit
