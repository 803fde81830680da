-- Where all operations fit, the numbers at a variable are those of the cut.
use Rattle.std.proofs.Common.{◌≡◌, ◌∙◌, ℕ, refl, sym, ap, subst, Bool, true, false, cond, Result, Ok, Err}
use Rattle.std.specs.Prelude.{pos, IfOk, if◌then◌else◌}
use Rattle.rational.specs.Rational.{Rational, zero_ℚ, one_ℚ, neg_ℚ, inv_ℚ, ◌+ℚ◌, ◌-ℚ◌, ◌*ℚ◌, ◌/ℚ◌, ◌<ℚ◌, ◌≤ℚ◌}
use Rattle.rational.specs.Compare.{is_at_most, is_negative}
use Rattle.rational.proofs.Laws as Q
use Rattle.rational.proofs.Laws.{field, signs, less_true, less_false}
use Rattle.milp.specs.Points.{IsWhole}
use Rattle.fraction.specs.declared.frac.NoFit.{NoFit}
use Rattle.fraction.specs.Answers.{sub_answer, mul_answer, div_answer}
use Rattle.instance.specs.Sums.{and_then}
use Rattle.verdicts.specs.WeightedSums.{coefficient_of}
use Rattle.basis.specs.System.{unit_form}
use Rattle.basis.specs.declared.Place.{Place}
use Rattle.basis.proofs.Laws.{above_some}
use Rattle.gomory.specs.Cuts.{distance_sign, fractional_part, remainder}
use Rattle.gomory.specs.Numbers.{scale_at, number_at_variable}
use Rattle.gomory.specs.Faults.{part_answer, scale_answer, remainder_answer, share_answer, both_answer, low_answer, high_answer, signed_answer, role_answer, number_answer}
use Rattle.gomory.specs.declared.scale.Scale.{Scale}
use Rattle.gomory.specs.declared.numbers.RowVariable.{RowVariable}
use Rattle.gomory.specs.declared.numbers.Role.{Role}
use Rattle.gomory.specs.declared.numbers.Role.TheVariants.{OfCut, OfLow, OfHigh, OfSplit}
use Rattle.gomory.proofs.FractionalParts.{part_above, part_lt, difference_above}
use Rattle.gomory.proofs.WeightSigns.{IsRate, up, down, is_rate}

-- ---- answers one after another

pub ok_then : {A B : Type 0} → (r : Result A NoFit) (f : A → Result B NoFit) (P : A → Type 0) (Q : B → Type 0) → IfOk r P → ((x : A) → P x → IfOk (f x) Q) → IfOk (and_then r f) Q
ok_then (Ok x) f P Q h k = k x h
ok_then (Err e) f P Q h k = tt

pub if_fits : (t : Bool) (v : Rational) (e : NoFit) → IfOk (cond t (Ok v) (Err e)) (λ w. w ≡ v)
if_fits true v e = refl
if_fits false v e = tt

pub changed : (r : Result Rational NoFit) (a b : Rational) → IfOk r (λ n. n ≡ a) → a ≡ b → IfOk r (λ n. n ≡ b)
changed (Ok n) a b h e = h ∙ e
changed (Err o) a b h e = tt

pub answered : {A : Type 0} → (r s : Result A NoFit) (P : A → Type 0) → r ≡ s → IfOk s P → IfOk r P
answered r s P e h = let T : Result _ NoFit → Type 0 = λ r. IfOk r P in subst T (sym e) h

-- ---- the scale of a row

part_fits : (a : Rational) → IfOk (part_answer a) (λ f. f ≡ fractional_part a)
part_fits a = if_fits _ _ _

pub part_ok : (a : Rational) (r : Result Rational NoFit) → r ≡ part_answer a → IfOk r (λ f. f ≡ fractional_part a)
part_ok a r e = answered r _ _ e (part_fits a)

pub part_some : (a : Rational) → ¬ (IsWhole a) → (f : Rational) → f ≡ fractional_part a → ¬ (f.numerator ≡ pos 0)
part_some a h f e k = above_some _ (part_above a h) (ap (λ (t : Rational). t.numerator) (sym e) ∙ k)

pub lack_some : (a f rest : Rational) → f ≡ fractional_part a → rest ≡ one_ℚ -ℚ f → ¬ (rest.numerator ≡ pos 0)
lack_some a f rest e h k = above_some _ (difference_above one_ℚ (fractional_part a) (part_lt a)) (ap (λ (t : Rational). t.numerator) (ap (λ t. one_ℚ -ℚ t) (sym e) ∙ sym h) ∙ k)

pub lack_ok : (f : Rational) (r : Result Rational NoFit) → r ≡ sub_answer one_ℚ f → IfOk r (λ rest. rest ≡ one_ℚ -ℚ f)
lack_ok f r e = answered r _ _ e (if_fits _ _ _)

pub inverse_ok : (f : Rational) (r : Result Rational NoFit) → r ≡ div_answer one_ℚ f → IfOk r (λ i. i ≡ one_ℚ /ℚ f)
inverse_ok f r e = answered r _ _ e (if_fits _ _ _)

abbrev pub scale_by : Rational → Rational → Rational → Scale
scale_by f low high = record { part = f; low = low; high = high }

pub same_scale : (p f rest low high : Rational) → f ≡ p → rest ≡ one_ℚ -ℚ f → low ≡ one_ℚ /ℚ f → high ≡ one_ℚ /ℚ rest → scale_by f low high ≡ scale_at p
same_scale p f rest low high e er el eh =
    ap (λ l. scale_by f l high) (el ∙ Q.one-mul (inv_ℚ f)) ∙ ap (scale_by f (inv_ℚ f)) (eh ∙ Q.one-mul (inv_ℚ rest) ∙ ap inv_ℚ er) ∙ ap scale_at e

scale_fits : (a : Rational) → IfOk (scale_answer a) (λ s. s ≡ scale_at (fractional_part a))
scale_fits a =
    let P : Scale → Type 0 = λ s. s ≡ scale_at (fractional_part a) in
    ok_then (part_answer a) _ (λ f. f ≡ fractional_part a) P (part_fits a) (λ f e.
    ok_then (sub_answer one_ℚ f) _ (λ rest. rest ≡ one_ℚ -ℚ f) P (if_fits _ _ _) (λ rest er.
    ok_then (div_answer one_ℚ f) _ (λ low. low ≡ one_ℚ /ℚ f) P (if_fits _ _ _) (λ low el.
    ok_then (div_answer one_ℚ rest) _ (λ high. high ≡ one_ℚ /ℚ rest) P (if_fits _ _ _) (λ high eh.
    same_scale (fractional_part a) f rest low high e er el eh))))

pub scale_ok : (a : Rational) (r : Result Scale NoFit) → r ≡ scale_answer a → IfOk r (λ s. s ≡ scale_at (fractional_part a))
scale_ok a r e = answered r _ _ e (scale_fits a)

-- ---- the numbers of a variable

remainder_fits : (f : Rational) (w : Bool) (a : Rational) → IfOk (remainder_answer f w a) (λ e. e ≡ remainder f w a)
remainder_fits f true a =
    let P : Rational → Type 0 = λ e. e ≡ remainder f true a in
    ok_then (part_answer a) _ (λ t. t ≡ fractional_part a) P (part_fits a) (λ above e.
    (let T : Rational → Type 0 = λ t. IfOk (if is_at_most t f then Ok t else sub_answer t one_ℚ) P in subst T (sym e) (choose (is_at_most (fractional_part a) f))))
  where
    choose : (t : Bool) → IfOk (if t then Ok (fractional_part a) else sub_answer (fractional_part a) one_ℚ) (λ e. e ≡ (if t then fractional_part a else fractional_part a -ℚ one_ℚ))
    choose true = refl
    choose false = if_fits _ _ _
remainder_fits f false a = refl

module _ (f g e : Rational) (rate : IsRate f g e) where
  when_below : e <ℚ zero_ℚ → g ≡ neg_ℚ e /ℚ (one_ℚ -ℚ f)
  when_below h = elim rate [
    | up l s ↦ absurd (Q.lt-not-le e zero_ℚ h l)
    | down l s ↦ s
  ]

  when_from : zero_ℚ ≤ℚ e → g ≡ e /ℚ f
  when_from h = elim rate [
    | up l s ↦ s
    | down l s ↦ s ∙ nothing (Q.le_antisymm e zero_ℚ l h)
  ]
    where
      nothing : e ≡ zero_ℚ → neg_ℚ e /ℚ (one_ℚ -ℚ f) ≡ e /ℚ f
      nothing z = turn e (inv_ℚ (one_ℚ -ℚ f)) ∙ ap (λ t. neg_ℚ (t *ℚ inv_ℚ (one_ℚ -ℚ f))) z ∙ ap neg_ℚ (Q.zero-mul _) ∙ no_sign ∙ sym (ap (λ t. t *ℚ inv_ℚ f) z ∙ Q.zero-mul _)
        where
          turn : (e k : Rational) → neg_ℚ e *ℚ k ≡ neg_ℚ (e *ℚ k)
          turn e k = simp signs

          no_sign : neg_ℚ zero_ℚ ≡ zero_ℚ
          no_sign = sym (Q.zero-add (neg_ℚ zero_ℚ)) ∙ Q.add-neg zero_ℚ

  share_fits : IfOk (share_answer (scale_at f) e) (λ n. n ≡ g)
  share_fits = go (is_negative e) refl
    where
      go : (t : Bool) → is_negative e ≡ t → IfOk (if t then mul_answer (neg_ℚ e) (inv_ℚ (one_ℚ -ℚ f)) else mul_answer e (inv_ℚ f)) (λ n. n ≡ g)
      go true h = changed _ _ _ (if_fits _ _ _) (sym (when_below (less_true _ _ h)))
      go false h = changed _ _ _ (if_fits _ _ _) (sym (when_from (less_false _ _ h)))

  both_fits : (m : Rational) → IfOk (both_answer (scale_at f) m) (λ n. n ≡ m /ℚ f +ℚ m /ℚ (one_ℚ -ℚ f))
  both_fits m =
      let P : Rational → Type 0 = λ n. n ≡ m /ℚ f +ℚ m /ℚ (one_ℚ -ℚ f) in
      ok_then (mul_answer m (inv_ℚ f)) _ (λ low. low ≡ m /ℚ f) P (if_fits _ _ _) (λ low el.
      ok_then (mul_answer m (inv_ℚ (one_ℚ -ℚ f))) _ (λ high. high ≡ m /ℚ (one_ℚ -ℚ f)) P (if_fits _ _ _) (λ high eh.
      changed _ _ _ (if_fits _ _ _) (ap (λ t. t +ℚ high) el ∙ ap (λ t. m /ℚ f +ℚ t) eh)))

  low_fits : IfOk (low_answer (scale_at f) e) (λ n. n ≡ g -ℚ e /ℚ f)
  low_fits = go (is_negative e) refl
    where
      order : (e i k : Rational) → neg_ℚ e *ℚ i +ℚ neg_ℚ e *ℚ k ≡ neg_ℚ e *ℚ k -ℚ e *ℚ i
      order e i k = simp (field, signs)

      go : (t : Bool) → is_negative e ≡ t → IfOk (if t then both_answer (scale_at f) (neg_ℚ e) else Ok zero_ℚ) (λ n. n ≡ g -ℚ e /ℚ f)
      go true h = changed _ _ _ (both_fits (neg_ℚ e)) (order e (inv_ℚ f) (inv_ℚ (one_ℚ -ℚ f)) ∙ ap (λ t. t -ℚ e /ℚ f) (sym (when_below (less_true _ _ h))))
      go false h = sym (ap (λ t. t -ℚ e /ℚ f) (when_from (less_false _ _ h)) ∙ Q.add-neg (e /ℚ f))

  high_fits : IfOk (high_answer (scale_at f) e) (λ n. n ≡ g +ℚ e /ℚ (one_ℚ -ℚ f))
  high_fits = go (is_negative e) refl
    where
      order : (e k : Rational) → neg_ℚ e *ℚ k +ℚ e *ℚ k ≡ zero_ℚ
      order e k = simp (field, signs)

      go : (t : Bool) → is_negative e ≡ t → IfOk (if t then Ok zero_ℚ else both_answer (scale_at f) e) (λ n. n ≡ g +ℚ e /ℚ (one_ℚ -ℚ f))
      go true h = sym (ap (λ t. t +ℚ e /ℚ (one_ℚ -ℚ f)) (when_below (less_true _ _ h)) ∙ order e (inv_ℚ (one_ℚ -ℚ f)))
      go false h = changed _ _ _ (both_fits e) (ap (λ t. t +ℚ e /ℚ (one_ℚ -ℚ f)) (sym (when_from (less_false _ _ h))))

signed_fits : (place : Place) (r : Result Rational NoFit) (n : Rational) → IfOk r (λ m. m ≡ n) → IfOk (signed_answer place r) (λ m. m ≡ distance_sign place *ℚ n)
signed_fits place (Ok m) n h = ap (λ t. distance_sign place *ℚ t) h
signed_fits place (Err o) n h = tt

role_fits : (f : Rational) (r v : ℕ) (at : RowVariable) (role : Role) → IfOk (role_answer (scale_at f) r v at (remainder f at.whole at.coefficient) role) (λ n. n ≡ number_at_variable f r v at role)
role_fits f r v at OfCut = signed_fits at.place _ _ (share_fits f _ _ (is_rate f at.whole at.coefficient))
role_fits f r v at OfLow = signed_fits at.place _ _ (low_fits f _ _ (is_rate f at.whole at.coefficient))
role_fits f r v at OfHigh = signed_fits at.place _ _ (high_fits f _ _ (is_rate f at.whole at.coefficient))
role_fits f r v at OfSplit =
    let e = remainder f at.whole at.coefficient in
    let P : Rational → Type 0 = λ n. n ≡ number_at_variable f r v at OfSplit in
    ok_then (sub_answer at.coefficient e) _ (λ near. near ≡ at.coefficient -ℚ e) P (if_fits _ _ _) (λ near h.
    changed _ _ _ (if_fits _ _ _) (ap (λ t. coefficient_of (unit_form r) v +ℚ distance_sign at.place *ℚ t) h))

number_fits : (f : Rational) (r v : ℕ) (at : RowVariable) (role : Role) → IfOk (number_answer (scale_at f) r v at role) (λ n. n ≡ number_at_variable f r v at role)
number_fits f r v at role =
    let P : Rational → Type 0 = λ n. n ≡ number_at_variable f r v at role in
    ok_then (remainder_answer f at.whole at.coefficient) _ (λ e. e ≡ remainder f at.whole at.coefficient) P (remainder_fits f at.whole at.coefficient) (λ e h.
    (let T : Rational → Type 0 = λ t. IfOk (role_answer (scale_at f) r v at t role) P in subst T (sym h) (role_fits f r v at role)))

pub number_ok : (s : Scale) (r v : ℕ) (at : RowVariable) (role : Role) (result : Result Rational NoFit) → s ≡ scale_at s.part → result ≡ number_answer s r v at role → IfOk result (λ n. n ≡ number_at_variable s.part r v at role)
number_ok s r v at role result h e =
    let P : Rational → Type 0 = λ n. n ≡ number_at_variable s.part r v at role in
    let T : Scale → Type 0 = λ t. IfOk (number_answer t r v at role) P in
    answered result _ P e (subst T (sym h) (number_fits s.part r v at role))
