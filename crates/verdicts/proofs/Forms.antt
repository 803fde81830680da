-- A form's value at a point depends on its coefficients below the number of columns alone.
use Rattle.std.proofs.Common.{◌≡◌, ◌∙◌, ℕ, zero, suc, List, [], ◌∷◌, ◌++◌, ◌≤◌, ◌==◌, cond, Bool, true, false, refl, sym, ap, arith, length}
use Rattle.std.proofs.lemmas.Bool.Decides.{nat_tests}
use Rattle.std.proofs.lemmas.Bool.{and_parts}
use mathlib.Core.Path.{ap₂}
use Rattle.std.proofs.Math.Decide.{ℕ_discrete}
use Rattle.rational.specs.Rational.{Rational, ◌+ℚ◌, ◌*ℚ◌, zero_ℚ}
use Rattle.milp.specs.Form.{Entry, value_at}
use Rattle.verdicts.specs.WeightedSums.{coefficient_of, sum_below, scaled, Weighted, combined}
use Rattle.rational.proofs.Laws as Q
use Rattle.verdicts.proofs.Coefficients.{sum_zero, sum_same, sum_add}
use Rattle.rational.specs.Compare.{is_same}
use Rattle.milp.specs.Form.{number_at, sum_at}
use Rattle.verdicts.specs.Proves.{same_form}
use Rattle.rational.proofs.Laws.{same_true}

-- one column's part
part : ℕ → Rational → (ℕ → Rational) → ℕ → Rational
part i c x j = cond (i == j) c zero_ℚ *ℚ x j

at_self : (i : ℕ) (c : Rational) (x : ℕ → Rational) → part i c x i ≡ c *ℚ x i
unfolding part
at_self i c x = let e : (i == i) ≡ true = grind (arith, nat_tests) in rw e refl

at_other : (i j : ℕ) (c : Rational) (x : ℕ → Rational) → ¬ (i ≡ j) → part i c x j ≡ zero_ℚ
unfolding part
at_other i j c x h = let e : (i == j) ≡ false = grind (arith, nat_tests) in rw e (Q.zero-mul (x j))

sum_part : (n i : ℕ) (c : Rational) (x : ℕ → Rational) → (n ≤ i → x i ≡ zero_ℚ) → sum_below n (part i c x) ≡ c *ℚ x i
sum_part zero i c x h = sym (ap (λ y. c *ℚ y) (h (omega arith)) ∙ Q.mul-zero c)
sum_part (suc n) i c x h = elim (ℕ_discrete i n) [
  | yes e ↦ rw (← e) (ap₂ ◌+ℚ◌ (at_self i c x) (sum_zero i (part i c x) (λ j k. at_other i j c x (λ q. absurd (omega arith)))) ∙ Q.add-zero (c *ℚ x i))
  | no d ↦ ap₂ ◌+ℚ◌ (at_other i n c x d) (sum_part n i c x (λ k. h (omega arith))) ∙ Q.zero-add (c *ℚ x i)
]

by_column : (n : ℕ) (x : ℕ → Rational) (es : List Entry) → ((j : ℕ) → n ≤ j → x j ≡ zero_ℚ) → value_at x es ≡ sum_below n (λ j. coefficient_of es j *ℚ x j)
unfolding part
by_column n x [] h = sym (sum_zero n (λ j. zero_ℚ *ℚ x j) (λ j k. Q.zero-mul (x j)))
by_column n x (e ∷ es) h =
    sym (sum_same n (λ j. (cond (e.column == j) e.coefficient zero_ℚ +ℚ coefficient_of es j) *ℚ x j) (λ j. part e.column e.coefficient x j +ℚ coefficient_of es j *ℚ x j) (λ j. Q.add_mul _ _ _)
    ∙ sum_add n (part e.column e.coefficient x) (λ j. coefficient_of es j *ℚ x j)
    ∙ ap₂ ◌+ℚ◌ (sum_part n e.column e.coefficient x (h e.column)) (sym (by_column n x es h)))

past : (x : List Rational) (j : ℕ) → length x ≤ j → number_at x j ≡ zero_ℚ
past [] j h = refl
past (v ∷ vs) zero h = absurd (omega arith)
past (v ∷ vs) (suc j) h = past vs j (omega arith)

same_sum : (n : ℕ) (x : ℕ → Rational) (f g : List Entry) → same_form n f g ≡ true → sum_below n (λ j. coefficient_of f j *ℚ x j) ≡ sum_below n (λ j. coefficient_of g j *ℚ x j)
same_sum zero x f g h = refl
same_sum (suc n) x f g h =
    let both = and_parts (is_same (coefficient_of f n) (coefficient_of g n)) (same_form n f g) h in
    ap₂ ◌+ℚ◌ (ap (λ c. c *ℚ x n) (same_true _ _ both.0)) (same_sum n x f g both.1)

-- forms that pass the test have the same value at a point with one number for each column
pub same_form-value : (n : ℕ) (x : List Rational) (f g : List Entry) → length x ≡ n → same_form n f g ≡ true → sum_at x f ≡ sum_at x g
same_form-value n x f g e h =
    let zeros : (j : ℕ) → n ≤ j → number_at x j ≡ zero_ℚ = λ j k. past x j (omega arith) in
    by_column n (number_at x) f zeros ∙ same_sum n (number_at x) f g h ∙ sym (by_column n (number_at x) g zeros)

-- ---- a combined form's coefficient, term by term

pub coefficient-append : (f g : List Entry) (j : ℕ) → coefficient_of (f ++ g) j ≡ coefficient_of f j +ℚ coefficient_of g j
coefficient-append [] g j = sym (Q.zero-add (coefficient_of g j))
coefficient-append (e ∷ f) g j = rw (coefficient-append f g j) (sym (Q.add_assoc _ _ _))

pub coefficient-scaled : (w : Rational) (f : List Entry) (j : ℕ) → coefficient_of (scaled w f) j ≡ w *ℚ coefficient_of f j
coefficient-scaled w [] j = sym (Q.mul-zero w)
coefficient-scaled w (e ∷ f) j = rw (coefficient-scaled w f j) (one (e.column == j) ∙ sym (Q.mul_add w (cond (e.column == j) e.coefficient zero_ℚ) (coefficient_of f j)))
  where
    one : (b : Bool) → cond b (w *ℚ e.coefficient) zero_ℚ +ℚ w *ℚ coefficient_of f j ≡ w *ℚ cond b e.coefficient zero_ℚ +ℚ w *ℚ coefficient_of f j
    one true = refl
    one false = ap (λ z. z +ℚ w *ℚ coefficient_of f j) (sym (Q.mul-zero w))

pub coefficient-combined : (t : Weighted) (ts : List Weighted) (j : ℕ) → coefficient_of (combined (t ∷ ts)) j ≡ t.weight *ℚ coefficient_of t.form j +ℚ coefficient_of (combined ts) j
coefficient-combined t ts j = coefficient-append (scaled t.weight t.form) (combined ts) j ∙ ap (λ z. z +ℚ coefficient_of (combined ts) j) (coefficient-scaled t.weight t.form j)
