-- A form's value depends on its coefficients alone.
use Rattle.std.proofs.Common.{◌≡◌, ◌∙◌, ℕ, zero, suc, List, [], ◌∷◌, ◌<◌, ◌==◌, cond, true, false, refl, sym, ap, arith}
use Rattle.std.proofs.lemmas.Bool.Decides.{nat_tests}
use mathlib.Core.Path.{ap₂}
use Rattle.std.proofs.Math.Decide.{ℕ_discrete}
use Rattle.rational.specs.Rational.{Rational, ◌+ℚ◌, ◌*ℚ◌, zero_ℚ}
use Rattle.milp.specs.Form.{Entry, value_at}
use Rattle.verdicts.specs.WeightedSums.{coefficient_of, sum_below, AllBelow}
use Rattle.rational.proofs.Laws as Q
use Rattle.rational.proofs.Laws.{field, field_units}

pub sum_zero : (n : ℕ) (f : ℕ → Rational) → ((j : ℕ) → j < n → f j ≡ zero_ℚ) → sum_below n f ≡ zero_ℚ
sum_zero zero f h = refl
sum_zero (suc n) f h = rw (h n (omega arith), sum_zero n f (λ j k. h j (omega arith))) (Q.add-zero zero_ℚ)

pub sum_same : (n : ℕ) (f g : ℕ → Rational) → ((j : ℕ) → f j ≡ g j) → sum_below n f ≡ sum_below n g
sum_same zero f g h = refl
sum_same (suc n) f g h = ap₂ ◌+ℚ◌ (h n) (sum_same n f g h)

four : (a b c d : Rational) → (a +ℚ b) +ℚ (c +ℚ d) ≡ (a +ℚ c) +ℚ (b +ℚ d)
four a b c d = simp field

pub sum_add : (n : ℕ) (f g : ℕ → Rational) → sum_below n (λ j. f j +ℚ g j) ≡ sum_below n f +ℚ sum_below n g
sum_add zero f g = sym (Q.add-zero zero_ℚ)
sum_add (suc n) f g = rw (sum_add n f g) (four (f n) (g n) (sum_below n f) (sum_below n g))

-- one column's part
part : ℕ → Rational → (ℕ → Rational) → ℕ → Rational
part i c x j = cond (i == j) c zero_ℚ *ℚ x j

at_self : (i : ℕ) (c : Rational) (x : ℕ → Rational) → part i c x i ≡ c *ℚ x i
unfolding part
at_self i c x = let e : (i == i) ≡ true = grind (arith, nat_tests) in rw e refl

at_other : (i j : ℕ) (c : Rational) (x : ℕ → Rational) → ¬ (i ≡ j) → part i c x j ≡ zero_ℚ
unfolding part
at_other i j c x h = let e : (i == j) ≡ false = grind (arith, nat_tests) in rw e (Q.zero-mul (x j))

sum_part : (n i : ℕ) (c : Rational) (x : ℕ → Rational) → i < n → sum_below n (part i c x) ≡ c *ℚ x i
sum_part zero i c x h = absurd (omega arith)
sum_part (suc n) i c x h = elim (ℕ_discrete i n) [
  | yes e ↦ rw (← e) (ap₂ ◌+ℚ◌ (at_self i c x) (sum_zero i (part i c x) (λ j k. at_other i j c x (λ q. absurd (omega arith)))) ∙ Q.add-zero (c *ℚ x i))
  | no d ↦ ap₂ ◌+ℚ◌ (at_other i n c x d) (sum_part n i c x (omega arith)) ∙ Q.zero-add (c *ℚ x i)
]

pub value_by_column : (n : ℕ) (x : ℕ → Rational) (es : List Entry) → AllBelow n es → value_at x es ≡ sum_below n (λ j. coefficient_of es j *ℚ x j)
unfolding part
value_by_column n x [] h = sym (sum_zero n (λ j. zero_ℚ *ℚ x j) (λ j k. Q.zero-mul (x j)))
value_by_column n x (e ∷ es) h =
    sym (sum_same n (λ j. (cond (e.column == j) e.coefficient zero_ℚ +ℚ coefficient_of es j) *ℚ x j) (λ j. part e.column e.coefficient x j +ℚ coefficient_of es j *ℚ x j) (λ j. Q.add_mul _ _ _)
    ∙ sum_add n (part e.column e.coefficient x) (λ j. coefficient_of es j *ℚ x j)
    ∙ ap₂ ◌+ℚ◌ (sum_part n e.column e.coefficient x h.0) (sym (value_by_column n x es h.1)))

pub same_value : (n : ℕ) (x : ℕ → Rational) (es fs : List Entry) → AllBelow n es → AllBelow n fs → ((j : ℕ) → coefficient_of es j ≡ coefficient_of fs j) → value_at x es ≡ value_at x fs
same_value n x es fs h k e = value_by_column n x es h ∙ sum_same n _ _ (λ j. ap (λ c. c *ℚ x j) (e j)) ∙ sym (value_by_column n x fs k)
