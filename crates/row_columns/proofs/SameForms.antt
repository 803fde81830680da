-- Forms have the same coefficients below n where they have the same value at each point that is 0 from n on.
use Rattle.std.proofs.Common.{◌≡◌, ◌∙◌, ℕ, zero, suc, ◌<◌, ◌≤◌, ◌==◌, List, [], ◌∷◌, Bool, cond, true, false, refl, sym, ap, arith}
use Rattle.std.proofs.lemmas.Bool.{and_parts, and_from, eqb-true, eqb-false}
use mathlib.Core.Path.{ap₂}
use Rattle.rational.specs.Rational.{Rational, ◌+ℚ◌, ◌*ℚ◌, zero_ℚ, one_ℚ}
use Rattle.rational.specs.Compare.{is_same}
use Rattle.rational.proofs.Laws as Q
use Rattle.rational.proofs.Laws.{field, field_units, same_true, true_same}
use Rattle.milp.specs.Form.{Entry, value_at}
use Rattle.verdicts.specs.WeightedSums.{coefficient_of}
use Rattle.verdicts.specs.Proves.{same_form}

value_zero : (y : ℕ → Rational) (form : List Entry) → ((j : ℕ) → y j ≡ zero_ℚ) → value_at y form ≡ zero_ℚ
value_zero y [] h = refl
value_zero y (e ∷ es) h = ap₂ ◌+ℚ◌ (ap (λ v. e.coefficient *ℚ v) (h e.column) ∙ Q.mul-zero e.coefficient) (value_zero y es h) ∙ Q.add-zero zero_ℚ

-- the same point with 0 for column n
abbrev without : ℕ → (ℕ → Rational) → ℕ → Rational
without n y j = cond (j == n) zero_ℚ (y j)

four : (a b t v d : Rational) → (a +ℚ b *ℚ t) +ℚ (v +ℚ d *ℚ t) ≡ (a +ℚ v) +ℚ (b +ℚ d) *ℚ t
four a b t v d = simp field

-- a column's part of a form's value
value_part : (y : ℕ → Rational) (n : ℕ) (form : List Entry) → value_at y form ≡ value_at (without n y) form +ℚ coefficient_of form n *ℚ y n
value_part y n [] = sym (Q.zero-add (zero_ℚ *ℚ y n) ∙ Q.zero-mul (y n))
value_part y n (e ∷ es) =
    ap₂ ◌+ℚ◌ (one (e.column == n) refl) (value_part y n es)
    ∙ four (e.coefficient *ℚ without n y e.column) (cond (e.column == n) e.coefficient zero_ℚ) (y n) (value_at (without n y) es) (coefficient_of es n)
  where
    one : (b : Bool) → (e.column == n) ≡ b → e.coefficient *ℚ y e.column ≡ e.coefficient *ℚ cond b zero_ℚ (y e.column) +ℚ cond b e.coefficient zero_ℚ *ℚ y n
    one true q = ap (λ i. e.coefficient *ℚ y i) (eqb-true e.column n q) ∙ sym (ap (λ v. v +ℚ e.coefficient *ℚ y n) (Q.mul-zero e.coefficient) ∙ Q.zero-add (e.coefficient *ℚ y n))
    one false q = sym (ap (λ v. e.coefficient *ℚ y e.column +ℚ v) (Q.zero-mul (y n)) ∙ Q.add-zero (e.coefficient *ℚ y e.column))

-- forms with the same coefficients below n have the same value
pub value_same : (n : ℕ) (y : ℕ → Rational) (f g : List Entry) → ((j : ℕ) → n ≤ j → y j ≡ zero_ℚ) → same_form n f g ≡ true → value_at y f ≡ value_at y g
value_same zero y f g h t = value_zero y f (λ j. h j (omega arith)) ∙ sym (value_zero y g (λ j. h j (omega arith)))
value_same (suc n) y f g h t =
    let both = and_parts (is_same (coefficient_of f n) (coefficient_of g n)) (same_form n f g) t in
    value_part y n f ∙ ap₂ ◌+ℚ◌ (value_same n (without n y) f g (λ j k. zero_past j k (j == n) refl) both.1) (ap (λ c. c *ℚ y n) (same_true _ _ both.0)) ∙ sym (value_part y n g)
  where
    zero_past : (j : ℕ) → n ≤ j → (b : Bool) → (j == n) ≡ b → cond b zero_ℚ (y j) ≡ zero_ℚ
    zero_past j k true q = refl
    zero_past j k false q = let other = eqb-false j n q in h j (omega arith)

-- the point with 1 for column n, and 0 for all others
abbrev pub unit_point : ℕ → ℕ → Rational
unit_point n j = cond (j == n) one_ℚ zero_ℚ

pub unit_value : (n : ℕ) (form : List Entry) → value_at (unit_point n) form ≡ coefficient_of form n
unit_value n [] = refl
unit_value n (e ∷ es) = ap₂ ◌+ℚ◌ (one (e.column == n)) (unit_value n es)
  where
    one : (b : Bool) → e.coefficient *ℚ cond b one_ℚ zero_ℚ ≡ cond b e.coefficient zero_ℚ
    one true = Q.mul-one e.coefficient
    one false = Q.mul-zero e.coefficient

pub unit_past : (n m : ℕ) → n < m → (j : ℕ) → m ≤ j → unit_point n j ≡ zero_ℚ
unit_past n m h j k = go (j == n) refl
  where
    go : (b : Bool) → (j == n) ≡ b → cond b one_ℚ zero_ℚ ≡ zero_ℚ
    go true q = let same = eqb-true j n q in absurd (omega arith)
    go false q = refl

pub same_below : (n : ℕ) (f g : List Entry) → ((j : ℕ) → j < n → coefficient_of f j ≡ coefficient_of g j) → same_form n f g ≡ true
same_below zero f g h = refl
same_below (suc n) f g h = and_from _ _ (true_same _ _ (h n (omega arith))) (same_below n f g (λ j k. h j (omega arith)))
