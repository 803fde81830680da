use Rattle.std.proofs.Common.{◌≡◌, ℕ, List, [], ◌∷◌, ◌++◌, sym}
use Rattle.rational.specs.Rational.{Rational, ◌≤ℚ◌, ◌+ℚ◌, ◌*ℚ◌, zero_ℚ}
use Rattle.milp.specs.Form.{Entry, value_at}
use Rattle.verdicts.specs.WeightedSums.{scaled, Weighted, combined, combined_bound, AllMet}
use Rattle.rational.proofs.Laws as Q
use Rattle.rational.proofs.Laws.{field, field_units}

pub value-append : (x : ℕ → Rational) (es fs : List Entry) → value_at x (es ++ fs) ≡ value_at x es +ℚ value_at x fs
value-append x [] fs = simp field_units
value-append x (e ∷ es) fs = rw (value-append x es fs) (sym (Q.add_assoc _ _ _))

pub value-scaled : (x : ℕ → Rational) (w : Rational) (es : List Entry) → value_at x (scaled w es) ≡ w *ℚ value_at x es
value-scaled x w [] = simp field_units
value-scaled x w (e ∷ es) = rw (value-scaled x w es) (step w e.coefficient (x e.column) (value_at x es))
  where
    step : (w c t v : Rational) → (w *ℚ c) *ℚ t +ℚ w *ℚ v ≡ w *ℚ (c *ℚ t +ℚ v)
    step w c t v = simp field

pub weak_duality : (x : ℕ → Rational) (rs : List Weighted) → AllMet x rs → combined_bound rs ≤ℚ value_at x (combined rs)
weak_duality x [] h = Q.le_refl zero_ℚ
weak_duality x (r ∷ rs) h =
    simp (value-append, value-scaled) (Q.add-le-add _ _ _ _ (Q.mul-le-mul r.weight r.bound (value_at x r.form) h.0 h.1) (weak_duality x rs h.2))
