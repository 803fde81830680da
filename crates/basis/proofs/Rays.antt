-- The direction in which a basis can move without end.
use Rattle.std.proofs.Common.{◌≡◌, ◌∙◌, ℕ, List, sym, ap, arith, ◌==◌, cond, true, false}
use Rattle.std.specs.Prelude.{pos}
use Rattle.std.proofs.lemmas.Bool.Decides.{nat_tests}
use Rattle.std.proofs.Math.Decide.{ℕ_discrete}
use Rattle.rational.specs.Rational.{Rational, ◌+ℚ◌, ◌*ℚ◌, ◌-ℚ◌, neg_ℚ, inv_ℚ, zero_ℚ}
use Rattle.milp.specs.Form.{value_at}
use Rattle.rational.proofs.Laws as Q
use Rattle.rational.proofs.Laws.{field, field_units, signs}
use Rattle.basis.specs.System.{System, Satisfies}
use Rattle.basis.specs.Dictionary.{IsResting, Dictionary, IsDictionary}
use Rattle.basis.specs.Bland.{IsDirection}
use Rattle.basis.specs.Dictionary.{gain_of}
use Rattle.basis.specs.declared.Place.{Place}
use Rattle.basis.proofs.Unique.{value-moved}

resting_value : (b : List Place) (d : Dictionary) (q : ℕ) (t : Rational) (r : ℕ → Rational) → IsDirection b d q t r → (v : ℕ) → IsResting b v → r v ≡ cond (v == q) t zero_ℚ
resting_value b d q t r h v k = elim (ℕ_discrete v q) [
  | yes e ↦ let test : (v == q) ≡ true = grind (arith, nat_tests) in rw test (ap r e ∙ h.mover)
  | no n ↦ let test : (v == q) ≡ false = grind (arith, nat_tests) in rw test (h.others v k n)
]

pub direction_solves : (s : System) (b : List Place) (d : Dictionary) (q : ℕ) (t : Rational) (r : ℕ → Rational) → IsDictionary s b d → IsDirection b d q t r → Satisfies s r
direction_solves s b d q t r h k = (h.same_points r).1 (record {
  values = λ v j. k.basics v j ∙ sym (value-moved b r q t (d.row v) (resting_value b d q t r k) (h.over_resting.rows v j));
})

pub direction_value : (s : System) (b : List Place) (d : Dictionary) (q : ℕ) (t : Rational) (r : ℕ → Rational) → IsDictionary s b d → IsDirection b d q t r → value_at r s.objective ≡ t *ℚ gain_of d q
direction_value s b d q t r h k =
    h.same_objective r (direction_solves s b d q t r h k) ∙ value-moved b r q t d.objective (resting_value b d q t r k) h.over_resting.objective

-- where y moves at the rate c, not 0, it comes to u after the step (u - y) / c
pub arrives : (y c u : Rational) → ¬ (c.numerator ≡ pos 0) → u ≡ y +ℚ ((u -ℚ y) *ℚ inv_ℚ c) *ℚ c
arrives y c u h = sym (ap (λ t. y +ℚ t) (Q.mul_assoc (u -ℚ y) (inv_ℚ c) c ∙ ap (λ t. (u -ℚ y) *ℚ t) (Q.mul_comm (inv_ℚ c) c ∙ Q.mul-inv c h) ∙ Q.mul-one (u -ℚ y) ∙ Q.add_comm u (neg_ℚ y)) ∙ Q.cancel_left y u)
