-- The coefficients of forms made of forms.
use Rattle.std.proofs.Common.{◌≡◌, ◌∙◌, ℕ, List, [], ◌∷◌, ◌++◌, ◌≢◌, refl, subst, arith, ◌==◌, true, false}
use Rattle.std.specs.Prelude.{negsuc}
use Rattle.std.proofs.lemmas.Bool.Decides.{nat_tests}
use Rattle.rational.specs.Rational.{Rational, ◌+ℚ◌, ◌*ℚ◌, ◌-ℚ◌, neg_ℚ, inv_ℚ, zero_ℚ, one_ℚ, whole}
use Rattle.milp.specs.Form.{Entry}
use Rattle.verdicts.specs.WeightedSums.{scaled, coefficient_of}
use Rattle.rational.proofs.Laws as Q
use Rattle.rational.proofs.Laws.{field, field_units, signs}
use Rattle.basis.specs.Dictionary.{IsResting, AllResting}
use Rattle.basis.specs.System.{unit_form}
use Rattle.basis.specs.declared.Place.{Place}
use Rattle.verdicts.proofs.Laws.{coefficient-append, coefficient-scaled, minus_one-mul}
use Rattle.basis.proofs.Values.{minus, solved, substituted}

pub coefficient-minus : (f : List Entry) (j : ℕ) → coefficient_of (minus f) j ≡ neg_ℚ (coefficient_of f j)
coefficient-minus f j = coefficient-scaled (whole (negsuc 0)) f j ∙ minus_one-mul _

pub unit_self : (q : ℕ) → coefficient_of (unit_form q) q ≡ one_ℚ
unit_self q = let e : (q == q) ≡ true = grind (arith, nat_tests) in rw e (Q.add-zero one_ℚ)

pub unit_other : (q j : ℕ) → j ≢ q → coefficient_of (unit_form q) j ≡ zero_ℚ
unit_other q j h = let e : (q == j) ≡ false = grind (arith, nat_tests) in rw e (Q.add-zero zero_ℚ)

pub coefficient-solved : (q r : ℕ) (c : Rational) (f : List Entry) (j : ℕ) → coefficient_of (solved q r c f) j ≡ coefficient_of (unit_form q) j +ℚ inv_ℚ c *ℚ (coefficient_of (unit_form r) j -ℚ coefficient_of f j)
coefficient-solved q r c f j = rw (coefficient-append (unit_form q) (scaled (inv_ℚ c) (unit_form r ++ minus f)) j, coefficient-scaled (inv_ℚ c) (unit_form r ++ minus f) j, coefficient-append (unit_form r) (minus f) j, coefficient-minus f j) refl

pub coefficient-substituted : (q : ℕ) (k : Rational) (g f : List Entry) (j : ℕ) → coefficient_of (substituted q k g f) j ≡ coefficient_of f j +ℚ k *ℚ (coefficient_of g j -ℚ coefficient_of (unit_form q) j)
coefficient-substituted q k g f j = rw (coefficient-append f (scaled k (g ++ minus (unit_form q))) j, coefficient-scaled k (g ++ minus (unit_form q)) j, coefficient-append g (minus (unit_form q)) j, coefficient-minus (unit_form q) j) refl

-- a sum over resting variables has no other
pub not_resting : (b : List Place) (f : List Entry) (j : ℕ) → AllResting b f → ¬ (IsResting b j) → coefficient_of f j ≡ zero_ℚ
not_resting b [] j h k = refl
not_resting b (e ∷ f) j h k =
    let differs : ¬ (e.column ≡ j) = λ same. k (subst (IsResting b) same (h.0)) in
    let test : (e.column == j) ≡ false = grind (arith, nat_tests) in
    rw test (Q.zero-add _ ∙ not_resting b f j h.1 k)
