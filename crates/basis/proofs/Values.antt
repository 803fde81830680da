-- The value of a solved or substituted sum.
use Rattle.std.proofs.Common.{◌≡◌, ◌∙◌, ℕ, List, [], ◌∷◌, ◌++◌, ◌<◌, refl}
use Rattle.std.specs.Prelude.{negsuc}
use Rattle.rational.specs.Rational.{Rational, ◌+ℚ◌, ◌*ℚ◌, ◌-ℚ◌, neg_ℚ, inv_ℚ, whole}
use Rattle.milp.specs.Form.{Entry, value_at}
use Rattle.verdicts.specs.WeightedSums.{scaled, coefficient_of, AllBelow}
use Rattle.rational.proofs.Laws as Q
use Rattle.rational.proofs.Laws.{field, field_units}
use Rattle.verdicts.proofs.Laws.{minus_one-mul, value-append, value-scaled}
use Rattle.basis.specs.System.{unit_form}

abbrev pub minus : List Entry → List Entry
minus f = scaled (whole (negsuc 0)) f

-- the form f for the variable r, of which c is the coefficient of q, solved for q
abbrev pub solved : ℕ → ℕ → Rational → List Entry → List Entry
solved q r c f = unit_form q ++ scaled (inv_ℚ c) (unit_form r ++ minus f)

-- the form f, of which k is the coefficient of q, with the form g put in for q
abbrev pub substituted : ℕ → Rational → List Entry → List Entry → List Entry
substituted q k g f = f ++ scaled k (g ++ minus (unit_form q))

abbrev pub SameForm : List Entry → List Entry → Type 0
SameForm f g = (j : ℕ) → coefficient_of f j ≡ coefficient_of g j

pub value-unit : (x : ℕ → Rational) (q : ℕ) → value_at x (unit_form q) ≡ x q
value-unit x q = Q.add-zero _ ∙ Q.one-mul _

pub value-minus : (x : ℕ → Rational) (f : List Entry) → value_at x (minus f) ≡ neg_ℚ (value_at x f)
value-minus x f = value-scaled x (whole (negsuc 0)) f ∙ minus_one-mul _

pub value-solved : (x : ℕ → Rational) (q r : ℕ) (c : Rational) (f : List Entry) → value_at x (solved q r c f) ≡ x q +ℚ inv_ℚ c *ℚ (x r -ℚ value_at x f)
value-solved x q r c f = rw (value-append x (unit_form q) (scaled (inv_ℚ c) (unit_form r ++ minus f)), value-unit x q, value-scaled x (inv_ℚ c) (unit_form r ++ minus f), value-append x (unit_form r) (minus f), value-unit x r, value-minus x f) refl

pub value-substituted : (x : ℕ → Rational) (q : ℕ) (k : Rational) (g f : List Entry) → value_at x (substituted q k g f) ≡ value_at x f +ℚ k *ℚ (value_at x g -ℚ x q)
value-substituted x q k g f = rw (value-append x f (scaled k (g ++ minus (unit_form q))), value-scaled x k (g ++ minus (unit_form q)), value-append x g (minus (unit_form q)), value-minus x (unit_form q), value-unit x q) refl

-- ---- the columns of forms made of forms

pub below-append : (n : ℕ) (f g : List Entry) → AllBelow n f → AllBelow n g → AllBelow n (f ++ g)
below-append n [] g h k = k
below-append n (e ∷ f) g h k = (h.0, below-append n f g h.1 k)

pub below-scaled : (n : ℕ) (w : Rational) (f : List Entry) → AllBelow n f → AllBelow n (scaled w f)
below-scaled n w [] h = tt
below-scaled n w (e ∷ f) h = (h.0, below-scaled n w f h.1)

pub below-solved : (n q r : ℕ) (c : Rational) (f : List Entry) → q < n → r < n → AllBelow n f → AllBelow n (solved q r c f)
below-solved n q r c f h k l = below-append n (unit_form q) (scaled (inv_ℚ c) (unit_form r ++ minus f)) (h, tt)
    (below-scaled n (inv_ℚ c) (unit_form r ++ minus f) (below-append n (unit_form r) (minus f) (k, tt) (below-scaled n (whole (negsuc 0)) f l)))

pub below-substituted : (n q : ℕ) (k : Rational) (g f : List Entry) → q < n → AllBelow n g → AllBelow n f → AllBelow n (substituted q k g f)
below-substituted n q k g f h l m = below-append n f (scaled k (g ++ minus (unit_form q))) m
    (below-scaled n k (g ++ minus (unit_form q)) (below-append n g (minus (unit_form q)) l (below-scaled n (whole (negsuc 0)) (unit_form q) (h, tt))))
