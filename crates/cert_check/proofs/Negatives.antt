-- The products of a weight with the negative of a form.
use Rattle.std.proofs.Common.{◌≡◌, ◌∙◌, ℕ, ◌==◌, Bool, true, false, if◌then◌else◌, List, [], ◌∷◌, Some, None, refl, ap}
use Rattle.std.specs.Prelude.{negsuc}
use Rattle.rational.specs.Rational.{Rational, whole, ◌*ℚ◌}
use Rattle.milp.specs.Form.{Entry}
use Rattle.verdicts.specs.WeightedSums.{scaled}
use Rattle.cert_check.specs.Sums.{Product, products}
use Rattle.cert_check.specs.Lookup.{entry_at}
use Rattle.cert_check.specs.Parts.{ascending}
use Rattle.cert_check.proofs.Ascending as own

-- each factor times a number
abbrev times : Rational → List Product → List Product
times k [] = []
times k (p ∷ ps) = record { weight = p.weight; factor = k *ℚ p.factor } ∷ times k ps

products_scaled : (k w : Rational) (es : List Entry) (j : ℕ) → products w (scaled k es) j ≡ times k (products w es j)
products_scaled k w [] j = refl
products_scaled k w (e ∷ es) j = go (e.column == j) (products_scaled k w es j)
  where
    go : (t : Bool) → products w (scaled k es) j ≡ times k (products w es j) → (if t then record { weight = w; factor = k *ℚ e.coefficient } ∷ products w (scaled k es) j else products w (scaled k es) j) ≡ times k (if t then record { weight = w; factor = e.coefficient } ∷ products w es j else products w es j)
    go true h = ap (λ ps. record { weight = w; factor = k *ℚ e.coefficient } ∷ ps) h
    go false h = h

pub negative_found : (w : Rational) (es : List Entry) (j : ℕ) (c : Rational) → ascending 0 es ≡ true → entry_at es j ≡ Some c → products w (scaled (whole (negsuc 0)) es) j ≡ record { weight = w; factor = whole (negsuc 0) *ℚ c } ∷ []
negative_found w es j c h e = products_scaled (whole (negsuc 0)) w es j ∙ ap (times (whole (negsuc 0))) (own.products_found w es j c h e)

pub negative_none : (w : Rational) (es : List Entry) (j : ℕ) → entry_at es j ≡ None → products w (scaled (whole (negsuc 0)) es) j ≡ []
negative_none w es j e = products_scaled (whole (negsuc 0)) w es j ∙ ap (times (whole (negsuc 0))) (own.products_none w es j e)
