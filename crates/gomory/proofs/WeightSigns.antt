-- Signs of the coefficients of a cut, and of the weights of its two sides.
use Rattle.std.proofs.Common.{◌≡◌, ◌∙◌, refl, sym, ap, subst, Bool, true, false}
use Rattle.std.specs.Prelude.{if◌then◌else◌}
use Rattle.rational.specs.Rational.{Rational, zero_ℚ, one_ℚ, neg_ℚ, inv_ℚ, ◌+ℚ◌, ◌-ℚ◌, ◌*ℚ◌, ◌/ℚ◌, ◌≤ℚ◌}
use Rattle.rational.specs.Compare.{is_less, is_at_most}
use Rattle.rational.proofs.Laws as Q
use Rattle.rational.proofs.Laws.{field, field_units, signs, less_true, less_false}
use Rattle.verdicts.proofs.Laws.{le_by}
use Rattle.gomory.specs.Cuts.{fractional_part, cut_coefficient, remainder}
use Rattle.gomory.proofs.FractionalParts.{part_from, part_below, product_from, difference_from, sum_from, neg_from}

-- the coefficient, and what is left: either both are e / f with e from 0 on, or -e / (1 - f) with e up to 0
pub data IsRate (f g e : Rational) : Type 0 where
  up : zero_ℚ ≤ℚ e → g ≡ e /ℚ f → IsRate f g e
  down : e ≤ℚ zero_ℚ → g ≡ neg_ℚ e /ℚ (one_ℚ -ℚ f) → IsRate f g e

pub is_rate : (f : Rational) (w : Bool) (a : Rational) → IsRate f (cut_coefficient f w a) (remainder f w a)
is_rate f true a = choose (is_at_most (fractional_part a) f)
  where
    turned : (p : Rational) → one_ℚ -ℚ p ≡ neg_ℚ (p -ℚ one_ℚ)
    turned p = simp (field, signs)

    below : (p : Rational) → p ≤ℚ one_ℚ → p -ℚ one_ℚ ≤ℚ zero_ℚ
    below p h = le_by _ _ _ _ refl (sym (Q.add-neg one_ℚ)) (Q.add-le-add _ _ _ _ h (Q.le_refl (neg_ℚ one_ℚ)))

    choose : (t : Bool) → IsRate f (if t then fractional_part a /ℚ f else (one_ℚ -ℚ fractional_part a) /ℚ (one_ℚ -ℚ f)) (if t then fractional_part a else fractional_part a -ℚ one_ℚ)
    choose true = up (part_from a) refl
    choose false = down (below (fractional_part a) (part_below a)) (ap (λ t. t /ℚ (one_ℚ -ℚ f)) (turned (fractional_part a)))
is_rate f false a = choose (is_less zero_ℚ a) refl
  where
    choose : (t : Bool) → is_less zero_ℚ a ≡ t → IsRate f (if t then a /ℚ f else neg_ℚ a /ℚ (one_ℚ -ℚ f)) a
    choose true h = up (Q.le_of_lt _ _ (less_true _ _ h)) refl
    choose false h = down (less_false _ _ h) refl

module _ (f g e : Rational) (i : zero_ℚ ≤ℚ inv_ℚ f) (k : zero_ℚ ≤ℚ inv_ℚ (one_ℚ -ℚ f)) (h : IsRate f g e) where
  pub rate_from : zero_ℚ ≤ℚ g
  rate_from = elim h [
    | up l s ↦ subst (λ t. zero_ℚ ≤ℚ t) (sym s) (product_from _ _ l i)
    | down l s ↦ subst (λ t. zero_ℚ ≤ℚ t) (sym s) (product_from _ _ (neg_from e l) k)
  ]

  pub low_from : zero_ℚ ≤ℚ g -ℚ e /ℚ f
  low_from = elim h [
    | up l s ↦ difference_from _ _ (le_by _ _ _ _ refl s (Q.le_refl _))
    | down l s ↦ le_by _ _ _ _ refl (order g e (inv_ℚ f)) (sum_from _ _ rate_from (product_from _ _ (neg_from e l) i))
  ]
    where
      order : (g e i : Rational) → g -ℚ e *ℚ i ≡ g +ℚ neg_ℚ e *ℚ i
      order g e i = simp (field, signs)

  pub high_from : zero_ℚ ≤ℚ g +ℚ e /ℚ (one_ℚ -ℚ f)
  high_from = elim h [
    | up l s ↦ sum_from _ _ rate_from (product_from _ _ l k)
    | down l s ↦ le_by _ _ _ _ refl (ap (λ t. t +ℚ e /ℚ (one_ℚ -ℚ f)) s ∙ order e (inv_ℚ (one_ℚ -ℚ f))) (Q.le_refl zero_ℚ)
  ]
    where
      order : (e k : Rational) → neg_ℚ e *ℚ k +ℚ e *ℚ k ≡ zero_ℚ
      order e k = simp (field, signs)
