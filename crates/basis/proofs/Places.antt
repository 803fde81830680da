-- Which variables are basic after an exchange.
use Rattle.std.proofs.Common.{◌≡◌, ◌∙◌, ℕ, zero, suc, ◌<◌, ◌≢◌, List, [], ◌∷◌, refl, sym, subst, arith, length, set, ◌⊎◌, inl, inr}
use Rattle.std.proofs.lemmas.List.{get_or-set_same, get_or-set_other, length-set}
use Rattle.std.proofs.Math.Decide.{ℕ_discrete, dec_lt}
use Rattle.milp.specs.Form.{Entry}
use Rattle.verdicts.specs.WeightedSums.{AllBelow}
use Rattle.basis.specs.Dictionary.{place_of, IsBasic, IsResting, AllResting}
use Rattle.basis.specs.Bland.{exchanged}
use Rattle.basis.specs.declared.Place.{Place}
use Rattle.basis.specs.declared.Place.TheVariants.{Basic, AtLower, AtUpper, AtZero}

pub length-exchanged : (b : List Place) (q r : ℕ) (p : Place) → length (exchanged b q r p) ≡ length b
length-exchanged b q r p = length-set (set b q Basic) r p ∙ length-set b q Basic

-- the leaving variable rests
pub leaves_rests : (b : List Place) (q r : ℕ) (p : Place) → r < length b → p ≢ Basic → IsResting (exchanged b q r p) r
leaves_rests b q r p k h = record {
  known = rw (length-exchanged b q r p) k;
  not_basic = rw (get_or-set_same (set b q Basic) r p AtZero (rw (length-set b q Basic) k)) h;
}

pub enters_basic : (b : List Place) (q r : ℕ) (p : Place) → q < length b → q ≢ r → IsBasic (exchanged b q r p) q
enters_basic b q r p k h = get_or-set_other (set b q Basic) r q p AtZero h ∙ get_or-set_same b q Basic AtZero k

pub other_place : (b : List Place) (q r : ℕ) (p : Place) (v : ℕ) → v ≢ q → v ≢ r → place_of (exchanged b q r p) v ≡ place_of b v
other_place b q r p v h k = get_or-set_other (set b q Basic) r v p AtZero k ∙ get_or-set_other b q v Basic AtZero h

pub below : (b : List Place) (n : ℕ) (f : List Entry) → length b ≡ n → AllResting b f → AllBelow n f
below b n [] e h = tt
below b n (x ∷ f) e h = (rw (← e) (h.0.known), below b n f e h.1)

-- which variables are basic after the exchange
pub basic_after : (b : List Place) (q r : ℕ) (p : Place) (v : ℕ) → r < length b → p ≢ Basic → IsBasic (exchanged b q r p) v → v ≢ q → IsBasic b v × (v ≢ r)
basic_after b q r p v k h j n = elim (ℕ_discrete v r) [
  | yes e ↦ let P : ℕ → Type 0 = λ u. IsBasic (exchanged b q r p) u in absurd ((leaves_rests b q r p k h).not_basic (subst P e j))
  | no d ↦ (sym (other_place b q r p v n d) ∙ j, d)
]

pub stays_basic : (b : List Place) (q r : ℕ) (p : Place) (v : ℕ) → IsBasic b v → v ≢ q → v ≢ r → IsBasic (exchanged b q r p) v
stays_basic b q r p v j n d = other_place b q r p v n d ∙ j

-- a basic variable is one of the basis
pub basic_known : (b : List Place) (v : ℕ) → IsBasic b v → v < length b
basic_known [] v h = absurd (not_zero h)
  where
    not_zero : ¬ (AtZero ≡ Basic)
    not_zero e = cc
basic_known (p ∷ b) zero h = omega arith
basic_known (p ∷ b) (suc v) h = let k = basic_known b v h in omega arith

-- a variable is basic or rests
pub is_basic_or : (b : List Place) (v : ℕ) → v < length b → IsBasic b v ⊎ IsResting b v
is_basic_or b v h = go (place_of b v) refl
  where
    rests : (p : Place) → p ≢ Basic → place_of b v ≡ p → IsBasic b v ⊎ IsResting b v
    rests p n e = inr (record { known = h; not_basic = λ w. n (sym e ∙ w) })

    go : (p : Place) → place_of b v ≡ p → IsBasic b v ⊎ IsResting b v
    go Basic e = inl e
    go AtLower e = rests AtLower (λ w. differ w) e
      where
        differ : ¬ (AtLower ≡ Basic)
        differ w = cc
    go AtUpper e = rests AtUpper (λ w. differ w) e
      where
        differ : ¬ (AtUpper ≡ Basic)
        differ w = cc
    go AtZero e = rests AtZero (λ w. differ w) e
      where
        differ : ¬ (AtZero ≡ Basic)
        differ w = cc

pub rests_or : (b : List Place) (v : ℕ) → IsResting b v ⊎ (¬ (IsResting b v))
rests_or b v = elim (dec_lt v (length b)) [
  | yes known ↦ elim (is_basic_or b v known) [
    | inl basic ↦ inr (λ h. h.not_basic basic)
    | inr rests ↦ inl rests
  ]
  | no past ↦ inr (λ h. past h.known)
]
