-- A basis has at most one dictionary.
use Rattle.std.proofs.Common.{◌≡◌, ◌∙◌, ℕ, List, [], ◌∷◌, ◌<◌, ◌≢◌, refl, sym, ap, ◌==◌, cond, Bool, true, false, inl, inr}
use Rattle.std.proofs.lemmas.Option.{same_Some}
use mathlib.Core.Path.{ap₂}
use Rattle.rational.specs.Rational.{Rational, ◌+ℚ◌, ◌*ℚ◌, zero_ℚ, one_ℚ}
use Rattle.milp.specs.Form.{Entry, value_at}
use Rattle.verdicts.specs.WeightedSums.{coefficient_of}
use Rattle.rational.proofs.Laws as Q
use Rattle.basis.specs.System.{System, size, Satisfies}
use Rattle.basis.proofs.Places.{is_basic_or}
use Rattle.basis.specs.Dictionary.{place_of, IsBasic, IsResting, AllResting, Dictionary, Solves, IsDictionary, rate_of, RestsAt, IsBasicPoint}
use Rattle.basis.specs.Dictionary.{gain_of}
use Rattle.basis.specs.declared.Place.{Place}
use Rattle.basis.specs.declared.Place.TheVariants.{Basic, AtLower, AtUpper, AtZero}

-- the resting variable j is moved by t, and the basic ones follow
abbrev pub moved_by_place : Dictionary → ℕ → Rational → Place → ℕ → Rational
moved_by_place d j t Basic v = t *ℚ rate_of d j v
moved_by_place d j t AtLower v = cond (v == j) t zero_ℚ
moved_by_place d j t AtUpper v = cond (v == j) t zero_ℚ
moved_by_place d j t AtZero v = cond (v == j) t zero_ℚ

abbrev pub moved_alone : List Place → Dictionary → ℕ → Rational → ℕ → Rational
moved_alone b d j t v = moved_by_place d j t (place_of b v) v

at_place : (d : Dictionary) (j : ℕ) (t : Rational) (p : Place) (v : ℕ) → p ≢ Basic → moved_by_place d j t p v ≡ cond (v == j) t zero_ℚ
at_place d j t Basic v h = absurd (h refl)
at_place d j t AtLower v h = refl
at_place d j t AtUpper v h = refl
at_place d j t AtZero v h = refl

pub moved-resting : (b : List Place) (d : Dictionary) (j : ℕ) (t : Rational) (v : ℕ) → IsResting b v → moved_alone b d j t v ≡ cond (v == j) t zero_ℚ
moved-resting b d j t v h = at_place d j t (place_of b v) v h.not_basic

pub moved-basic : (b : List Place) (d : Dictionary) (j : ℕ) (t : Rational) (v : ℕ) → IsBasic b v → moved_alone b d j t v ≡ t *ℚ rate_of d j v
moved-basic b d j t v h = ap (λ p. moved_by_place d j t p v) h

pub part : (c t : Rational) (b : Bool) → c *ℚ cond b t zero_ℚ ≡ t *ℚ cond b c zero_ℚ
part c t true = Q.mul_comm c t
part c t false = Q.mul-zero c ∙ sym (Q.mul-zero t)

-- the value of a sum over resting variables where one of them is t and the others are 0
pub value-moved : (b : List Place) (x : ℕ → Rational) (j : ℕ) (t : Rational) (f : List Entry) → ((v : ℕ) → IsResting b v → x v ≡ cond (v == j) t zero_ℚ) → AllResting b f → value_at x f ≡ t *ℚ coefficient_of f j
value-moved b x j t [] h k = sym (Q.mul-zero t)
value-moved b x j t (e ∷ f) h k =
    ap₂ ◌+ℚ◌ (ap (λ y. e.coefficient *ℚ y) (h e.column k.0) ∙ part e.coefficient t (e.column == j)) (value-moved b x j t f h k.1)
    ∙ sym (Q.mul_add t _ _)

pub moved_solves : (b : List Place) (d : Dictionary) (j : ℕ) (t : Rational) → ((v : ℕ) → IsBasic b v → AllResting b (d.row v)) → Solves b d (moved_alone b d j t)
moved_solves b d j t h = record {
  values = λ v k. moved-basic b d j t v k ∙ sym (value-moved b (moved_alone b d j t) j t (d.row v) (moved-resting b d j t) (h v k));
}

-- ---- the coefficients of two dictionaries

module _ (s : System) (b : List Place) (d e : Dictionary) (h : IsDictionary s b d) (k : IsDictionary s b e) where
  satisfied : (j : ℕ) → Satisfies s (moved_alone b d j one_ℚ)
  satisfied j = (h.same_points (moved_alone b d j one_ℚ)).1 (moved_solves b d j one_ℚ h.over_resting.rows)

  pub same_rates : (v j : ℕ) → IsBasic b v → rate_of d j v ≡ rate_of e j v
  same_rates v j l =
      sym (Q.one-mul (rate_of d j v)) ∙ sym (moved-basic b d j one_ℚ v l)
      ∙ ((k.same_points (moved_alone b d j one_ℚ)).0 (satisfied j)).values v l
      ∙ value-moved b (moved_alone b d j one_ℚ) j one_ℚ (e.row v) (moved-resting b d j one_ℚ) (k.over_resting.rows v l)
      ∙ Q.one-mul (rate_of e j v)

  pub same_gains : (j : ℕ) → gain_of d j ≡ gain_of e j
  same_gains j =
      let x : ℕ → Rational = moved_alone b d j one_ℚ in
      sym (Q.one-mul (gain_of d j))
      ∙ sym (value-moved b x j one_ℚ d.objective (moved-resting b d j one_ℚ) h.over_resting.objective)
      ∙ sym (h.same_objective x (satisfied j)) ∙ k.same_objective x (satisfied j)
      ∙ value-moved b x j one_ℚ e.objective (moved-resting b d j one_ℚ) k.over_resting.objective
      ∙ Q.one-mul (gain_of e j)

-- ---- the point of a basis

pub same_place : (s : System) (p : Place) (v : ℕ) (a c : Rational) → p ≢ Basic → RestsAt s p v a → RestsAt s p v c → a ≡ c
same_place s Basic v a c n h k = absurd (n refl)
same_place s AtLower v a c n h k = same_Some _ _ (sym h ∙ k)
same_place s AtUpper v a c n h k = same_Some _ _ (sym h ∙ k)
same_place s AtZero v a c n h k = h.2 ∙ sym k.2

pub same_resting : (s : System) (b : List Place) (x y : ℕ → Rational) → IsBasicPoint s b x → IsBasicPoint s b y → (v : ℕ) → IsResting b v → x v ≡ y v
same_resting s b x y h k v r = same_place s (place_of b v) v (x v) (y v) r.not_basic (h.rests v r.known) (k.rests v r.known)

pub value_same-resting : (b : List Place) (x y : ℕ → Rational) (f : List Entry) → ((v : ℕ) → IsResting b v → x v ≡ y v) → AllResting b f → value_at x f ≡ value_at y f
value_same-resting b x y [] h k = refl
value_same-resting b x y (e ∷ f) h k = ap₂ (λ t u. e.coefficient *ℚ t +ℚ u) (h e.column k.0) (value_same-resting b x y f h k.1)

pub same_point : (s : System) (b : List Place) (d : Dictionary) (x y : ℕ → Rational) → IsDictionary s b d → IsBasicPoint s b x → IsBasicPoint s b y → (v : ℕ) → v < size s → x v ≡ y v
same_point s b d x y h k l v m = elim (is_basic_or b v (rw (h.size) m)) [
  | inl basic ↦
      ((h.same_points x).0 k.solves).values v basic
      ∙ value_same-resting b x y (d.row v) (same_resting s b x y k l) (h.over_resting.rows v basic)
      ∙ sym (((h.same_points y).0 l.solves).values v basic)
  | inr rests ↦ same_resting s b x y k l v rests
]
