-- The basic point after a step.
use Rattle.std.proofs.Common.{◌≡◌, ◌∙◌, ℕ, ◌+◌, List, [], ◌∷◌, ◌<◌, ◌≢◌, sym, ap, subst, length, slice_get, Option, Some, None, IfSome}
use mathlib.Core.Path.{ap₂}
use Rattle.std.proofs.Math.Decide.{ℕ_discrete}
use Rattle.rational.specs.Rational.{Rational, ◌+ℚ◌, ◌*ℚ◌, zero_ℚ}
use Rattle.milp.specs.Form.{Entry, value_at}
use Rattle.rational.proofs.Laws as Q
use Rattle.rational.proofs.Laws.{field}
use Rattle.basis.specs.System.{System, Satisfies}
use Rattle.basis.specs.Dictionary.{place_of, Dictionary, IsDictionary, RestsAt, IsBasicPoint}
use Rattle.basis.specs.Bland.{exchanged, IsDirection}
use Rattle.basis.specs.declared.Place.{Place}
use Rattle.basis.specs.declared.Place.TheVariants.{Basic, AtLower, AtUpper, AtZero}
use Rattle.basis.proofs.Places.{length-exchanged, enters_basic, other_place}
use Rattle.basis.proofs.Rays.{direction_solves}
use Rattle.std.proofs.lemmas.List.{get_or-set_same, length-set}
use Rattle.std.specs.Prelude.{set}

abbrev pub after : (ℕ → Rational) → Rational → (ℕ → Rational) → ℕ → Rational
after x t r v = x v +ℚ t *ℚ r v

pub value-after : (x : ℕ → Rational) (t : Rational) (r : ℕ → Rational) (f : List Entry) → value_at (after x t r) f ≡ value_at x f +ℚ t *ℚ value_at r f
value-after x t r [] = sym (ap (λ u. zero_ℚ +ℚ u) (Q.mul-zero t) ∙ Q.zero-add zero_ℚ)
value-after x t r (e ∷ f) = ap (λ u. e.coefficient *ℚ (x e.column +ℚ t *ℚ r e.column) +ℚ u) (value-after x t r f) ∙ step e.coefficient (x e.column) (r e.column) (value_at x f) (value_at r f) t
  where
    step : (c a b u v t : Rational) → c *ℚ (a +ℚ t *ℚ b) +ℚ (u +ℚ t *ℚ v) ≡ (c *ℚ a +ℚ u) +ℚ t *ℚ (c *ℚ b +ℚ v)
    step c a b u v t = simp field

pub satisfies-after : (s : System) (x : ℕ → Rational) (t : Rational) (r : ℕ → Rational) → Satisfies s x → Satisfies s r → Satisfies s (after x t r)
satisfies-after s x t r h k = record { values = λ i. go i (slice_get s.forms i) (h.values i) (k.values i) }
  where
    go : (i : ℕ) (o : Option (List Entry)) → IfSome o (λ f. x (s.columns + i) ≡ value_at x f) → IfSome o (λ f. r (s.columns + i) ≡ value_at r f) → IfSome o (λ f. after x t r (s.columns + i) ≡ value_at (after x t r) f)
    go i None a b = tt
    go i (Some f) a b = ap₂ (λ u v. u +ℚ t *ℚ v) a b ∙ sym (value-after x t r f)

rests_still : (s : System) (p : Place) (v : ℕ) (y z : Rational) → (p ≢ Basic → z ≡ y) → RestsAt s p v y → RestsAt s p v z
rests_still s Basic v y z e h = tt
rests_still s AtLower v y z e h = rw (e (λ w. differ w)) h
  where
    differ : ¬ (AtLower ≡ Basic)
    differ w = cc
rests_still s AtUpper v y z e h = rw (e (λ w. differ w)) h
  where
    differ : ¬ (AtUpper ≡ Basic)
    differ w = cc
rests_still s AtZero v y z e h = (h.0, h.1, e (λ w. differ w) ∙ h.2)
  where
    differ : ¬ (AtZero ≡ Basic)
    differ w = cc

pub point_after : (s : System) (b : List Place) (d : Dictionary) (x : ℕ → Rational) (q i : ℕ) (place : Place) (heading t : Rational) (r : ℕ → Rational)
    → IsDictionary s b d → IsBasicPoint s b x → IsDirection b d q heading r → q < length b → i < length b → RestsAt s place i (after x t r i)
    → IsBasicPoint s (exchanged b q i place) (after x t r)
point_after s b d x q i place heading t r h p k j l lands = record {
  rests = λ v m. go v (subst (λ (n : ℕ). v < n) (length-exchanged b q i place) m);
  solves = satisfies-after s x t r p.solves (direction_solves s b d q heading r h k);
}
  where
    landed : place_of (exchanged b q i place) i ≡ place
    landed = get_or-set_same (set b q Basic) i place AtZero (rw (length-set b q Basic) l)

    go : (v : ℕ) → v < length b → RestsAt s (place_of (exchanged b q i place) v) v (after x t r v)
    go v m = elim (ℕ_discrete v i) [
      | yes same ↦ let P : ℕ → Type 0 = λ u. RestsAt s (place_of (exchanged b q i place) u) u (after x t r u) in subst P (sym same) (let R : Place → Type 0 = λ w. RestsAt s w i (after x t r i) in subst R (sym landed) lands)
      | no n ↦ elim (ℕ_discrete v q) [
        | yes same ↦ let P : ℕ → Type 0 = λ u. RestsAt s (place_of (exchanged b q i place) u) u (after x t r u) in
            let R : Place → Type 0 = λ w. RestsAt s w q (after x t r q) in
            subst P (sym same) (subst R (sym (enters_basic b q i place j (λ w. n (same ∙ w)))) tt)
        | no o ↦ let R : Place → Type 0 = λ w. RestsAt s w v (after x t r v) in
            subst R (sym (other_place b q i place v o n))
            (rests_still s (place_of b v) v (x v) (after x t r v) (λ w. ap (λ u. x v +ℚ t *ℚ u) (k.others v (record { known = m; not_basic = w }) o) ∙ ap (λ u. x v +ℚ u) (Q.mul-zero t) ∙ Q.add-zero (x v)) (p.rests v m))
      ]
    ]
