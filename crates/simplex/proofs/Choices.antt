-- What the tests of a choice tell.
use Rattle.std.proofs.Common.{◌≡◌, ◌∙◌, ℕ, ◌+◌, ◌<◌, ◌≤◌, List, length, refl, sym, ap, subst, arith, Bool, true, false, Option, Some, None, IfSome, slice_get, ◌⊎◌, inl, inr, if◌then◌else◌}
use Rattle.std.specs.Prelude.{option_and_then}
use Rattle.std.proofs.Math.Decide.{ℕ_discrete}
use Rattle.rational.specs.Rational.{Rational, zero_ℚ, neg_ℚ, ◌≤ℚ◌, ◌<ℚ◌}
use Rattle.rational.proofs.Laws as Q
use Rattle.verdicts.specs.Proves.{lies_above, lies_below}
use Rattle.rational.specs.Compare.{is_less}
use Rattle.rational.proofs.Laws.{at_most_true, at_most_false, less_true, less_false}
use Rattle.basis.specs.System.{Bounds, System, lower_of, upper_of, CanRise, CanFall}
use Rattle.basis.specs.Dictionary.{place_of, IsResting, Dictionary, rate_of}
use Rattle.basis.specs.Bland.{IsOutside, HasPassed, CanRaise, CanMend, Mends}
use Rattle.basis.specs.declared.Place.{Place}
use Rattle.basis.specs.declared.Place.TheVariants.{Basic, AtLower, AtUpper, AtZero}
use Rattle.basis.proofs.Laws.{basic_known}
use Rattle.dictionary.specs.Table.{is_basic}
use Rattle.dictionary.specs.Values.{passed_bound, can_rise, can_fall, can_raise, can_mend}
use Rattle.dictionary.proofs.Laws.{basic_test}

pub lower_at : (s : System) (v : ℕ) (b : Bounds) → slice_get s.bounds v ≡ Some b → lower_of s v ≡ b.lower
lower_at s v b e = ap (option_and_then (λ (c : Bounds). c.lower)) e

pub upper_at : (s : System) (v : ℕ) (b : Bounds) → slice_get s.bounds v ≡ Some b → upper_of s v ≡ b.upper
upper_at s v b e = ap (option_and_then (λ (c : Bounds). c.upper)) e

below_lower : (o : Option Rational) (a : Rational) → lies_above o a ≡ false → (l : Rational) × (o ≡ Some l) × (a <ℚ l)
below_lower None a e = absurd (clash e)
  where
    clash : ¬ (true ≡ false)
    clash k = cc
below_lower (Some l) a e = (l, refl, at_most_false l a e)

above_upper : (o : Option Rational) (a : Rational) → lies_below o a ≡ false → (u : Rational) × (o ≡ Some u) × (u <ℚ a)
above_upper None a e = absurd (clash e)
  where
    clash : ¬ (true ≡ false)
    clash k = cc
above_upper (Some u) a e = (u, refl, at_most_false a u e)

-- ---- one variable

passed_some : (s : System) (x : ℕ → Rational) (v : ℕ) (b : Bounds) (a : Rational) (p : Place) → slice_get s.bounds v ≡ Some b → a ≡ x v → passed_bound b a ≡ Some p
    → HasPassed s x v p × (HasPassed s x v AtLower ⊎ HasPassed s x v AtUpper)
passed_some s x v b a p e f h = go (lies_above b.lower a) refl (lies_below b.upper a) refl h
  where
    at_low : lies_above b.lower a ≡ false → HasPassed s x v AtLower
    at_low k = let r = below_lower b.lower a k in (r.0, lower_at s v b e ∙ r.1, (let P : Rational → Type 0 = λ t. t <ℚ r.0 in subst P f r.2))

    at_high : lies_below b.upper a ≡ false → HasPassed s x v AtUpper
    at_high k = let r = above_upper b.upper a k in (r.0, upper_at s v b e ∙ r.1, (let P : Rational → Type 0 = λ t. r.0 <ℚ t in subst P f r.2))

    same_some : (q r : Place) → Some q ≡ Some r → q ≡ r
    same_some q r k = cc

    none_some : ¬ (None ≡ Some p)
    none_some k = cc

    go : (t : Bool) → lies_above b.lower a ≡ t → (u : Bool) → lies_below b.upper a ≡ u → (if t then (if u then None else Some AtUpper) else Some AtLower) ≡ Some p → HasPassed s x v p × (HasPassed s x v AtLower ⊎ HasPassed s x v AtUpper)
    go false k u l m = let P : Place → Type 0 = HasPassed s x v in (subst P (same_some AtLower p m) (at_low k), inl (at_low k))
    go true k false l m = let P : Place → Type 0 = HasPassed s x v in (subst P (same_some AtUpper p m) (at_high l), inr (at_high l))
    go true k true l m = absurd (none_some m)

pub outside_some : (s : System) (places : List Place) (x : ℕ → Rational) (v : ℕ) (b : Bounds) (a : Rational) (o : Option Place) → slice_get s.bounds v ≡ Some b → a ≡ x v → is_basic (place_of places v) ≡ true → o ≡ passed_bound b a
    → IfSome o (λ p. IsOutside s places x v × HasPassed s x v p)
outside_some s places x v b a None e f g h = tt
outside_some s places x v b a (Some p) e f g h = let r = passed_some s x v b a p e f (sym h) in (record { basic = basic_test (place_of places v) g; outside = r.1 }, r.0)

pub none_outside : (s : System) (places : List Place) (x : ℕ → Rational) (n m : ℕ) → length places ≡ n → n ≤ m → ((k : ℕ) → k < m → ¬ (IsOutside s places x k)) → (v : ℕ) → ¬ (IsOutside s places x v)
none_outside s places x n m e l h v out = h v (let k = basic_known places v out.basic in omega arith) out

-- one more that is not
pub one_more : (P : ℕ → Type 0) (v : ℕ) → ((k : ℕ) → k < v → ¬ (P k)) → ¬ (P v) → (k : ℕ) → k < v + 1 → ¬ (P k)
one_more P v h n k l p = elim (ℕ_discrete k v) [
  | yes same ↦ n (subst P same p)
  | no differ ↦ h k (omega arith) p
]

-- ---- moves inside bounds

rise_false : (s : System) (x : ℕ → Rational) (v : ℕ) (b : Bounds) (a : Rational) → upper_of s v ≡ b.upper → a ≡ x v → can_rise b a ≡ false → ¬ (CanRise s x v)
rise_false s x v b a e f h k = let P : Option Rational → Type 0 = λ o. IfSome o (λ u. x v <ℚ u) in go b.upper h (subst P e k)
  where
    clash : ¬ (true ≡ false)
    clash w = cc

    go : (o : Option Rational) → can_rise (record { lower = None; upper = o }) a ≡ false → ¬ (IfSome o (λ u. x v <ℚ u))
    go None l m = clash l
    go (Some u) l m = Q.lt-not-le (x v) u m (let R : Rational → Type 0 = λ t. u ≤ℚ t in subst R f (less_false a u l))

fall_false : (s : System) (x : ℕ → Rational) (v : ℕ) (b : Bounds) (a : Rational) → lower_of s v ≡ b.lower → a ≡ x v → can_fall b a ≡ false → ¬ (CanFall s x v)
fall_false s x v b a e f h k = let P : Option Rational → Type 0 = λ o. IfSome o (λ l. l <ℚ x v) in go b.lower h (subst P e k)
  where
    clash : ¬ (true ≡ false)
    clash w = cc

    go : (o : Option Rational) → can_fall (record { lower = o; upper = None }) a ≡ false → ¬ (IfSome o (λ l. l <ℚ x v))
    go None l m = clash l
    go (Some u) l m = Q.lt-not-le u (x v) m (let R : Rational → Type 0 = λ t. t ≤ℚ u in subst R f (less_false u a l))

pub raise_false : (s : System) (x : ℕ → Rational) (v : ℕ) (b : Bounds) (a rate : Rational) → slice_get s.bounds v ≡ Some b → a ≡ x v → can_raise b a rate ≡ false → ¬ (CanRaise s x v rate)
raise_false s x v b a rate e f h = go (is_less zero_ℚ rate) refl (is_less rate zero_ℚ) refl h
  where
    go : (t : Bool) → is_less zero_ℚ rate ≡ t → (u : Bool) → is_less rate zero_ℚ ≡ u → (if t then can_rise b a else (if u then can_fall b a else false)) ≡ false → ¬ (CanRaise s x v rate)
    go true k u l m (inl n) = rise_false s x v b a (upper_at s v b e) f m n.1
    go true k u l m (inr n) = Q.lt-not-le rate zero_ℚ n.0 (Q.le_of_lt _ _ (less_true zero_ℚ rate k))
    go false k true l m (inl n) = Q.lt-not-le zero_ℚ rate n.0 (less_false zero_ℚ rate k)
    go false k true l m (inr n) = fall_false s x v b a (lower_at s v b e) f m n.1
    go false k false l m (inl n) = Q.lt-not-le zero_ℚ rate n.0 (less_false zero_ℚ rate k)
    go false k false l m (inr n) = Q.lt-not-le rate zero_ℚ n.0 (less_false rate zero_ℚ l)

-- ---- variables that enter

resting : (places : List Place) (q : ℕ) → q < length places → is_basic (place_of places q) ≡ false → IsResting places q
resting places q h e = record { known = h; not_basic = λ w. clash (sym (ap is_basic w) ∙ e) }
  where
    clash : ¬ (true ≡ false)
    clash k = cc

mend_false : (s : System) (x : ℕ → Rational) (q : ℕ) (p : Place) (b : Bounds) (a rate : Rational) → slice_get s.bounds q ≡ Some b → a ≡ x q → can_mend p b a rate ≡ false → ¬ (CanMend s x p q rate)
mend_false s x q Basic b a rate e f h = λ k. k
mend_false s x q AtLower b a rate e f h = raise_false s x q b a rate e f h
mend_false s x q AtUpper b a rate e f h = raise_false s x q b a (neg_ℚ rate) e f h
mend_false s x q AtZero b a rate e f h = λ k. k

pub mends_no : (s : System) (places : List Place) (x : ℕ → Rational) (d : Dictionary) (r : ℕ) (p : Place) (q : ℕ) (b : Bounds) (a rate : Rational) (t : Bool) → slice_get s.bounds q ≡ Some b → a ≡ x q → rate ≡ rate_of d q r
    → t ≡ can_mend p b a rate → t ≡ false → ¬ (Mends s places x d r p q)
mends_no s places x d r p q b a rate t e f g h k m = mend_false s x q p b a rate e f (sym h ∙ k) (let P : Rational → Type 0 = λ n. CanMend s x p q n in subst P (sym g) (m.can_mend))
