-- The bound at which a variable is that can't move.
use Rattle.std.proofs.Common.{◌≡◌, ℕ, ◌≢◌, List, length, refl, sym, ap, subst, Option, Some, None, IfSome, inl, inr}
use Rattle.rational.specs.Rational.{Rational, zero_ℚ, neg_ℚ, ◌≤ℚ◌, ◌<ℚ◌}
use Rattle.milp.specs.Points.{IsWithin}
use Rattle.rational.proofs.Laws as Q
use Rattle.basis.specs.System.{System, size, lower_of, upper_of, IsInside, AllInside, AreBoundsInOrder, CanRise, CanFall}
use Rattle.basis.specs.Dictionary.{place_of, IsResting, RestsAt, IsBasicPoint}
use Rattle.basis.specs.Bland.{IsOutside, CanRaise}
use Rattle.basis.specs.declared.Place.{Place}
use Rattle.basis.specs.declared.Place.TheVariants.{Basic, AtLower, AtUpper, AtZero}
use Rattle.basis.proofs.Order.{not_less, signs_of, neg_above, neg_below}
use Rattle.basis.proofs.Places.{is_basic_or}
use Rattle.basis.proofs.FormWeights.{UsesBound}

at_lower : (lower : Option Rational) (y : Rational) → IfSome lower (λ l. l ≤ℚ y) → ¬ (IfSome lower (λ l. l <ℚ y)) → lower ≡ Some y
at_lower None y h n = absurd (n tt)
at_lower (Some l) y h n = ap Some (Q.le_antisymm l y h (not_less l y n))

at_upper : (upper : Option Rational) (y : Rational) → IfSome upper (λ u. y ≤ℚ u) → ¬ (IfSome upper (λ u. y <ℚ u)) → upper ≡ Some y
at_upper None y h n = absurd (n tt)
at_upper (Some u) y h n = ap Some (Q.le_antisymm u y (not_less y u n) h)

-- a variable that can't fall where its weight is positive, nor rise where it is negative, is at the bound that the weight uses
pub held : (s : System) (x : ℕ → Rational) (v : ℕ) (a : Rational) → IsInside s x v → (zero_ℚ <ℚ a → ¬ (CanFall s x v)) → (a <ℚ zero_ℚ → ¬ (CanRise s x v)) → UsesBound s v a (x v)
held s x v a inside low high n = elim (signs_of a n) [
  | inl above ↦ rw (Q.true_less zero_ℚ a above) (at_lower (lower_of s v) (x v) inside.low (low above))
  | inr below ↦ rw (Q.false_less zero_ℚ a (Q.le_of_lt _ _ below)) (at_upper (upper_of s v) (x v) inside.high (high below))
]

-- what a variable can't do that can't raise anything at the rate -a
pub held_down : (s : System) (x : ℕ → Rational) (v : ℕ) (a : Rational) → IsInside s x v → ¬ (CanRaise s x v (neg_ℚ a)) → UsesBound s v a (x v)
held_down s x v a inside n = held s x v a inside (λ above fall. n (inr (neg_above a above, fall))) (λ below rise. n (inl (neg_below a below, rise)))

pub held_up : (s : System) (x : ℕ → Rational) (v : ℕ) (a : Rational) → IsInside s x v → ¬ (CanRaise s x v a) → UsesBound s v (neg_ℚ a) (x v)
held_up s x v a inside n = held_down s x v (neg_ℚ a) inside (let P : Rational → Type 0 = λ t. ¬ (CanRaise s x v t) in subst P (sym (Q.neg_neg a)) n)

-- ---- inside

ordered : (lower upper : Option Rational) (y : Rational) → IfSome lower (λ l. IfSome upper (λ u. l ≤ℚ u)) → lower ≡ Some y → IsWithin lower upper y
ordered None upper y o e = record { low = tt; high = absurd (clash e) }
  where
    clash : ¬ (None ≡ Some y)
    clash k = cc
ordered (Some l) upper y o e =
    let same : l ≡ y = cc in
    record { low = subst (λ t. l ≤ℚ t) same (Q.le_refl l); high = (let P : Rational → Type 0 = λ t. IfSome upper (λ u. t ≤ℚ u) in subst P same o) }

ordered_above : (lower upper : Option Rational) (y : Rational) → IfSome lower (λ l. IfSome upper (λ u. l ≤ℚ u)) → upper ≡ Some y → IsWithin lower upper y
ordered_above lower upper y o e = record { low = low lower o; high = rw e (Q.le_refl y) }
  where
    low : (k : Option Rational) → IfSome k (λ l. IfSome upper (λ u. l ≤ℚ u)) → IfSome k (λ l. l ≤ℚ y)
    low None h = tt
    low (Some l) h = let P : Option Rational → Type 0 = λ w. IfSome w (λ u. l ≤ℚ u) in subst P e h

inside_at : (s : System) (p : Place) (v : ℕ) (y : Rational) → AreBoundsInOrder s → p ≢ Basic → RestsAt s p v y → IsWithin (lower_of s v) (upper_of s v) y
inside_at s Basic v y o n r = absurd (n refl)
inside_at s AtLower v y o n r = ordered (lower_of s v) (upper_of s v) y (o v) r
inside_at s AtUpper v y o n r = ordered_above (lower_of s v) (upper_of s v) y (o v) r
inside_at s AtZero v y o n r = record { low = rw (r.0) tt; high = rw (r.1) tt }

-- a resting variable is inside its bounds
pub resting_inside : (s : System) (b : List Place) (x : ℕ → Rational) (v : ℕ) → AreBoundsInOrder s → IsBasicPoint s b x → IsResting b v → IsInside s x v
resting_inside s b x v o h r = inside_at s (place_of b v) v (x v) o r.not_basic (h.rests v r.known)

-- where no basic variable is outside its bounds, all variables are inside
pub none_outside_inside : (s : System) (b : List Place) (x : ℕ → Rational) → AreBoundsInOrder s → length b ≡ size s → IsBasicPoint s b x → ((v : ℕ) → ¬ (IsOutside s b x v)) → AllInside s x
none_outside_inside s b x o e h n v k = elim (is_basic_or b v (rw e k)) [
  | inl basic ↦ record { low = low (lower_of s v) (λ l m. (λ j. n v (record { basic = basic; outside = inl (l, m, j) }))); high = high (upper_of s v) (λ u m. (λ j. n v (record { basic = basic; outside = inr (u, m, j) }))) }
  | inr rests ↦ resting_inside s b x v o h rests
]
  where
    low : (k : Option Rational) → ((l : Rational) → k ≡ Some l → ¬ (x v <ℚ l)) → IfSome k (λ l. l ≤ℚ x v)
    low None h = tt
    low (Some l) h = not_less (x v) l (h l refl)

    high : (k : Option Rational) → ((u : Rational) → k ≡ Some u → ¬ (u <ℚ x v)) → IfSome k (λ u. x v ≤ℚ u)
    high None h = tt
    high (Some u) h = not_less u (x v) (h u refl)
