-- The direction of an unbounded basis, made whole, is an improving ray.
use Rattle.std.proofs.Common.{◌≡◌, ◌∙◌, ℕ, ◌+◌, ◌<◌, List, [], ◌∷◌, length, refl, sym, ap, subst, arith, Bool, true, false, cond, Option, Some, None, IfSome, slice_get, inl, inr, IsTrue}
use Rattle.std.specs.Prelude.{option_and_then, pos, ◌+ℤ◌, if◌then◌else◌, ◌*ℤ◌, ◌≤ℤ◌}
use Rattle.std.proofs.lemmas.Int.{ints}
use Rattle.std.proofs.lemmas.Option.{slice_get_within}
use mathlib.Core.Path.{ap₂}
use Rattle.rational.specs.Rational.{Rational, whole, zero_ℚ, one_ℚ, inv_ℚ, ◌+ℚ◌, ◌-ℚ◌, ◌*ℚ◌, ◌≤ℚ◌, ◌<ℚ◌}
use Rattle.milp.specs.Form.{Entry, value_at, number_at, sum_at}
use Rattle.milp.specs.Problem.{Column, Row, Problem}
use Rattle.milp.specs.Points.{IsHarmless, IsImprovingRay, IsWhole, sign_of}
use Rattle.verdicts.specs.Certificate.{Side, Low, High, Derived}
use Rattle.verdicts.specs.WeightedSums.{scaled}
use Rattle.verdicts.specs.Proves.{narrows, lesser, greater, lower_under, upper_under, is_integer}
use Rattle.verdicts.proofs.Laws.{value-scaled, le_by, mul-le-mul_neg, minus_one-mul}
use Rattle.rational.proofs.Laws as Q
use Rattle.rational.proofs.Laws.{field}
use Rattle.basis.specs.System.{System, size, lower_of, upper_of, Satisfies}
use Rattle.basis.specs.Dictionary.{Dictionary, gain_of}
use Rattle.basis.specs.Bland.{ReachesNone}
use Rattle.basis.specs.Node.{system_of, integer_at, IsOverColumns}
use Rattle.rational.specs.Denominators.{common_denominator}
use Rattle.basis.specs.Weights.{numbers_from, integer_numbers, made_whole}
use Rattle.basis.specs.Relaxation.{IsUnboundedBasis}
use Rattle.basis.specs.declared.Place.{Place}
use Rattle.basis.specs.declared.Place.TheVariants.{AtLower, AtUpper}
use Rattle.basis.proofs.Lists.{length-numbers, numbers-below}
use Rattle.basis.proofs.Order.{le_or_less, above_some, below_some, not_le, neg_above}
use Rattle.basis.proofs.Rays.{direction_solves, direction_value, arrives}
use Rattle.basis.proofs.Start.{same_below}
use Rattle.basis.proofs.CommonDenominators.{common_of_number, common_some, multiple_whole}
use Rattle.basis.proofs.NodeTerms.{lower-column, upper-column, row-lower, row-upper}
use Rattle.basis.proofs.NodePoints.{row_known, row_number, column_known}

-- ---- bounds that are never reached

-- a variable with a lower bound doesn't fall, and one with an upper bound doesn't rise
pub harmless : (s : System) (x r : ℕ → Rational) (v : ℕ) → v < size s → ReachesNone s x r → IsHarmless (lower_of s v) (upper_of s v) (r v)
harmless s x r v k h = record { low = low (lower_of s v) refl; high = high (upper_of s v) refl }
  where
    low : (o : Option Rational) → lower_of s v ≡ o → IfSome o (λ b. zero_ℚ ≤ℚ r v)
    low None e = tt
    low (Some l) e = elim (le_or_less zero_ℚ (r v)) [
      | inl m ↦ m
      | inr m ↦ absurd (h ((l -ℚ x v) *ℚ inv_ℚ (r v)) v AtLower k (m, e ∙ ap Some (arrives (x v) (r v) l (below_some (r v) m))))
    ]

    high : (o : Option Rational) → upper_of s v ≡ o → IfSome o (λ b. r v ≤ℚ zero_ℚ)
    high None e = tt
    high (Some u) e = elim (le_or_less (r v) zero_ℚ) [
      | inl m ↦ m
      | inr m ↦ absurd (h ((u -ℚ x v) *ℚ inv_ℚ (r v)) v AtUpper k (m, e ∙ ap Some (arrives (x v) (r v) u (above_some (r v) m))))
    ]

-- ---- multiples

pub one_at_most : (m : ℕ) → 0 < m → one_ℚ ≤ℚ whole (pos m)
one_at_most m h = record { cross = parts m h }
  where
    parts : (m : ℕ) → 0 < m → (pos 1 *ℤ pos 1) ≤ℤ (pos m *ℤ pos 1)
    parts m h = omega (arith, ints)

times_high : (a : Rational) (m : ℕ) → zero_ℚ ≤ℚ a → zero_ℚ ≤ℚ a *ℚ whole (pos m)
times_high a m h = le_by _ _ _ _ (sym (Q.mul-zero (whole (pos m)))) (Q.mul_comm a (whole (pos m))) (Q.mul-le-mul (whole (pos m)) zero_ℚ a (Q.zero-le_whole m) h)

times_low : (a : Rational) (m : ℕ) → a ≤ℚ zero_ℚ → a *ℚ whole (pos m) ≤ℚ zero_ℚ
times_low a m h = le_by _ _ _ _ (Q.mul_comm a (whole (pos m))) (sym (Q.mul-zero (whole (pos m)))) (Q.mul-le-mul (whole (pos m)) a zero_ℚ (Q.zero-le_whole m) h)

pub times_below : (a : Rational) (m : ℕ) → 0 < m → a <ℚ zero_ℚ → a *ℚ whole (pos m) <ℚ zero_ℚ
times_below a m k h = not_le zero_ℚ (a *ℚ whole (pos m)) (λ l. Q.lt-not-le a zero_ℚ h (Q.le_trans zero_ℚ (a *ℚ whole (pos m)) a l
    (le_by _ _ _ _ refl (sym (Q.mul-one a)) (mul-le-mul_neg a one_ℚ (whole (pos m)) (Q.le_of_lt a zero_ℚ h) (one_at_most m k)))))

harmless_times : (lower upper : Option Rational) (a : Rational) (m : ℕ) → IsHarmless lower upper a → IsHarmless lower upper (a *ℚ whole (pos m))
harmless_times lower upper a m h = record { low = low lower h.low; high = high upper h.high }
  where
    low : (o : Option Rational) → IfSome o (λ b. zero_ℚ ≤ℚ a) → IfSome o (λ b. zero_ℚ ≤ℚ a *ℚ whole (pos m))
    low None k = tt
    low (Some b) k = times_high a m k

    high : (o : Option Rational) → IfSome o (λ b. a ≤ℚ zero_ℚ) → IfSome o (λ b. a *ℚ whole (pos m) ≤ℚ zero_ℚ)
    high None k = tt
    high (Some b) k = times_low a m k

pub value-times : (r : ℕ → Rational) (w : Rational) (f : List Entry) → value_at (λ v. r v *ℚ w) f ≡ value_at r f *ℚ w
value-times r w [] = sym (Q.zero-mul w)
value-times r w (e ∷ f) = ap₂ ◌+ℚ◌ (sym (Q.mul_assoc e.coefficient (r e.column) w)) (value-times r w f) ∙ sym (Q.add_mul _ _ w)

satisfies-times : (s : System) (r : ℕ → Rational) (w : Rational) → Satisfies s r → Satisfies s (λ v. r v *ℚ w)
satisfies-times s r w h = record { values = λ i. go i (slice_get s.forms i) (h.values i) }
  where
    go : (i : ℕ) (o : Option (List Entry)) → IfSome o (λ f. r (s.columns + i) ≡ value_at r f) → IfSome o (λ f. r (s.columns + i) *ℚ w ≡ value_at (λ v. r v *ℚ w) f)
    go i None k = tt
    go i (Some f) k = ap (λ t. t *ℚ w) k ∙ sym (value-times r w f)

-- ---- bounds of the problem itself

own_lower_there : (p : Problem) (sides : List Side) (j : ℕ) (v : Rational) → IfSome (lower_under p sides j) (λ b. zero_ℚ ≤ℚ v) → IfSome (lower_under p [] j) (λ b. zero_ℚ ≤ℚ v)
own_lower_there p [] j v h = h
own_lower_there p (Low s ∷ sides) j v h = own_lower_there p sides j v h
own_lower_there p (High s ∷ sides) j v h = own_lower_there p sides j v (go (narrows s j) h)
  where
    go : (t : Bool) → IfSome (if t then Some (greater (lower_under p sides j) (whole (s.at +ℤ pos 1))) else lower_under p sides j) (λ b. zero_ℚ ≤ℚ v) → IfSome (lower_under p sides j) (λ b. zero_ℚ ≤ℚ v)
    go true k = every (lower_under p sides j) k
      where
        every : (o : Option Rational) → zero_ℚ ≤ℚ v → IfSome o (λ b. zero_ℚ ≤ℚ v)
        every None k = tt
        every (Some b) k = k
    go false k = k

own_upper_there : (p : Problem) (sides : List Side) (j : ℕ) (v : Rational) → IfSome (upper_under p sides j) (λ b. v ≤ℚ zero_ℚ) → IfSome (upper_under p [] j) (λ b. v ≤ℚ zero_ℚ)
own_upper_there p [] j v h = h
own_upper_there p (High s ∷ sides) j v h = own_upper_there p sides j v h
own_upper_there p (Low s ∷ sides) j v h = own_upper_there p sides j v (go (narrows s j) h)
  where
    go : (t : Bool) → IfSome (if t then Some (lesser (upper_under p sides j) (whole s.at)) else upper_under p sides j) (λ b. v ≤ℚ zero_ℚ) → IfSome (upper_under p sides j) (λ b. v ≤ℚ zero_ℚ)
    go true k = every (upper_under p sides j) k
      where
        every : (o : Option Rational) → v ≤ℚ zero_ℚ → IfSome o (λ b. v ≤ℚ zero_ℚ)
        every None k = tt
        every (Some b) k = k
    go false k = k

-- ---- the ray

module _ (p : Problem) (ds : List Derived) (sides : List Side) (over : IsOverColumns p ds sides) (b : List Place) (d : Dictionary) (x : ℕ → Rational) (q : ℕ) (r : ℕ → Rational) (h : IsUnboundedBasis (system_of p ds sides) b d x q r) where
  multiple : ℕ
  multiple = common_denominator 1 (integer_numbers (system_of p ds sides) (integer_at p) r)

  multiple_some : 0 < common_denominator 1 (integer_numbers (system_of p ds sides) (integer_at p) r)
  multiple_some = common_some 1 (integer_numbers (system_of p ds sides) (integer_at p) r) (omega arith)

  solves : Satisfies (system_of p ds sides) r
  solves = direction_solves (system_of p ds sides) b d q h.heading r h.is_dictionary h.is_direction

  ray_solves : Satisfies (system_of p ds sides) (made_whole (system_of p ds sides) (integer_at p) r)
  ray_solves = satisfies-times (system_of p ds sides) r (whole (pos (common_denominator 1 (integer_numbers (system_of p ds sides) (integer_at p) r)))) solves

  ray_harmless : (v : ℕ) → v < size (system_of p ds sides) → IsHarmless (lower_of (system_of p ds sides) v) (upper_of (system_of p ds sides) v) (made_whole (system_of p ds sides) (integer_at p) r v)
  ray_harmless v k = harmless_times (lower_of (system_of p ds sides) v) (upper_of (system_of p ds sides) v) (r v) _ (harmless (system_of p ds sides) x r v k h.reaches_none)

  column : (j : ℕ) (c : Column) → slice_get p.columns j ≡ Some c → IsHarmless c.lower c.upper (number_at (numbers_from 0 (length p.columns) (made_whole (system_of p ds sides) (integer_at p) r)) j)
  column j c e =
      let low : j < length p.columns = slice_get_within p.columns j c e in
      let k = ray_harmless j (column_known p ds sides over r solves j low) in
      let y : Rational = made_whole (system_of p ds sides) (integer_at p) r j in
      let own : IsHarmless (lower_under p [] j) (upper_under p [] j) (made_whole (system_of p ds sides) (integer_at p) r j) =
      record { low = own_lower_there p sides j _ (rw (lower-column p ds sides j low) at k.low); high = own_upper_there p sides j _ (rw (upper-column p ds sides j low) at k.high) } in
      let P : Option Column → Type 0 = λ o. IsHarmless (option_and_then (λ (c : Column). c.lower) o) (option_and_then (λ (c : Column). c.upper) o) (made_whole (system_of p ds sides) (integer_at p) r j) in
      let R : Rational → Type 0 = λ v. IsHarmless c.lower c.upper v in
      subst R (sym (numbers-below (length p.columns) (made_whole (system_of p ds sides) (integer_at p) r) j low)) (subst P e own)

  row : (i : ℕ) (w : Row) → slice_get p.rows i ≡ Some w → IsHarmless w.lower w.upper (sum_at (numbers_from 0 (length p.columns) (made_whole (system_of p ds sides) (integer_at p) r)) w.entries)
  row i w e =
      let low : i < length p.rows = slice_get_within p.rows i w e in
      let k = ray_harmless (length p.columns + i) (row_known p ds sides over r solves i low) in
      let R : Rational → Type 0 = λ v. IsHarmless w.lower w.upper v in
      subst R (sym (row_number p ds sides over (made_whole (system_of p ds sides) (integer_at p) r) ray_solves i w low e))
      (record { low = rw (row-lower p ds sides i w low e) at k.low; high = rw (row-upper p ds sides i w low e) at k.high })

  integer : (j : ℕ) (c : Column) → slice_get p.columns j ≡ Some c → IsTrue c.integer → IsWhole (number_at (numbers_from 0 (length p.columns) (made_whole (system_of p ds sides) (integer_at p) r)) j)
  integer j c e t =
      let low : j < length p.columns = slice_get_within p.columns j c e in
      let at_j : number_at (integer_numbers (system_of p ds sides) (integer_at p) r) j ≡ r j =
      numbers-below (length p.columns) (λ i. cond (integer_at p i) (r i) zero_ℚ) j low ∙ ap (λ u. cond u (r j) zero_ℚ) (ap is_integer e ∙ t) in
      let divides = common_of_number 1 (integer_numbers (system_of p ds sides) (integer_at p) r) j (rw (length-numbers 0 (length p.columns) (λ i. cond (integer_at p i) (r i) zero_ℚ)) low) in
      let R : Rational → Type 0 = IsWhole in
      subst R (sym (numbers-below (length p.columns) (made_whole (system_of p ds sides) (integer_at p) r) j low)) (multiple_whole (r j) _ (rw at_j at divides))

  falls : h.heading *ℚ gain_of d q <ℚ zero_ℚ
  falls = elim h.is_heading [
    | inl k ↦ let P : Rational → Type 0 = λ t. t <ℚ zero_ℚ in subst P (sym (ap (λ t. t *ℚ gain_of d q) k.1 ∙ Q.one-mul _)) k.0
    | inr k ↦ let P : Rational → Type 0 = λ t. t <ℚ zero_ℚ in subst P (sym (ap (λ t. t *ℚ gain_of d q) k.1 ∙ minus_one-mul _)) (neg_above _ k.0)
  ]

  improves : sign_of p.direction *ℚ sum_at (numbers_from 0 (length p.columns) (made_whole (system_of p ds sides) (integer_at p) r)) p.objective <ℚ zero_ℚ
  improves =
      let P : Rational → Type 0 = λ t. t <ℚ zero_ℚ in
      subst P (sym (ap (λ t. sign_of p.direction *ℚ t) (same_below (length p.columns) (number_at (numbers_from 0 (length p.columns) (made_whole (system_of p ds sides) (integer_at p) r))) (made_whole (system_of p ds sides) (integer_at p) r) p.objective (λ v k. numbers-below (length p.columns) (made_whole (system_of p ds sides) (integer_at p) r) v k) over.objective)
      ∙ sym (value-scaled (made_whole (system_of p ds sides) (integer_at p) r) (sign_of p.direction) p.objective)
      ∙ value-times r _ (scaled (sign_of p.direction) p.objective)
      ∙ ap (λ t. t *ℚ whole (pos (common_denominator 1 (integer_numbers (system_of p ds sides) (integer_at p) r)))) (direction_value (system_of p ds sides) b d q h.heading r h.is_dictionary h.is_direction)))
      (times_below _ _ multiple_some falls)

  pub improving_ray : IsImprovingRay p (numbers_from 0 (length p.columns) (made_whole (system_of p ds sides) (integer_at p) r))
  improving_ray = record {
    size = length-numbers 0 (length p.columns) (made_whole (system_of p ds sides) (integer_at p) r);
    columns = λ j. of_some (slice_get p.columns j) (λ c. IsHarmless c.lower c.upper (number_at (numbers_from 0 (length p.columns) (made_whole (system_of p ds sides) (integer_at p) r)) j)) (λ c e. column j c e);
    rows = λ i. of_some (slice_get p.rows i) (λ w. IsHarmless w.lower w.upper (sum_at (numbers_from 0 (length p.columns) (made_whole (system_of p ds sides) (integer_at p) r)) w.entries)) (λ w e. row i w e);
    integers = λ j. of_some (slice_get p.columns j) (λ c. IsTrue c.integer → IsWhole (number_at (numbers_from 0 (length p.columns) (made_whole (system_of p ds sides) (integer_at p) r)) j)) (λ c e. integer j c e);
    improves = improves;
  }
    where
      of_some : {X : Type 0} (o : Option X) (P : X → Type 0) → ((c : X) → o ≡ Some c → P c) → IfSome o P
      of_some None P h = tt
      of_some (Some c) P h = h c refl
