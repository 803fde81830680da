-- The operations that the simplex method makes at a node.
use Rattle.std.specs.Prelude.{ℕ, pos, ◌<◌, ◌≡◌, ◌≢◌, ◌⊎◌, List, ◌∷◌, length, slice_get, Some}
use Rattle.rational.specs.Rational.{Rational, zero_ℚ, one_ℚ, whole, over, ◌<ℚ◌, ◌+ℚ◌, ◌*ℚ◌}
use Rattle.rational.specs.Denominators.{common_denominator, prefix_denominator}
use Rattle.milp.specs.Form.{Entry}
use Rattle.milp.specs.Problem.{Problem}
use Rattle.verdicts.specs.Certificate.{Side, Derived}
use Rattle.basis.specs.System.{System, size, lower_of, upper_of}
use Rattle.basis.specs.Dictionary.{IsBasic, IsResting, Dictionary, IsDictionary, rate_of, IsBasicPoint}
use Rattle.basis.specs.Bland.{exchanged, IsLeast, IsOutside, MendStep, Improves, IsHeading, IsDirection, IsStart, start_point, IsRun}
use Rattle.basis.specs.Pivots.{Operation, Plus, Times, IsPivotOperation, IsLengthOperation, IsMoveOperation}
use Rattle.basis.specs.Node.{system_of, integer_at}
use Rattle.basis.specs.Weights.{integer_numbers}
use Rattle.basis.specs.Relaxation.{IsUnboundedBasis}
use Rattle.basis.specs.Numbers.{prefix_sum, products_of, at_of}
use Rattle.basis.specs.declared.Place.{Place}
use Rattle.basis.specs.declared.Place.TheVariants.{Basic, AtLower, AtUpper, AtZero}

-- a op c is an operation of summing the form at x from its first entry on
pub data IsSumOperation (form : List Entry) (x : ℕ → Rational) (a : Rational) (op : Operation) (c : Rational) : Type 0 where
  product : (i : ℕ) (e : Entry) → slice_get form i ≡ Some e → a ≡ e.coefficient → op ≡ Times → c ≡ x e.column → IsSumOperation form x a op c
  sum : (i : ℕ) (e : Entry) → slice_get form i ≡ Some e → a ≡ prefix_sum (products_of form x) i → op ≡ Plus → c ≡ e.coefficient *ℚ x e.column → IsSumOperation form x a op c

-- the bound of v that this place names
abbrev pub IsBoundAt : System → ℕ → Place → Rational → Type 0
IsBoundAt s v Basic bound = ⊥
IsBoundAt s v AtLower bound = lower_of s v ≡ Some bound
IsBoundAt s v AtUpper bound = upper_of s v ≡ Some bound
IsBoundAt s v AtZero bound = ⊥

-- the bound lies ahead of v where it changes at this rate
abbrev pub LiesAhead : System → ℕ → Rational → Rational → Type 0
LiesAhead s v rate bound = (zero_ℚ <ℚ rate × (upper_of s v ≡ Some bound)) ⊎ (rate <ℚ zero_ℚ × (lower_of s v ≡ Some bound))

-- a op c is an operation of a run of Bland's rule: of the first point; of the length of a step, which is the way of the
-- variable that leaves, in the first phase, or of each variable to the bound ahead of it, in the second; or of the step,
-- of its moves and its pivot
pub data IsRunOperation (s : System) (a : Rational) (op : Operation) (c : Rational) : Type 0 where
  at_start : (b : List Place) (k : ℕ) (form : List Entry) → IsStart s b → slice_get s.forms k ≡ Some form → IsSumOperation form (start_point s) a op c → IsRunOperation s a op c
  of_mending : (b : List Place) (before : List (List Place)) (d : Dictionary) (x : ℕ → Rational) (q v : ℕ) (place : Place) (bound : Rational) → IsRun s b before → IsDictionary s b d → IsBasicPoint s b x
      → MendStep s b x d q v place → IsBoundAt s v place bound → IsLengthOperation b x d q v bound a op c → IsRunOperation s a op c
  of_improving : (b : List Place) (before : List (List Place)) (d : Dictionary) (x : ℕ → Rational) (q : ℕ) (heading : Rational) (r : ℕ → Rational) (v : ℕ) (bound : Rational) → IsRun s b before → IsDictionary s b d → IsBasicPoint s b x
      → ((w : ℕ) → ¬ (IsOutside s b x w)) → IsLeast (Improves s b x d) q → IsHeading d q heading → IsDirection b d q heading r
      → v < size s → LiesAhead s v (r v) bound → IsLengthOperation b x d q v bound a op c → IsRunOperation s a op c
  of_move : (b next : List Place) (before : List (List Place)) (d : Dictionary) (x : ℕ → Rational) (q : ℕ) (t : Rational) (r : ℕ → Rational) → IsRun s next (b ∷ before) → IsDictionary s b d → IsBasicPoint s b x
      → IsDirection b d q one_ℚ r → q < size s → IsBasicPoint s next (λ v. x v +ℚ t *ℚ r v) → IsMoveOperation s b x d q t a op c → IsRunOperation s a op c
  of_pivot : (b : List Place) (before : List (List Place)) (d : Dictionary) (q r : ℕ) (place : Place) → IsRun s (exchanged b q r place) (b ∷ before) → IsDictionary s b d → IsBasic b r → IsResting b q
      → place ≢ Basic → (rate_of d q r).numerator ≢ pos 0 → IsPivotOperation b d q r a op c → IsRunOperation s a op c

-- a op c is an operation of the simplex method at a node: of a run; the sum of a split's number and 1, for a high side; and
-- where the least variable that improves moves without end, an operation on 1 over the common denominator of the first
-- numbers of the direction on the columns that are to be whole, and 1 over the next one's, or a product that makes the
-- direction whole
pub data IsNodeOperation (p : Problem) (ds : List Derived) (sides : List Side) (a : Rational) (op : Operation) (c : Rational) : Type 0 where
  of_run : IsRunOperation (system_of p ds sides) a op c → IsNodeOperation p ds sides a op c
  above_split : (k : ℕ) (side : Side) → slice_get sides k ≡ Some side → a ≡ whole (at_of side) → op ≡ Plus → c ≡ one_ℚ → IsNodeOperation p ds sides a op c
  of_denominators : (b : List Place) (d : Dictionary) (x : ℕ → Rational) (q : ℕ) (r : ℕ → Rational) (n : ℕ) (number : Rational) → IsUnboundedBasis (system_of p ds sides) b d x q r
      → slice_get (integer_numbers (system_of p ds sides) (integer_at p) r) n ≡ Some number → a ≡ over (pos 1) (prefix_denominator (integer_numbers (system_of p ds sides) (integer_at p) r) n)
      → c ≡ over (pos 1) number.denominator → IsNodeOperation p ds sides a op c
  of_ray : (b : List Place) (d : Dictionary) (x : ℕ → Rational) (q : ℕ) (r : ℕ → Rational) (v : ℕ) → IsUnboundedBasis (system_of p ds sides) b d x q r → v < length p.columns → a ≡ r v → op ≡ Times
      → c ≡ whole (pos (common_denominator 1 (integer_numbers (system_of p ds sides) (integer_at p) r))) → IsNodeOperation p ds sides a op c
