-- The numbers of a dictionary after a pivot, from those before it, and the operations of a step.
use Rattle.std.specs.Prelude.{ℕ, negsuc, ◌<◌, ◌≡◌, ◌≢◌, List}
use Rattle.rational.specs.Rational.{Rational, zero_ℚ, whole, ◌-ℚ◌, inv_ℚ, neg_ℚ, ◌+ℚ◌, ◌*ℚ◌, ◌/ℚ◌}
use Rattle.basis.specs.System.{System, size}
use Rattle.basis.specs.Dictionary.{IsBasic, IsResting, Dictionary, rate_of, gain_of}
use Rattle.basis.specs.declared.Place.{Place}

-- e is the dictionary d of the basis b after q became basic in the place of r: quotients by the rate of q in the row of r,
-- and one product and one sum for each other number
pub record IsPivoted (b : List Place) (d e : Dictionary) (q r : ℕ) : Type 0 where
  pub corner : rate_of e r q ≡ inv_ℚ (rate_of d q r)
  pub entering_row : (j : ℕ) → IsResting b j → j ≢ q → rate_of e j q ≡ neg_ℚ (rate_of d j r /ℚ rate_of d q r)
  pub leaving_column : (v : ℕ) → IsBasic b v → v ≢ r → rate_of e r v ≡ rate_of d q v /ℚ rate_of d q r
  pub others : (v j : ℕ) → IsBasic b v → v ≢ r → IsResting b j → j ≢ q → rate_of e j v ≡ rate_of d j v +ℚ rate_of d q v *ℚ rate_of e j q
  pub leaving_gain : gain_of e r ≡ gain_of d q /ℚ rate_of d q r
  pub other_gains : (j : ℕ) → IsResting b j → j ≢ q → gain_of e j ≡ gain_of d j +ℚ gain_of d q *ℚ rate_of e j q

-- ---- the operations of a step

-- what is done with two numbers
pub data Operation : Type 0 where
  Plus : Operation
  Minus : Operation
  Times : Operation
  DividedBy : Operation

-- f has the numbers of a row of d, or those of its objective
pub data IsRowOf (b : List Place) (d : Dictionary) (f : ℕ → Rational) : Type 0 where
  of_basic : (v : ℕ) → IsBasic b v → ((j : ℕ) → f j ≡ rate_of d j v) → IsRowOf b d f
  of_objective : ((j : ℕ) → f j ≡ gain_of d j) → IsRowOf b d f

-- a op c is an operation of the pivot of q into the place of r: a quotient that makes the row of q, or a product or a sum
-- that puts this row in for q in the others
pub data IsPivotOperation (b : List Place) (d : Dictionary) (q r : ℕ) (a : Rational) (op : Operation) (c : Rational) : Type 0 where
  reciprocal : a ≡ whole (negsuc 0) → op ≡ DividedBy → c ≡ rate_of d q r → IsPivotOperation b d q r a op c
  quotient : (j : ℕ) → a ≡ rate_of d j r → op ≡ DividedBy → c ≡ rate_of d q r → IsPivotOperation b d q r a op c
  product : (f : ℕ → Rational) (j : ℕ) → IsRowOf b d f → IsResting b j → j ≢ q → a ≡ f q → op ≡ Times → c ≡ neg_ℚ (rate_of d j r /ℚ rate_of d q r) → IsPivotOperation b d q r a op c
  sum : (f : ℕ → Rational) (j : ℕ) → IsRowOf b d f → IsResting b j → j ≢ q → a ≡ f q *ℚ neg_ℚ (rate_of d j r /ℚ rate_of d q r) → op ≡ Plus → c ≡ f j → IsPivotOperation b d q r a op c
  product_at_leaving : (f : ℕ → Rational) → IsRowOf b d f → a ≡ f q → op ≡ Times → c ≡ inv_ℚ (rate_of d q r) → IsPivotOperation b d q r a op c
  sum_at_leaving : (f : ℕ → Rational) → IsRowOf b d f → a ≡ f q *ℚ inv_ℚ (rate_of d q r) → op ≡ Plus → c ≡ zero_ℚ → IsPivotOperation b d q r a op c

-- a op c is an operation that finds how far q has to move until v is at the bound: the way there, and for a basic variable
-- the quotient of the way by its rate
pub data IsLengthOperation (b : List Place) (x : ℕ → Rational) (d : Dictionary) (q v : ℕ) (bound a : Rational) (op : Operation) (c : Rational) : Type 0 where
  way : a ≡ bound → op ≡ Minus → c ≡ x v → IsLengthOperation b x d q v bound a op c
  length : IsBasic b v → a ≡ bound -ℚ x v → op ≡ DividedBy → c ≡ rate_of d q v → IsLengthOperation b x d q v bound a op c

-- a op c is an operation that finds the point after q has moved by t
pub data IsMoveOperation (s : System) (b : List Place) (x : ℕ → Rational) (d : Dictionary) (q : ℕ) (t a : Rational) (op : Operation) (c : Rational) : Type 0 where
  mover : a ≡ x q → op ≡ Plus → c ≡ t → IsMoveOperation s b x d q t a op c
  product : (v : ℕ) → v < size s → IsBasic b v → a ≡ rate_of d q v → op ≡ Times → c ≡ t → IsMoveOperation s b x d q t a op c
  sum : (v : ℕ) → v < size s → IsBasic b v → a ≡ rate_of d q v *ℚ t → op ≡ Plus → c ≡ x v → IsMoveOperation s b x d q t a op c
