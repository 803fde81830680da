-- The points of a mixed-integer linear program: which are feasible, which are best, and which rays improve without end.
use Rattle.std.specs.Prelude.{ℕ, negsuc, List, Option, ◌≡◌, length, slice_get, IfSome, IsTrue}
use Rattle.rational.specs.Rational.{Rational, zero_ℚ, one_ℚ, whole, ◌≤ℚ◌, ◌<ℚ◌, ◌+ℚ◌, ◌*ℚ◌}
use Rattle.milp.specs.Form.{number_at, sum_at}
use Rattle.milp.specs.Problem.{Problem}
use Rattle.milp.specs.declared.Direction.{Direction}
use Rattle.milp.specs.declared.Direction.TheVariants.{Min, Max}

abbrev pub IsWhole : Rational → Type 0
IsWhole v = v.denominator ≡ 1

-- a number is inside its bounds
pub record IsWithin (lower upper : Option Rational) (v : Rational) : Type 0 where
  pub low : IfSome lower (λ b. b ≤ℚ v)
  pub high : IfSome upper (λ b. v ≤ℚ b)

-- a point meets all bounds and rows
pub record Relaxed (p : Problem) (x : List Rational) : Type 0 where
  pub size : length x ≡ length p.columns
  pub columns : (j : ℕ) → IfSome (slice_get p.columns j) (λ c. IsWithin c.lower c.upper (number_at x j))
  pub rows : (i : ℕ) → IfSome (slice_get p.rows i) (λ r. IsWithin r.lower r.upper (sum_at x r.entries))

-- the numbers of the integer columns are whole
abbrev pub AreWhole : Problem → List Rational → Type 0
AreWhole p x = (j : ℕ) → IfSome (slice_get p.columns j) (λ c. IsTrue c.integer → IsWhole (number_at x j))

-- a point meets all bounds, rows and integrality
pub record Feasible (p : Problem) (x : List Rational) : Type 0 where
  pub relaxed : Relaxed p x
  pub integers : AreWhole p x

-- the value of the objective at a point
abbrev pub objective_value : Problem → List Rational → Rational
objective_value p x = sum_at x p.objective +ℚ p.constant

-- 1 where the least value is wanted, and -1 where the greatest is
abbrev pub sign_of : Direction → Rational
sign_of Min = one_ℚ
sign_of Max = whole (negsuc 0)

-- y is better than x
abbrev pub IsBetter : Problem → List Rational → List Rational → Type 0
IsBetter p y x = sign_of p.direction *ℚ objective_value p y <ℚ sign_of p.direction *ℚ objective_value p x

-- x is feasible, and no feasible point is better
pub record IsOptimal (p : Problem) (x : List Rational) : Type 0 where
  pub feasible : Feasible p x
  pub best : (y : List Rational) → Feasible p y → ¬ (IsBetter p y x)

-- a step by v leads out of no bound
pub record IsHarmless (lower upper : Option Rational) (v : Rational) : Type 0 where
  pub low : IfSome lower (λ b. zero_ℚ ≤ℚ v)
  pub high : IfSome upper (λ b. v ≤ℚ zero_ℚ)

-- a direction in which each feasible point can go without end, and improves
pub record IsImprovingRay (p : Problem) (r : List Rational) : Type 0 where
  pub size : length r ≡ length p.columns
  pub columns : (j : ℕ) → IfSome (slice_get p.columns j) (λ c. IsHarmless c.lower c.upper (number_at r j))
  pub rows : (i : ℕ) → IfSome (slice_get p.rows i) (λ w. IsHarmless w.lower w.upper (sum_at r w.entries))
  pub integers : AreWhole p r
  pub improves : sign_of p.direction *ℚ sum_at r p.objective <ℚ zero_ℚ

-- a feasible point, and an improving ray
pub record IsUnbounded (p : Problem) (x r : List Rational) : Type 0 where
  pub feasible : Feasible p x
  pub ray : IsImprovingRay p r
