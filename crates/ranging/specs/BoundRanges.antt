-- The range of a row's bound: the numbers in its place with which the value goes on as the weights promise.
use Rattle.std.specs.Prelude.{ℕ, zero, suc, List, [], ◌∷◌, ◌==◌, ◌&&◌, Bool, cond, Option, Some, None, ◌≡◌, slice_get, IfSome, false}
use Rattle.rational.specs.Rational.{Rational, zero_ℚ, ◌*ℚ◌, ◌+ℚ◌, ◌-ℚ◌, ◌≤ℚ◌}
use Rattle.rational.specs.Compare.{is_less}
use Rattle.milp.specs.Form.{sum_at}
use Rattle.milp.specs.Problem.{Row, Problem}
use Rattle.milp.specs.Points.{Feasible, sign_of}
use Rattle.verdicts.specs.Certificate.{Item, Weights}

-- of which side of a row a bound is
pub data BoundSide : Type 0 where
  Lower : BoundSide
  Upper : BoundSide

-- the row with the bound b on this side
abbrev pub with_side : BoundSide → Rational → Row → Row
with_side Lower b r = record r { lower = Some b }
with_side Upper b r = record r { upper = Some b }

-- the rows, the i-th with the bound b on this side
abbrev pub with_row_bound : ℕ → BoundSide → Rational → List Row → List Row
with_row_bound i s b [] = []
with_row_bound zero s b (r ∷ rs) = with_side s b r ∷ rs
with_row_bound (suc i) s b (r ∷ rs) = r ∷ with_row_bound i s b rs

-- the problem in which row i has the bound b on this side
abbrev pub with_bound : Problem → ℕ → BoundSide → Rational → Problem
with_bound p i s b = record p { rows = with_row_bound i s b p.rows }

-- the row's own bound on this side
abbrev pub bound_of : BoundSide → Row → Option Rational
bound_of Lower r = r.lower
bound_of Upper r = r.upper

-- a bound of a row, the weight that uses it, and what the weights show of the objective without its constant
pub record UsedBound : Type 0 where
  pub row : ℕ
  pub side : BoundSide
  pub bound : Rational
  pub weight : Rational
  pub total : Rational

-- a weight above 0 uses a lower bound, and one below 0 an upper one
abbrev pub uses : BoundSide → Rational → Bool
uses Lower w = is_less zero_ℚ w
uses Upper w = is_less w zero_ℚ

-- the sum of the row's weights that use its bound on this side
abbrev pub weight_using : ℕ → BoundSide → List Item → Rational
weight_using i s [] = zero_ℚ
weight_using i s (k ∷ ks) = cond ((k.index == i) && uses s k.weight) k.weight zero_ℚ +ℚ weight_using i s ks

-- the bound b of row i as the weights of a best point x use it
abbrev pub used_bound : Problem → List Rational → Weights → ℕ → BoundSide → Rational → UsedBound
used_bound p x w i s b = record {
  row = i;
  side = s;
  bound = b;
  weight = weight_using i s w.rows;
  total = sign_of p.direction *ℚ sum_at x p.objective;
}

-- x meets the problem with b in the bound's place, and its value is what the weights promise there
pub record IsAsPromised (p : Problem) (u : UsedBound) (b : Rational) (x : List Rational) : Type 0 where
  pub feasible : Feasible (with_bound p u.row u.side b) x
  pub value : sign_of p.direction *ℚ sum_at x p.objective ≡ u.total +ℚ u.weight *ℚ (b -ℚ u.bound)

-- some point is as promised
abbrev pub InBoundRange : Problem → UsedBound → Rational → Type 0
InBoundRange p u b = (x : List Rational) × IsAsPromised p u b x

-- ---- what shows an end of the range

-- the least bound is in the range, and nothing below it is; where there is none, the range goes below each number
abbrev pub HasLeastBound : Problem → UsedBound → Option Rational → Type 0
HasLeastBound p u None = (t : Rational) → (b : Rational) × (b ≤ℚ t) × InBoundRange p u b
HasLeastBound p u (Some least) = InBoundRange p u least × ((b : Rational) → InBoundRange p u b → least ≤ℚ b)

-- the greatest bound is in the range, and nothing above it is; where there is none, the range goes above each number
abbrev pub HasGreatestBound : Problem → UsedBound → Option Rational → Type 0
HasGreatestBound p u None = (t : Rational) → (b : Rational) × (t ≤ℚ b) × InBoundRange p u b
HasGreatestBound p u (Some greatest) = InBoundRange p u greatest × ((b : Rational) → InBoundRange p u b → b ≤ℚ greatest)

-- no column is integer
abbrev pub AllContinuous : Problem → Type 0
AllContinuous p = (j : ℕ) → IfSome (slice_get p.columns j) (λ c. c.integer ≡ false)

-- both ends of the range are shown
pub record HasBoundEnds (p : Problem) (u : UsedBound) (least greatest : Option Rational) : Type 0 where
  pub continuous : AllContinuous p
  pub has_least : HasLeastBound p u least
  pub has_greatest : HasGreatestBound p u greatest
