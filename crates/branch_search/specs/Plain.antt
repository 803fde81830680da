-- The certificates of problems without integer columns.
use Rattle.std.specs.Prelude.{ℕ, ◌≡◌, false, List, length, Some, None, IfSome, slice_get}
use Rattle.rational.specs.Rational.{Rational}
use Rattle.milp.specs.Problem.{Column, Problem}
use Rattle.milp.specs.Points.{objective_value}
use Rattle.verdicts.specs.Certificate.{Weights, Optimal, Infeasible, Empty, Bound, Certificate}
use Rattle.basis.specs.Relaxation.{leaf_certificate, point_certificate}

-- no column takes whole numbers alone
abbrev pub NoneInteger : List Column → Type 0
NoneInteger columns = (j : ℕ) → IfSome (slice_get columns j) (λ c. c.integer ≡ false)

-- the certificate of a point with its value and weights, of weights alone, or of a point and a ray, with a number for each
-- column in points and rays: it has no derived row, and one leaf at most
pub data IsPlainCertificate (p : Problem) (c : Certificate) : Type 0 where
  optimal : (x : List Rational) (w : Weights) → length x ≡ length p.columns → c ≡ leaf_certificate p Optimal (Some (objective_value p x)) (Some x) (Bound w) → IsPlainCertificate p c
  infeasible : (w : Weights) → c ≡ leaf_certificate p Infeasible None None (Empty w) → IsPlainCertificate p c
  unbounded : (x ray : List Rational) → length x ≡ length p.columns → length ray ≡ length p.columns → c ≡ point_certificate p x ray → IsPlainCertificate p c
