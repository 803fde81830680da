-- Points that a certificate of any feasible point gives.
use Rattle.std.specs.Prelude.{◌≡◌, true, List, Some, Ok}
use Rattle.rational.specs.Rational.{Rational}
use Rattle.milp.specs.Problem.{Problem}
use Rattle.milp.specs.Points.{Feasible}
use Rattle.verdicts.specs.Certificate.{Certificate}
use Rattle.cert_check.specs.Parts.{point_answer}

-- x is feasible, and all operations in its test fit
pub record IsTestedPoint (p : Problem) (x : List Rational) : Type 0 where
  pub feasible : Feasible p x
  pub passes : point_answer p (Some x) ≡ Ok true

-- the certificate has such a point
pub record HasPoint (p : Problem) (c : Certificate) : Type 0 where
  pub point : List Rational
  pub is_there : c.point ≡ Some point
  pub tested : IsTestedPoint p point
