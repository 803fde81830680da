-- Integer columns whose numbers are not whole.
use Rattle.std.specs.Prelude.{ℕ, ◌≡◌, true, List, Option, Some, None, slice_get, IfSome, IsTrue}
use Rattle.rational.specs.Rational.{Rational}
use Rattle.milp.specs.Form.{number_at}
use Rattle.milp.specs.Problem.{Column}
use Rattle.milp.specs.Points.{IsWhole}
use Rattle.verdicts.specs.Proves.{is_integer}

-- the number of the integer column j isn't whole; or those of all integer columns are
abbrev pub IsFraction : List Column → List Rational → Option ℕ → Type 0
IsFraction columns x (Some j) = (is_integer (slice_get columns j) ≡ true) × ¬ (IsWhole (number_at x j))
IsFraction columns x None = (j : ℕ) → IfSome (slice_get columns j) (λ c. IsTrue c.integer → IsWhole (number_at x j))
