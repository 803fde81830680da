-- Points that meet rows, and columns that are not integer.
use Rattle.std.proofs.Common.{◌≡◌, ℕ, List, false, sym, ◌∙◌, Option, Some, None, IfSome, IsTrue, slice_get}
use Rattle.rational.specs.Rational.{Rational}
use Rattle.milp.specs.Form.{sum_at}
use Rattle.milp.specs.Problem.{Column, Row}
use Rattle.milp.specs.Points.{IsWithin, IsWhole}

unfoldable pub RowMeets : List Rational → Row → Type 0
RowMeets x r = IsWithin r.lower r.upper (sum_at x r.entries)

abbrev pub Meets : List Rational → List Row → Type 0
Meets x rs = (i : ℕ) → IfSome (slice_get rs i) (RowMeets x)

-- what asks whole numbers of integer columns alone asks nothing of the others
pub not_whole : (o : Option Column) (v : Rational) → IfSome o (λ c. c.integer ≡ false) → IfSome o (λ c. IsTrue c.integer → IsWhole v)
not_whole None v h = tt
not_whole (Some c) v h = λ t. let e = sym h ∙ t in cc
