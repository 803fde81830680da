-- Points that meet the members of a list, each of which is tested by itself.
use Rattle.std.specs.Prelude.{Bool, List, [], ◌∷◌, Option, IfSome, IsTrue, slice_get}
use Rattle.rational.specs.Rational.{Rational}
use Rattle.milp.specs.Form.{number_at, sum_at}
use Rattle.milp.specs.Problem.{Problem}
use Rattle.verdicts.specs.Proves.{lies_above, lies_below}
use Rattle.infeasible_subset.specs.Members.{Side, Lower, Upper, Member, OfRow, OfColumn}

abbrev pub bound_on : Side → Option Rational → Option Rational → Option Rational
bound_on Lower lower upper = lower
bound_on Upper lower upper = upper

-- the number is inside the bound on this side
abbrev pub lies_inside : Side → Option Rational → Option Rational → Rational → Bool
lies_inside Lower lower upper v = lies_above lower v
lies_inside Upper lower upper v = lies_below upper v

abbrev pub MeetsOne : Problem → List Rational → Member → Type 0
MeetsOne p x (OfRow i s) = IfSome (slice_get p.rows i) (λ r. IsTrue (lies_inside s r.lower r.upper (sum_at x r.entries)))
MeetsOne p x (OfColumn j s) = IfSome (slice_get p.columns j) (λ c. IsTrue (lies_inside s c.lower c.upper (number_at x j)))

abbrev pub MeetsEach : Problem → List Rational → List Member → Type 0
MeetsEach p x [] = Unit {0}
MeetsEach p x (m ∷ ms) = MeetsOne p x m × MeetsEach p x ms
