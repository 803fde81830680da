-- How the members of a subset are listed: each is a bound that is there, rows come first, in order of place, the lower bound
-- before the upper one, and none comes twice.
use Rattle.std.specs.Prelude.{ℕ, ◌+◌, ◌≡◌, ◌⊎◌, List, [], ◌∷◌, ◌++◌, Option, None, Some}
use Rattle.rational.specs.Rational.{Rational}
use Rattle.milp.specs.Problem.{Column, Row, Problem}
use Rattle.infeasible_subset.specs.Members.{Member, Lower, Upper, OfRow, OfColumn}

-- the member, if its bound is there
abbrev pub if_there : Option Rational → Member → List Member
if_there None m = []
if_there (Some b) m = m ∷ []

-- the bounds of rows, of which the first is row i
abbrev pub row_bounds : ℕ → List Row → List Member
row_bounds i [] = []
row_bounds i (r ∷ rs) = (if_there r.lower (OfRow i Lower) ++ if_there r.upper (OfRow i Upper)) ++ row_bounds (i + 1) rs

-- the bounds of columns, of which the first is column j
abbrev pub column_bounds : ℕ → List Column → List Member
column_bounds j [] = []
column_bounds j (c ∷ cs) = (if_there c.lower (OfColumn j Lower) ++ if_there c.upper (OfColumn j Upper)) ++ column_bounds (j + 1) cs

-- all bounds that a problem has, in the order in which they are listed
abbrev pub all_bounds : Problem → List Member
all_bounds p = row_bounds 0 p.rows ++ column_bounds 0 p.columns

-- the members are some of the bounds, in their order
abbrev pub AreAmong : List Member → List Member → Type 0
AreAmong ms [] = ms ≡ []
AreAmong [] (b ∷ bs) = Unit {0}
AreAmong (m ∷ ms) (b ∷ bs) = ((m ≡ b) × AreAmong ms bs) ⊎ AreAmong (m ∷ ms) bs
