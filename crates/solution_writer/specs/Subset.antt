-- The report of a problem without feasible points, with an irreducible infeasible subset of its bounds.
use Rattle.std.specs.Prelude.{ℕ, List, [], ◌∷◌, ◌++◌, codes, length, slice_get, Option, Some, None}
use Rattle.std.specs.Fmt.{decimal}
use Rattle.rational.specs.Rational.{Rational}
use Rattle.fraction.specs.Text.{text_of}
use Rattle.milp.specs.Problem.{Column, Row, Problem}
use Rattle.infeasible_subset.specs.declared.member.Side.{Side}
use Rattle.infeasible_subset.specs.declared.member.Side.TheVariants.{Lower, Upper}
use Rattle.infeasible_subset.specs.declared.member.Member.{Member}
use Rattle.infeasible_subset.specs.declared.member.Member.TheVariants.{OfRow, OfColumn}
use Rattle.infeasible_subset.specs.declared.witness.Witness.{Witness}

abbrev pub side_text : Side → List ℕ
side_text Lower = codes "lower"
side_text Upper = codes "upper"

-- one that is not there has no name
abbrev pub row_name : Option Row → List ℕ
row_name None = []
row_name (Some r) = r.name

abbrev pub column_name : Option Column → List ℕ
column_name None = []
column_name (Some c) = c.name

-- `row NAME SIDE` or `column NAME SIDE`
abbrev pub member_text : Problem → Member → List ℕ
member_text p (OfRow i side) = codes "row " ++ (row_name (slice_get p.rows i) ++ (codes " " ++ side_text side))
member_text p (OfColumn j side) = codes "column " ++ (column_name (slice_get p.columns j) ++ (codes " " ++ side_text side))

-- each number behind a blank
abbrev pub numbers_text : List Rational → List ℕ
numbers_text [] = []
numbers_text (q ∷ qs) = codes " " ++ (text_of q ++ numbers_text qs)

-- a member, and the numbers of the point that meets all the others
abbrev pub witness_line : Problem → Witness → List ℕ
witness_line p w = member_text p w.member ++ (numbers_text w.point ++ codes "\n")

abbrev pub witness_lines : Problem → List Witness → List ℕ
witness_lines p [] = []
witness_lines p (w ∷ ws) = witness_line p w ++ witness_lines p ws

-- `INFEASIBLE`, how many members there are, and a line for each
abbrev pub subset_report : Problem → List Witness → List ℕ
subset_report p ws = codes "INFEASIBLE\niis " ++ (decimal (length ws) ++ (codes "\n" ++ witness_lines p ws))
