-- The way to a place of a tree: the turns on it from the root on, and steps of the walk back over them.
use Rattle.std.specs.Prelude.{ℕ, List, [], ◌∷◌, Option, Some, None, Result, Ok, if◌then◌else◌}
use Rattle.rational.specs.Rational.{Rational, whole}
use Rattle.fraction.specs.declared.frac.NoFit.{NoFit}
use Rattle.instance.specs.Sums.{and_then}
use Rattle.verdicts.specs.Certificate.{TreeNode, Branch, Empty, Bound, Side, Low, High}
use Rattle.verdicts.specs.Proves.{narrows, greater, lesser}
use Rattle.certificate.specs.Ways.{side_of, way}
use Rattle.certificate.specs.declared.split.Turn.{Turn}
use Rattle.cert_check.specs.Sums.{next_answer}

-- a place in the preorder of a tree
pub record Place : Type 0 where
  pub nodes : List TreeNode
  pub place : ℕ

-- the splits on the way to it, the latest first
abbrev pub sides_to : Place → List Side
sides_to p = way p.nodes p.place

abbrev pub turn_side : Turn → Side
turn_side t = side_of t.split.now t.side

-- from a low side to the high side of the same split
abbrev pub over_side : Side → Option Side
over_side (Low s) = Some (High s)
over_side (High s) = None

-- the way to the place behind a subtree: from the latest low side to its high side
abbrev pub turned : List Side → List Side
turned [] = []
turned (High s ∷ sides) = turned sides
turned (Low s ∷ sides) = High s ∷ sides

-- the way to the place behind a node
abbrev pub past_node : TreeNode → List Side → List Side
past_node (Branch s) sides = Low s ∷ sides
past_node (Empty w) sides = turned sides
past_node (Bound w) sides = turned sides

-- ---- the walk back

-- the greatest lower bound of a column's sides so far, with one more side
abbrev pub found_lower : Option Rational → Side → ℕ → Result (Option Rational) NoFit
found_lower found (Low s) j = Ok found
found_lower found (High s) j = if narrows s j then and_then (next_answer s.at) (λ b. Ok (Some (greater found b))) else Ok found

-- the least upper bound of a column's sides so far, with one more side
abbrev pub found_upper : Option Rational → Side → ℕ → Option Rational
found_upper found (Low s) j = if narrows s j then Some (lesser found (whole s.at)) else found
found_upper found (High s) j = found

-- what was found, over what is left
abbrev pub merged_lower : Option Rational → Option Rational → Option Rational
merged_lower None rest = rest
merged_lower (Some a) rest = Some (greater rest a)

abbrev pub merged_upper : Option Rational → Option Rational → Option Rational
merged_upper None rest = rest
merged_upper (Some a) rest = Some (lesser rest a)

abbrev pub merged_answer : Option Rational → Result (Option Rational) NoFit → Result (Option Rational) NoFit
merged_answer found rest = and_then rest (λ o. Ok (merged_lower found o))
