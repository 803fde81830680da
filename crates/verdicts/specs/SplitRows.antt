-- A node's splits that narrow no column, as further rows behind the derived ones, and the weights of such rows as weights of splits.
use Rattle.std.specs.Prelude.{ℕ, ◌-◌, List, [], ◌∷◌, ◌++◌, map, length, nat_lt, Bool, true, false, is_some, Option, Some, None, slice_get, if◌then◌else◌}
use Rattle.rational.specs.Rational.{Rational}
use Rattle.milp.specs.Problem.{Problem}
use Rattle.verdicts.specs.Certificate.{Item, Weights, Split, Side, Low, High, Plain, Derived}
use Rattle.verdicts.specs.Proves.{unit_column, side_form, side_bound}
use Rattle.verdicts.specs.Migrated.{named}

-- a side, and its place on the way from the root
pub record PlacedSide : Type 0 where
  pub place : ℕ
  pub side : Side

abbrev pub split_of : Side → Split
split_of (Low s) = s
split_of (High s) = s

abbrev pub unless : Bool → PlacedSide → List PlacedSide
unless true t = []
unless false t = t ∷ []

-- those that narrow no column, the first from the root first
abbrev pub row_sides : List Side → List PlacedSide
row_sides [] = []
row_sides (s ∷ sides) = row_sides sides ++ unless (is_some (unit_column (split_of s).form)) (record { place = length sides; side = s })

abbrev pub as_row : PlacedSide → Derived
as_row t = record { bound = side_bound t.side; form = side_form t.side; proof = Plain (record { rows = []; columns = []; derived = []; splits = [] }) }

-- the rows of a node behind those of the problem
abbrev pub node_rows : List Derived → List Side → List Derived
node_rows ds sides = ds ++ map as_row (row_sides sides)

-- the weights of the first n derived rows
abbrev pub first_items : ℕ → List Item → List Item
first_items n [] = []
first_items n (i ∷ is) = if nat_lt i.index n then i ∷ first_items n is else first_items n is

abbrev pub of_split : Option PlacedSide → Rational → List Item → List Item
of_split None w is = is
of_split (Some t) w is = record { index = t.place; weight = w } ∷ is

-- the weights of the rows behind them, by the places of their splits
abbrev pub row_items : ℕ → List PlacedSide → List Item → List Item
row_items n rs [] = []
row_items n rs (i ∷ is) = if nat_lt i.index n then row_items n rs is else of_split (slice_get rs (i.index - n)) i.weight (row_items n rs is)

-- what a certificate of version 2 says of a node's weights
abbrev pub written : Problem → List Derived → List Side → Weights → Weights
written p ds sides w = named p sides (record {
  rows = w.rows;
  columns = w.columns;
  derived = first_items (length ds) w.derived;
  splits = row_items (length ds) (row_sides sides) w.derived;
})
