-- Subsets of a problem's bounds that cannot stand together, and of which each part can.
use Rattle.std.specs.Prelude.{ℕ, zero, suc, List, [], ◌∷◌, Bool, true, false, ◌&&◌, not, Option, None, IsTrue, if◌then◌else◌, ◌≡◌}
use Rattle.rational.specs.Rational.{Rational, zero_ℚ}
use Rattle.rational.specs.Compare.{is_less}
use Rattle.milp.specs.Problem.{Column, Row, Problem}
use Rattle.milp.specs.Points.{Feasible}
use Rattle.verdicts.specs.Certificate.{Two, Item, Weights, TreeNode, Branch, Empty, Bound}
use Rattle.verdicts.specs.Proves.{node_passes}
use Rattle.search_tree.specs.Nodes.{NodePasses}
use Rattle.infeasible_subset.specs.Members.{Side, Lower, Upper, Member, OfRow, OfColumn, same_member, has}

-- ---- the problem with some of its bounds alone

abbrev pub kept_if : Bool → Option Rational → Option Rational
kept_if true bound = bound
kept_if false bound = None

abbrev pub sub_row : (Side → Bool) → Row → Row
sub_row keep r = record r { lower = kept_if (keep Lower) r.lower; upper = kept_if (keep Upper) r.upper }

abbrev pub sub_rows : (ℕ → Side → Bool) → List Row → List Row
sub_rows keep [] = []
sub_rows keep (r ∷ rs) = sub_row (keep zero) r ∷ sub_rows (λ i. keep (suc i)) rs

abbrev pub sub_column : (Side → Bool) → Column → Column
sub_column keep c = record c { lower = kept_if (keep Lower) c.lower; upper = kept_if (keep Upper) c.upper }

abbrev pub sub_columns : (ℕ → Side → Bool) → List Column → List Column
sub_columns keep [] = []
sub_columns keep (c ∷ cs) = sub_column (keep zero) c ∷ sub_columns (λ j. keep (suc j)) cs

-- the bounds that are kept, and no objective
abbrev pub sub : Problem → (Member → Bool) → Problem
sub p keep = record p {
  columns = sub_columns (λ j s. keep (OfColumn j s)) p.columns;
  rows = sub_rows (λ i s. keep (OfRow i s)) p.rows;
  objective = [];
  constant = zero_ℚ;
}

abbrev pub without : Member → (Member → Bool) → Member → Bool
without m keep k = keep k && not (same_member m k)

-- no point meets the members, and without any one of them one does
pub record IsIrreducible (p : Problem) (members : List Member) : Type 0 where
  pub none : (x : List Rational) → ¬ (Feasible (sub p (has members)) x)
  pub each : (m : Member) → IsTrue (has members m) → (x : List Rational) × Feasible (sub p (without m (has members))) x

-- ---- what shows it

abbrev pub side_used : Rational → Side
side_used w = if is_less zero_ℚ w then Lower else Upper

abbrev pub row_used : Item → Member
row_used i = OfRow i.index (side_used i.weight)

abbrev pub column_used : Item → Member
column_used i = OfColumn i.index (side_used i.weight)

abbrev pub AllUse : (Item → Member) → (Member → Bool) → List Item → Type 0
AllUse f keep [] = Unit {0}
AllUse f keep (i ∷ is) = IsTrue (keep (f i)) × AllUse f keep is

-- the weights use the bounds that are kept alone
pub record UsesOnly (keep : Member → Bool) (w : Weights) : Type 0 where
  pub rows : AllUse row_used keep w.rows
  pub columns : AllUse column_used keep w.columns

-- the weights refute the problem
pub record Refutes (p : Problem) (w : Weights) : Type 0 where
  pub passes : node_passes p Two None [] [] (Empty w) ≡ true

-- the node is a leaf without a point
abbrev pub IsEmptyLeaf : TreeNode → Type 0
IsEmptyLeaf (Branch s) = ⊥
IsEmptyLeaf (Empty w) = Unit {0}
IsEmptyLeaf (Bound w) = ⊥

-- the checker's test of the weights passes, as those of a tree that is one empty leaf, and all its operations fit
pub record AreAccepted (p : Problem) (w : Weights) : Type 0 where
  pub passes : NodePasses p None [] [] (Empty w)
