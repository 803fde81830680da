-- Weights that use the bounds of narrowed columns, as weights that name the splits; and a certificate of version 1 as one of version 2.
use Rattle.std.specs.Prelude.{◌*◌, ℕ, ◌+◌, ◌≡◌, ◌≤◌, pos, ◌+ℤ◌, List, [], ◌∷◌, ◌++◌, length, Bool, true, ◌&&◌, nat_lt, Option, Some, None, if◌then◌else◌}
use Rattle.rational.specs.Rational.{Rational, zero_ℚ, neg_ℚ, whole, ◌*ℚ◌}
use Rattle.rational.specs.Compare.{is_less, is_zero}
use Rattle.milp.specs.Problem.{Problem}
use Rattle.verdicts.specs.WeightedSums.{Weighted, combined, combined_bound, coefficient_of}
use Rattle.verdicts.specs.Certificate.{Two, Item, Weights, Side, Low, High, TreeNode, Branch, Empty, Bound, Certificate}
use Rattle.verdicts.specs.Proves.{lower_under, upper_under, narrows, below}

abbrev pub raises : Option Rational → Rational → Bool
raises None b = true
raises (Some a) b = is_less a b

abbrev pub lowers : Option Rational → Rational → Bool
lowers None b = true
lowers (Some a) b = is_less b a

-- the split that gives column j its lower bound, by its place from the root; none where the bound is the column's own
abbrev pub lower_source : Problem → List Side → ℕ → Option ℕ
lower_source p [] j = None
lower_source p (Low s ∷ sides) j = lower_source p sides j
lower_source p (High s ∷ sides) j = if narrows s j && raises (lower_under p sides j) (whole (s.at +ℤ pos 1)) then Some (length sides) else lower_source p sides j

abbrev pub upper_source : Problem → List Side → ℕ → Option ℕ
upper_source p [] j = None
upper_source p (Low s ∷ sides) j = if narrows s j && lowers (upper_under p sides j) (whole s.at) then Some (length sides) else upper_source p sides j
upper_source p (High s ∷ sides) j = upper_source p sides j

-- the split whose bound the weight of a column uses
abbrev pub source : Problem → List Side → Item → Option ℕ
source p sides i = if is_less zero_ℚ i.weight then lower_source p sides i.index else upper_source p sides i.index

abbrev pub kept_if : Option ℕ → Item → List Item → List Item
kept_if None i is = i ∷ is
kept_if (Some k) i is = is

-- the weights of columns that use a bound of the column's own
abbrev pub kept : Problem → List Side → List Item → List Item
kept p sides [] = []
kept p sides (i ∷ is) = kept_if (source p sides i) i (kept p sides is)

-- a split's inequality has the sign of the side taken
abbrev pub on_split : ℕ → Item → Item
on_split k i = record { index = k; weight = if is_less zero_ℚ i.weight then i.weight else neg_ℚ i.weight }

-- in order of the index
abbrev pub placed : Item → List Item → List Item
placed i [] = i ∷ []
placed i (j ∷ js) = if nat_lt j.index i.index then j ∷ placed i js else i ∷ j ∷ js

abbrev pub placed_if : Option ℕ → Item → List Item → List Item
placed_if None i is = is
placed_if (Some k) i is = if is_zero i.weight then is else placed (on_split k i) is

-- the weights of columns that use a split's bound, among the weights of splits
abbrev pub with_splits : Problem → List Side → List Item → List Item → List Item
with_splits p sides [] splits = splits
with_splits p sides (i ∷ is) splits = placed_if (source p sides i) i (with_splits p sides is splits)

abbrev pub named : Problem → List Side → Weights → Weights
named p sides w = record { rows = w.rows; columns = kept p sides w.columns; derived = w.derived; splits = with_splits p sides w.columns w.splits }

abbrev pub migrated_node : Problem → List Side → TreeNode → TreeNode
migrated_node p sides (Branch s) = Branch s
migrated_node p sides (Empty w) = Empty (named p sides w)
migrated_node p sides (Bound w) = Bound (named p sides w)

abbrev pub migrated_nodes : Problem → List (List Side) → List TreeNode → List TreeNode
migrated_nodes p [] nodes = nodes
migrated_nodes p (sides ∷ places) [] = []
migrated_nodes p (sides ∷ places) (node ∷ nodes) = migrated_node p sides node ∷ migrated_nodes p (below node sides ++ places) nodes

abbrev pub migrated : Problem → Certificate → Certificate
migrated p c = record {
  version = Two;
  rows = c.rows;
  columns = c.columns;
  verdict = c.verdict;
  value = c.value;
  point = c.point;
  ray = c.ray;
  derived = c.derived;
  tree = migrated_nodes p ([] ∷ []) c.tree;
}

-- ---- what a text needs of a list of weights

abbrev pub Each : (Item → Type 0) → List Item → Type 0
Each F [] = Unit {0}
Each F (i ∷ is) = F i × Each F is

-- the places rise, from `least` on
abbrev pub Rising : ℕ → List Item → Type 0
Rising least [] = Unit {0}
Rising least (i ∷ is) = (least ≤ i.index) × Rising (i.index + 1) is

-- not weights of one bound: another place, or another sign
abbrev pub IsOther : Item → Item → Type 0
IsOther i j = (i.index ≡ j.index) → ¬ (is_less zero_ℚ i.weight ≡ is_less zero_ℚ j.weight)

-- no bound has two weights
abbrev pub AllOther : List Item → Type 0
AllOther [] = Unit {0}
AllOther (i ∷ is) = Each (IsOther i) is × AllOther is

-- the order of a text: by place, and of one place the positive weight first
abbrev pub rank : Item → ℕ
rank i = 2 * i.index + (if is_less zero_ℚ i.weight then 0 else 1)

abbrev pub InRank : ℕ → List Item → Type 0
InRank least [] = Unit {0}
InRank least (i ∷ is) = (least ≤ rank i) × InRank (rank i + 1) is

-- ---- sums that are the same

pub record SameSum (ts us : List Weighted) : Type 0 where
  pub form : (j : ℕ) → coefficient_of (combined ts) j ≡ coefficient_of (combined us) j
  pub bound : combined_bound ts ≡ combined_bound us

pub record SameTerm (t u : Weighted) : Type 0 where
  pub form : (j : ℕ) → t.weight *ℚ coefficient_of t.form j ≡ u.weight *ℚ coefficient_of u.form j
  pub bound : t.weight *ℚ t.bound ≡ u.weight *ℚ u.bound

-- where the first are there, so are the second, with the same sums
abbrev pub Keeps : Option (List Weighted) → Option (List Weighted) → Type 0
Keeps None o = Unit {0}
Keeps (Some ts) None = ⊥
Keeps (Some ts) (Some us) = SameSum ts us

abbrev pub TermKeeps : Option Weighted → Option Weighted → Type 0
TermKeeps None o = Unit {0}
TermKeeps (Some t) None = ⊥
TermKeeps (Some t) (Some u) = SameTerm t u
