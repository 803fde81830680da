-- Which certificates the grammar of their text has a text for.
use Rattle.std.specs.Prelude.{ℕ, ℤ, pos, ◌+◌, ◌-◌, ◌*◌, ◌^◌, ◌<◌, ◌≤◌, ◌≡◌, ◌≢◌, Bool, true, false, zero, suc, List, [], ◌∷◌, length, int_lt, IsTrue, Option, Some, None, if◌then◌else◌}
use Rattle.std.specs.List.{AllByRecursion}
use Rattle.rational.specs.Rational.{Rational, one_ℚ}
use Rattle.fraction.specs.Fits.{num_fits, fits}
use Rattle.milp.specs.Form.{Entry}
use Rattle.instance.specs.WellFormed.{are_entries}
use Rattle.verdicts.specs.Certificate.{Version, One, Two, Verdict, Optimal, Infeasible, Unbounded, Item, Weights, Split, FormSplit, Proof, Plain, BySplit, Derived, TreeNode, Branch, Empty, Bound, Certificate}

-- the greatest count or index of a text, where indices count from 1
abbrev pub count_max : ℕ
count_max = 2 ^ 32 - 1

abbrev pub is_negative : Rational → Bool
is_negative v = int_lt v.numerator (pos 0)

-- the order of the items of a kind: by index, and of one index the positive weight first
abbrev pub rank_of : Item → ℕ
rank_of i = 2 * i.index + (if is_negative i.weight then 1 else 0)

-- the least rank that may come after the items
abbrev pub next_rank : ℕ → List Item → ℕ
next_rank least [] = least
next_rank least (i ∷ is) = next_rank (rank_of i + 1) is

pub record IsItem (i : Item) : Type 0 where
  pub index : i.index < count_max
  pub some : i.weight.numerator ≢ pos 0
  pub number : IsTrue (fits i.weight)

-- items in ascending order of rank, from `least` on
abbrev pub AreItemsFrom : ℕ → List Item → Type 0
AreItemsFrom least [] = Unit {0}
AreItemsFrom least (i ∷ is) = (least ≤ rank_of i) × IsItem i × AreItemsFrom (rank_of i + 1) is

-- weights of rows, columns and derived rows alone
pub record AreWeights (w : Weights) : Type 0 where
  pub rows : AreItemsFrom 0 w.rows
  pub columns : AreItemsFrom 0 w.columns
  pub derived : AreItemsFrom 0 w.derived
  pub splits : w.splits ≡ []

-- the weights of a leaf
pub record AreLeafWeights (w : Weights) : Type 0 where
  pub rows : AreItemsFrom 0 w.rows
  pub columns : AreItemsFrom 0 w.columns
  pub derived : AreItemsFrom 0 w.derived
  pub splits : AreItemsFrom 0 w.splits

-- entries in ascending order of column, none with the coefficient 0
pub record IsForm (form : List Entry) : Type 0 where
  pub entries : IsTrue (are_entries count_max form)
  pub numbers : AllByRecursion (λ e. IsTrue (fits e.coefficient)) form

-- the form that is one column
abbrev pub column_form : ℕ → List Entry
column_form j = record { column = j; coefficient = one_ℚ } ∷ []

-- the split of one column
abbrev pub column_split : ℕ → ℤ → Split
column_split j at = record { form = column_form j; at = at }

abbrev pub first_column : List Entry → ℕ
first_column [] = 0
first_column (e ∷ es) = e.column

-- the column of such a split
abbrev pub split_column : Split → ℕ
split_column s = first_column s.form

-- a split of one column
pub record IsColumnSplit (s : Split) : Type 0 where
  pub form : s.form ≡ column_form (split_column s)
  pub column : split_column s < count_max
  pub at : IsTrue (num_fits s.at)

-- a split of any form
pub record IsSplit (s : Split) : Type 0 where
  pub form : IsForm s.form
  pub at : IsTrue (num_fits s.at)

pub record IsFormSplit (s : FormSplit) : Type 0 where
  pub at : IsTrue (num_fits s.at)
  pub form : IsForm s.form
  pub low : IsTrue (fits s.low)
  pub low_weights : AreWeights s.low_weights
  pub high : IsTrue (fits s.high)
  pub high_weights : AreWeights s.high_weights

abbrev pub IsProof : Proof → Type 0
IsProof (Plain w) = AreWeights w
IsProof (BySplit s) = IsFormSplit s

pub record IsDerived (d : Derived) : Type 0 where
  pub bound : IsTrue (fits d.bound)
  pub form : IsForm d.form
  pub proof : IsProof d.proof

abbrev pub IsNode : TreeNode → Type 0
IsNode (Branch s) = IsSplit s
IsNode (Empty w) = AreLeafWeights w
IsNode (Bound w) = AreLeafWeights w

-- a node for which version 1 has a line: a split of one column, or weights that name no split
abbrev pub IsOfOne : TreeNode → Type 0
IsOfOne (Branch s) = s.form ≡ column_form (split_column s)
IsOfOne (Empty w) = w.splits ≡ []
IsOfOne (Bound w) = w.splits ≡ []

-- nodes for which a version has lines
abbrev pub AreOf : Version → List TreeNode → Type 0
AreOf One nodes = AllByRecursion IsOfOne nodes
AreOf Two nodes = Unit {0}

-- how many places are open once a node fills one of these and more
abbrev pub open_after : TreeNode → ℕ → ℕ
open_after (Branch s) more = suc (suc more)
open_after (Empty w) more = more
open_after (Bound w) more = more

-- nodes in preorder that fill the open places, all of them
abbrev pub fills : ℕ → List TreeNode → Bool
fills zero [] = true
fills zero (node ∷ nodes) = false
fills (suc more) [] = false
fills (suc more) (node ∷ nodes) = fills (open_after node more) nodes

-- one whole tree
abbrev pub is_tree : List TreeNode → Bool
is_tree nodes = fills 1 nodes

-- a number for each of `count` columns
pub record IsPoint (count : ℕ) (x : List Rational) : Type 0 where
  pub size : length x ≡ count
  pub numbers : AllByRecursion (λ v. IsTrue (fits v)) x

pub record HasTree (version : Version) (derived : List Derived) (tree : List TreeNode) : Type 0 where
  pub count : length derived ≤ count_max
  pub rows : AllByRecursion IsDerived derived
  pub nodes : AllByRecursion IsNode tree
  pub lines : AreOf version tree
  pub whole : IsTrue (is_tree tree)

abbrev pub HasPoint : ℕ → Option (List Rational) → Type 0
HasPoint count None = ⊥
HasPoint count (Some x) = IsPoint count x

abbrev pub HasValue : Option Rational → Type 0
HasValue None = ⊥
HasValue (Some v) = IsTrue (fits v)

-- which parts a verdict has: optimal a value, a point, derived rows and a tree; infeasible derived rows and a tree;
-- unbounded a point and a ray
abbrev pub HasParts : Certificate → Verdict → Type 0
HasParts c Optimal = HasValue c.value × HasPoint c.columns c.point × (c.ray ≡ None) × HasTree c.version c.derived c.tree
HasParts c Infeasible = (c.value ≡ None) × (c.point ≡ None) × (c.ray ≡ None) × HasTree c.version c.derived c.tree
HasParts c Unbounded = (c.value ≡ None) × HasPoint c.columns c.point × HasPoint c.columns c.ray × (c.derived ≡ []) × (c.tree ≡ [])

-- the certificate has a text in its version
pub record HasText (c : Certificate) : Type 0 where
  pub rows : c.rows ≤ count_max
  pub columns : c.columns ≤ count_max
  pub parts : HasParts c c.verdict
