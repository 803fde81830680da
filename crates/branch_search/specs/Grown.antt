-- Trees that grow at a leased leaf, within its grant.
use Rattle.std.specs.Prelude.{ℕ, ◌+◌, ◌≤◌, ◌≡◌, ◌⊎◌, List, Option, Some, None, IfSome}
use Rattle.rational.specs.Rational.{Rational}
use Rattle.milp.specs.Problem.{Problem}
use Rattle.milp.specs.Points.{Feasible, objective_value}
use Rattle.verdicts.specs.Certificate.{Side, Derived}
use Rattle.search_node.specs.Sides.{sides_of}
use Rattle.search_node.specs.declared.node.Node.{Node}
use Rattle.search_tree.specs.declared.leaf.Leaf.{Leaf}
use Rattle.search_tree.specs.Tree.{Tree, Divided, AtLeaf, IsTodo, AllSplits, AllLeaves, made}
use Rattle.search_tree.specs.Nodes.{IsHonestSplit, IsWorthwhile, IsTreated, Beats, KeepsLeaf}
use Rattle.search_tree.specs.Kept.{HasSums, closed_node}
use Rattle.search_tree.specs.Finished.{IsThere}
use Rattle.branch_search.specs.Treatment.{IsToSplit}
use Rattle.branch_search.specs.declared.fragment.Fragment.{Fragment}
use Rattle.branch_search.specs.declared.fragment.Grown.{Grown}
use Rattle.branch_search.specs.declared.fragment.Grown.TheVariants.{Ready, Ungranted}
use Rattle.branch_search.specs.declared.growing.Progress.{Progress}
use Rattle.branch_search.specs.declared.growing.Decided.{Decided}
use Rattle.branch_search.specs.declared.growing.Decided.TheVariants.{Closed, ToSplit}

-- ---- trees for the place of a leased leaf

-- Below these splits, the latest first: each split is honest, and at a node that beats the value `told`; and each leaf says what
-- holds of its node, bounded ones against the value `goal`.
pub record IsHonestTree (p : Problem) (ds : List Derived) (limit : ℕ) (sides : List Side) (told goal : Option Rational) (t : Tree) : Type 0 where
  pub splits : AllSplits (IsHonestSplit p ds) sides t
  pub worthwhile : AllSplits (λ at s. IsWorthwhile p ds told at) sides t
  pub leaves : AllLeaves (KeepsLeaf p ds limit goal) sides t

-- each leaf is to be worked on, or closed
abbrev pub AreTodoOrClosed : Tree → Type 0
AreTodoOrClosed (Divided s low high) = AreTodoOrClosed low × AreTodoOrClosed high
AreTodoOrClosed (AtLeaf leaf) = IsTodo leaf ⊎ IsThere (closed_node leaf)

-- the node at the root is split, or closed
abbrev pub IsSplitOrClosed : Tree → Type 0
IsSplitOrClosed (Divided s low high) = Unit {0}
IsSplitOrClosed (AtLeaf leaf) = IsThere (closed_node leaf)

-- the work has brought something, and no more splits than were granted
pub record IsOutcome (grant : ℕ) (t : Tree) : Type 0 where
  pub leaves : AreTodoOrClosed t
  pub root : IsSplitOrClosed t
  pub within : made t ≤ grant

-- ---- what the work at a leaf comes to

-- a feasible point whose sums fit, and which beats the value
pub record IsBetterPoint (p : Problem) (best : Option Rational) (x : List Rational) : Type 0 where
  pub feasible : Feasible p x
  pub sums : HasSums p x
  pub beats : Beats p best x

-- the best value, once the point is offered that was found, if one was
abbrev pub best_with : Problem → Option Rational → Option (List Rational) → Option Rational
best_with p best None = best
best_with p best (Some x) = Some (objective_value p x)

-- at a leaf below these splits, where the lease told this best value and granted so many splits
pub record IsFragment (p : Problem) (ds : List Derived) (limit : ℕ) (sides : List Side) (best : Option Rational) (grant : ℕ) (f : Fragment) : Type 0 where
  pub found : IfSome f.found (IsBetterPoint p best)
  pub tree : IsHonestTree p ds limit sides best (best_with p best f.found) f.tree
  pub outcome : IsOutcome grant f.tree

-- the node would have to be split, and no split is granted
pub record IsUngranted (p : Problem) (ds : List Derived) (sides : List Side) (best : Option Rational) (grant : ℕ) : Type 0 where
  pub none : grant ≡ 0
  pub treated : IsTreated p ds sides best

abbrev pub IsGrown : Problem → List Derived → ℕ → List Side → Option Rational → ℕ → Grown → Type 0
IsGrown p ds limit sides best grant (Ready fragment) = IsFragment p ds limit sides best grant fragment
IsGrown p ds limit sides best grant (Ungranted hint) = IsUngranted p ds sides best grant

-- ---- while it goes on

-- the best value stays; or a feasible point that beats it was found since, and its value is the best one now
pub data IsOnward (p : Problem) (old new : Progress) : Type 0 where
  unchanged : new.best ≡ old.best → new.found ≡ old.found → IsOnward p old new
  better : (x : List Rational) → IsBetterPoint p old.best x → new.best ≡ Some (objective_value p x) → new.found ≡ Some x → IsOnward p old new

-- the tree has grown below these splits, and each of its splits was one of those that were left
pub record IsGrowth (p : Problem) (ds : List Derived) (limit : ℕ) (sides : List Side) (old new : Progress) (t : Tree) : Type 0 where
  pub tree : IsHonestTree p ds limit sides old.best new.best t
  pub leaves : AreTodoOrClosed t
  pub count : made t + new.left ≡ old.left
  pub onward : IsOnward p old new

-- the leaf closes the node below these splits
pub record IsClosed (p : Problem) (ds : List Derived) (limit : ℕ) (sides : List Side) (old new : Progress) (leaf : Leaf) : Type 0 where
  pub there : IsThere (closed_node leaf)
  pub keeps : KeepsLeaf p ds limit new.best sides leaf
  pub left : new.left ≡ old.left
  pub onward : IsOnward p old new

-- the node is closed, or it is to be split, and nothing was found
abbrev pub IsDecided : Problem → List Derived → ℕ → Node → Progress → Progress → Decided → Type 0
IsDecided p ds limit node old new (Closed leaf) = IsClosed p ds limit (sides_of node.splits) old new leaf
IsDecided p ds limit node old new (ToSplit parent fractional) = (parent ≡ node) × (new ≡ old) × IsToSplit p ds (sides_of node.splits) old.best fractional
