-- Leaves that are leased, and what may be put there.
use Rattle.std.specs.Prelude.{◌≡◌, List, [], Some}
use Rattle.verdicts.specs.Certificate.{Side as SideOf}
use Rattle.certificate.specs.declared.split.Side.{Side}
use Rattle.search_tree.specs.declared.leaf.Lease.{Lease}
use Rattle.search_tree.specs.declared.leaf.Leaf.TheVariants.{Leased}
use Rattle.search_tree.specs.Tree.{Tree, AtLeaf, at_place, sides_to}
use Rattle.search_tree.specs.Board.{Board, value_of}
use Rattle.branch_search.specs.declared.fragment.Fragment.{Fragment}
use Rattle.branch_search.specs.declared.fragment.Grown.{Grown}
use Rattle.branch_search.specs.Grown.{IsHonestTree, IsFragment, IsGrown}

-- these splits, the latest first, lead to where this lease is open
abbrev pub LeadTo : Board → Lease → List SideOf → Type 0
LeadTo b lease sides = (way : List Side) → at_place b.tree way ≡ Some (AtLeaf (Leased lease)) → sides ≡ sides_to b.tree way []

-- the work where this lease is open comes to this
abbrev pub GrowsAt : Board → Lease → Grown → Type 0
GrowsAt b lease grown = (way : List Side) → at_place b.tree way ≡ Some (AtLeaf (Leased lease)) → IsGrown b.problem b.cuts b.pivot_limit (sides_to b.tree way []) lease.best lease.grant grown

-- and this is such a fragment
abbrev pub IsFragmentAt : Board → Lease → Fragment → Type 0
IsFragmentAt b lease fragment = (way : List Side) → at_place b.tree way ≡ Some (AtLeaf (Leased lease)) → IsFragment b.problem b.cuts b.pivot_limit (sides_to b.tree way []) lease.best lease.grant fragment

-- the tree may be put where this lease is open, against the best value
abbrev pub MayStand : Board → Lease → Tree → Type 0
MayStand b lease t = (way : List Side) → at_place b.tree way ≡ Some (AtLeaf (Leased lease)) → IsHonestTree b.problem b.cuts b.pivot_limit (sides_to b.tree way []) lease.best (value_of b) t
