-- The way to each place of a kept tree is honest.
use Rattle.std.proofs.Common.{◌≡◌, ◌+◌, ◌≤◌, List, [], ◌∷◌, length, ap, Some, arith}
use Rattle.milp.specs.Problem.{Problem}
use Rattle.verdicts.specs.Certificate.{Side as SideOf, Low as LowOf, High as HighOf, Derived}
use Rattle.certificate.specs.declared.split.Side.{Side}
use Rattle.certificate.specs.declared.split.Side.TheVariants.{Low, High}
use Rattle.search_tree.specs.declared.leaf.Lease.{Lease}
use Rattle.search_tree.specs.declared.leaf.Leaf.{Leaf}
use Rattle.search_tree.specs.declared.leaf.Leaf.TheVariants.{Leased}
use Rattle.search_tree.specs.Tree.{Tree, Divided, AtLeaf, at_place, sides_to, AllSplits, made, granted}
use Rattle.search_tree.specs.Board.{Board}
use Rattle.search_tree.specs.Nodes.{IsHonestSplit}
use Rattle.search_tree.specs.Kept.{IsKept}
use Rattle.search_tree.specs.Honest.{AreHonest, IsHonestWay}
use Rattle.search_tree.specs.Points.{AreOfColumns}

ways_honest : (p : Problem) (ds : List Derived) (t : Tree) (way : List Side) (sides : List SideOf) → AllSplits (IsHonestSplit p ds) sides t → AreHonest p ds sides → AreHonest p ds (sides_to t way sides)
ways_honest p ds (Divided s low high) [] sides h above = above
ways_honest p ds (AtLeaf leaf) [] sides h above = above
ways_honest p ds (AtLeaf leaf) (side ∷ way) sides h above = above
ways_honest p ds (Divided s low high) (Low ∷ way) sides h above = ways_honest p ds low way (LowOf s ∷ sides) h.1 (h.0, above)
ways_honest p ds (Divided s low high) (High ∷ way) sides h above = ways_honest p ds high way (HighOf s ∷ sides) h.2 (h.0, above)

way_short : (t : Tree) (way : List Side) (sides : List SideOf) → length (sides_to t way sides) ≤ made t + length sides
way_short (Divided s low high) [] sides = omega arith
way_short (AtLeaf leaf) [] sides = omega arith
way_short (AtLeaf leaf) (side ∷ way) sides = omega arith
way_short (Divided s low high) (Low ∷ way) sides = let more = way_short low way (LowOf s ∷ sides) in omega arith
way_short (Divided s low high) (High ∷ way) sides = let more = way_short high way (HighOf s ∷ sides) in omega arith

pub way_is_honest : (b : Board) → IsKept b → (way : List Side) → IsHonestWay b.problem b.cuts b.split_limit (sides_to b.tree way [])
way_is_honest b k way = record { count = let short = way_short b.tree way [] in let within = k.within in omega arith; splits = ways_honest b.problem b.cuts b.tree way [] k.splits tt }

-- what a leased leaf grants is part of all that is granted
grant_within : (t : Tree) (way : List Side) (lease : Lease) → at_place t way ≡ Some (AtLeaf (Leased lease)) → lease.grant ≤ granted t
grant_within (Divided s low high) [] lease h = cc
grant_within (AtLeaf leaf) [] lease h = at_leaf leaf h
  where
    at_leaf : (leaf : Leaf) → Some (AtLeaf leaf) ≡ Some (AtLeaf (Leased lease)) → lease.grant ≤ granted (AtLeaf leaf)
    at_leaf leaf h = let same : leaf ≡ Leased lease = cc in let grant = ap (λ l. granted (AtLeaf l)) same in omega arith
grant_within (AtLeaf leaf) (side ∷ way) lease h = cc
grant_within (Divided s low high) (Low ∷ way) lease h = let part = grant_within low way lease h in omega arith
grant_within (Divided s low high) (High ∷ way) lease h = let part = grant_within high way lease h in omega arith

pub leases_fit : (b : Board) → IsKept b → (way : List Side) (lease : Lease) → at_place b.tree way ≡ Some (AtLeaf (Leased lease)) → length (sides_to b.tree way []) + lease.grant ≤ b.split_limit
leases_fit b k way lease h = let short = way_short b.tree way [] in let part = grant_within b.tree way lease h in let within = k.within in omega arith

-- honest splits are of columns
pub honest_columns : (p : Problem) (ds : List Derived) (sides : List SideOf) → AreHonest p ds sides → AreOfColumns sides
honest_columns p ds [] h = tt
honest_columns p ds (LowOf s ∷ sides) h = (h.0.form, honest_columns p ds sides h.1)
honest_columns p ds (HighOf s ∷ sides) h = (h.0.form, honest_columns p ds sides h.1)
