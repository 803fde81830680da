-- Honest nodes: each split on the way parts an optimal point of the node above it from both sides.
use Rattle.std.specs.Prelude.{ℕ, ◌≤◌, List, [], ◌∷◌, length}
use Rattle.milp.specs.Problem.{Problem}
use Rattle.verdicts.specs.Certificate.{Side, Low, High, Derived}
use Rattle.search_tree.specs.Nodes.{IsHonestSplit}

-- each of the splits on a way, the latest first, is honest at the node above it
abbrev pub AreHonest : Problem → List Derived → List Side → Type 0
AreHonest p ds [] = Unit {0}
AreHonest p ds (Low s ∷ above) = IsHonestSplit p ds above s × AreHonest p ds above
AreHonest p ds (High s ∷ above) = IsHonestSplit p ds above s × AreHonest p ds above

-- at most `limit` splits, all honest
pub record IsHonestWay (p : Problem) (ds : List Derived) (limit : ℕ) (sides : List Side) : Type 0 where
  pub count : length sides ≤ limit
  pub splits : AreHonest p ds sides
