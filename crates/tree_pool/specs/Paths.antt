-- The splits on the ways to the nodes of a tree, by their places.
use Rattle.std.specs.Prelude.{ℕ, suc, ◌<◌, List, [], ◌∷◌, ◌++◌, get_or}
use Rattle.search_node.specs.declared.node.SplitTaken.{SplitTaken}
use Rattle.tree_pool.specs.declared.paths.Link.{Link}

-- the splits on the way to each place, and for how many further places there is room
pub record Paths : Type 0 where
  pub all : List (List SplitTaken)
  pub room : ℕ

abbrev pub path_at : List (List SplitTaken) → ℕ → List SplitTaken
path_at paths place = get_or paths place []

-- the path of the place above with one more split
abbrev pub next_path : List (List SplitTaken) → Link → List SplitTaken
next_path paths link = path_at paths link.above ++ link.taken ∷ []

-- the paths with those of further links
abbrev pub paths_from : List (List SplitTaken) → List Link → List (List SplitTaken)
paths_from paths [] = paths
paths_from paths (link ∷ links) = paths_from (paths ++ next_path paths link ∷ []) links

-- the root's path, and those of links
abbrev pub paths_of : List Link → List (List SplitTaken)
paths_of links = paths_from ([] ∷ []) links

-- each link leads to a place before its own, where the first one's is this place
abbrev pub AreAbove : ℕ → List Link → Type 0
AreAbove n [] = Unit {0}
AreAbove n (link ∷ links) = (link.above < n) × AreAbove (suc n) links
