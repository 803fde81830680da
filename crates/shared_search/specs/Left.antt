-- The board with which workers end.
use Rattle.std.specs.Prelude.{ℕ, ◌≡◌, []}
use Rattle.milp.specs.Problem.{Problem}
use Rattle.search_tree.specs.Board.{Board}
use Rattle.branch_search.specs.Underway.{IsGoing}

-- It is a board of a search of the problem without cuts, within these limits, and the search goes on from it: each leaf is closed or
-- to be worked on, and no lease is open.
pub record IsLeft (p : Problem) (splits pivots : ℕ) (b : Board) : Type 0 where
  pub problem : b.problem ≡ p
  pub cuts : b.cuts ≡ []
  pub split_limit : b.split_limit ≡ splits
  pub pivot_limit : b.pivot_limit ≡ pivots
  pub going : IsGoing b
