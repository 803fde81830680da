-- Problems whose search has no cause to end without a verdict.
use Rattle.std.specs.Prelude.{ℕ, ◌≤◌, ◌≡◌, List, []}
use Rattle.milp.specs.Problem.{Problem}
use Rattle.basis.specs.declared.Place.{Place}
use Rattle.search_node.specs.declared.fault.Site.{Site}
use Rattle.search_tree.specs.Tree.{made}
use Rattle.search_tree.specs.Board.{Board}
use Rattle.search_tree.specs.Kept.{IsKept}
use Rattle.branch_search.specs.Faults.{IsStuckAt, IsRunTooLong}
use Rattle.branch_search.specs.WholeFaults.{IsWanted, searched}
use Rattle.branch_search.specs.declared.whole_fault.Wanted.{Wanted}

-- Whatever the limits are, at each node to which honest splits lead each operation of the work fits and Bland's run is not longer
-- than the limit; and no board of the problem that is kept has more than `count` splits.
pub record IsUnhindered (p : Problem) (count : ℕ) : Type 0 where
  pub fits : (splits : ℕ) → (site : Site) → ¬ (IsStuckAt p [] splits site)
  pub ends : (splits pivots : ℕ) → (bases : List (List Place)) → ¬ (IsRunTooLong p [] splits pivots bases)
  pub few_splits : (board : Board) → IsKept board → board.problem ≡ p → board.cuts ≡ [] → made board.tree ≤ count

-- so is what is searched of the problem: the problem itself, and where a ray improves it the same without its objective
abbrev pub AreUnhindered : Problem → ℕ → Type 0
AreUnhindered p count = (wanted : Wanted) → IsWanted p wanted → IsUnhindered (searched p wanted) count
