use Rattle.std.proofs.Common.{◌≡◌, IfSome, subst}
use Rattle.search_tree.specs.Tree.{leased_under}
use Rattle.search_tree.specs.Board.{Board}
use Rattle.tree_pool.specs.Places.{IsOpen}
use Rattle.tree_pool.proofs.board.Board.open_lease.Goals as goal

pub returns-clause-open : goal.returns-clause-open
returns-clause-open c = let P : Board → Type 0 = λ b. IfSome c.open_lease.result (IsOpen b.tree) in subst P c.self.view_is c.open_lease.ensures.open

pub returns-clause-none : goal.returns-clause-none
returns-clause-none c = λ e. let P : Board → Type 0 = λ b. leased_under c.args.number b.tree ≡ 0 in subst P c.self.view_is (c.open_lease.ensures.none e)
