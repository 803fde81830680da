use Rattle.std.proofs.Common.{subst}
use Rattle.search_tree.specs.Finished.{IsFinished}
use Rattle.tree_pool.proofs.board.Board.is_finished.Goals as goal

pub returns-clause-yes : goal.returns-clause-yes
returns-clause-yes c = λ e. subst IsFinished c.self.view_is (c.is_finished.ensures.yes e)

pub returns-clause-no : goal.returns-clause-no
returns-clause-no c = λ e. subst (λ b. ¬ (IsFinished b)) c.self.view_is (c.is_finished.ensures.no e)
