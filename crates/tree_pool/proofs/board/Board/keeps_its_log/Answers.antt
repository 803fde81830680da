use Rattle.std.proofs.Common.{subst}
use Rattle.search_tree.specs.Steps.{IsReplay}
use Rattle.search_tree.specs.Kept.{IsKept, IsCovered}
use Rattle.search_tree.proofs.Laws.{covered, replay_kept}
use Rattle.tree_pool.proofs.board.Board.keeps_its_log.Goals as goal

pub returns-clause-replay : goal.returns-clause-replay
returns-clause-replay c = subst IsReplay c.self.view_is c.self.invariant.3

pub returns-clause-kept : goal.returns-clause-kept
returns-clause-kept c = subst IsKept c.self.view_is (replay_kept _ c.self.invariant.3)

pub returns-clause-covered : goal.returns-clause-covered
returns-clause-covered c = subst IsCovered c.self.view_is (covered _ (replay_kept _ c.self.invariant.3))
