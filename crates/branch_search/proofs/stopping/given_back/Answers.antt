use Rattle.search_tree.specs.Kept.{IsKept}
use Rattle.search_tree.specs.Steps.{IsReclaim}
use Rattle.branch_search.specs.Faults.{IsStoppedBoard}
use Rattle.branch_search.proofs.Ends.{stopped_board}
use Rattle.branch_search.proofs.Standing.{made_so}
use Rattle.branch_search.proofs.stopping.given_back.Goals as goal

pub returns-clause-back : goal.returns-clause-back
returns-clause-back c = made_so c.new.result c.reclaim.new.self (IsReclaim c.args.board) c.new.ensures c.in_ok-reclaim.ensures.ok

pub returns-clause-kept : goal.returns-clause-kept
returns-clause-kept c = made_so c.new.result c.reclaim.new.self IsKept c.new.ensures c.keeps_its_log.ensures.kept

pub returns-clause-stopped : goal.returns-clause-stopped
returns-clause-stopped c =
    let b = c.args.board in
    made_so c.new.result c.reclaim.new.self (IsStoppedBoard b.problem b.cuts b.split_limit b.pivot_limit) c.new.ensures (stopped_board b c.reclaim.new.self c.in_ok-reclaim.ensures.ok c.keeps_its_log.ensures.replay)
