use Rattle.std.proofs.Common.{sym, subst}
use Rattle.search_tree.specs.Board.{Board}
use Rattle.search_tree.specs.Steps.{IsReclaim}
use Rattle.board_pool.specs.Searches.{IsOfSearch}
use Rattle.shared_search.specs.Holders.{first_in}
use Rattle.shared_search.proofs.Boards.{left_board}
use Rattle.shared_search.proofs.Faults.{met_on, fault_of_search}
use Rattle.shared_search.proofs.whole.ended.Goals as goal

pub returns-in_ok-given_back-in-None-clause-board : goal.returns-in_ok-given_back-in-None-clause-board
returns-in_ok-given_back-in-None-clause-board c =
    let given = c.in_ok-given_back-in-None in
    left_board (first_in c.args.pool) c.close.result given.field-0 c.close.ensures.replay c.requires.cuts (subst (λ (b : Board). IsReclaim b given.field-0) c.into_board-board.ensures given.ensures)

pub stopped-requires : goal.stopped-requires
stopped-requires c =
    let first = first_in c.args.pool in
    let of = subst (IsOfSearch first) (sym c.into_board-board.ensures) c.close.ensures.replay in
    met_on first c.into_board-board.result c.args.last.fault c.in-Some.fault c.into_inner.result of c.requires.ready.fault c.in-Some.is c.into_inner.ensures

pub returns-in-Some-clause-fault : goal.returns-in-Some-clause-fault
returns-in-Some-clause-fault c =
    let first = first_in c.args.pool in
    let of = subst (IsOfSearch first) (sym c.into_board-board.ensures) c.close.ensures.replay in
    fault_of_search first c.into_board-board.result c.stopped.result of c.stopped.ensures
