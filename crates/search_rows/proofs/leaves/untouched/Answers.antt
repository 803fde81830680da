use Rattle.search_rows.proofs.Standing.{untouched}
use Rattle.search_rows.proofs.leaves.untouched.Goals as goal

pub returns : goal.returns
returns c = untouched c.args.board.now c.args.lease.now _ _ c.in_ok-leaf.ensures
