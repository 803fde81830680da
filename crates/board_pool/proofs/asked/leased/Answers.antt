use Rattle.std.proofs.Common.{refl}
use Rattle.board_pool.proofs.AskedLeaves.{asked_leased}
use Rattle.board_pool.proofs.asked.leased.Goals as goal

pub returns-in-Leased-clause-ok : goal.returns-in-Leased-clause-ok
returns-in-Leased-clause-ok c = asked_leased c.args.board.now _ c.args.seat c.in_ok-count.field-0 c.in-Leased.lease c.in-Leased.hint _ c.in-Leased.is c.in_ok-count.ensures.ok refl c.node_of-node.ensures
