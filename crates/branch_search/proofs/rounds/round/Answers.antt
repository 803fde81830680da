use Rattle.branch_search.proofs.Ends.{leased_open, after_lease}
use Rattle.branch_search.proofs.SameSearch.{same_lease, same_then}
use Rattle.branch_search.proofs.rounds.round.Goals as goal

pub work-requires-clause-open : goal.work-requires-clause-open
work-requires-clause-open c = leased_open c.args.board.now _ c.in_ok-lease.field-0 c.in-Leased.lease c.in-Leased.hint c.in-Leased.is c.in_ok-lease.ensures.ok

pub returns-in-Leased-clause-ok : goal.returns-in-Leased-clause-ok
returns-in-Leased-clause-ok c = after_lease c.args.board.now _ _ c.in_ok-lease.field-0 c.in-Leased.lease c.in-Leased.hint c.work.result c.in-Leased.is c.in_ok-lease.ensures.ok c.work.ensures.ok

pub returns-in-Leased-clause-same : goal.returns-in-Leased-clause-same
returns-in-Leased-clause-same c = same_then c.args.board.now c.lease.new.self c.work.new.board (same_lease c.args.board.now c.lease.result c.lease.new.self c.lease.ensures.ok c.lease.ensures.kept) c.work.ensures.same

pub returns-in-Idle-clause-same : goal.returns-in-Idle-clause-same
returns-in-Idle-clause-same c = same_lease c.args.board.now c.lease.result c.lease.new.self c.lease.ensures.ok c.lease.ensures.kept
