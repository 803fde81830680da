use Rattle.branch_search.proofs.Standing.{fragment_at, left_leased}
use Rattle.branch_search.proofs.settling.settle.Goals as goal

pub put-requires-clause-fragment : goal.put-requires-clause-fragment
put-requires-clause-fragment c = fragment_at c.args.board.now c.args.lease c.args.grown c.in-Ready.fragment c.requires.grown c.in-Ready.is

pub returns-clause-settled : goal.returns-clause-settled
returns-clause-settled c = left_leased c.args.board.now c.args.lease c.args.grown c.in-Ungranted.field-0 c.requires.open c.requires.best c.requires.grown c.in-Ungranted.is
