use Rattle.branch_search.proofs.Further.{next_worked, next_left, next_idle}
use Rattle.branch_search.proofs.whole.goes_on.Goals as goal

pub returns-in-Worked-clause-next : goal.returns-in-Worked-clause-next
returns-in-Worked-clause-next c = next_worked c.args.board.now _ c.in_ok-round.field-0 c.kept_boards.ensures.steps c.keeps_its_log.ensures.kept c.requires.going c.in-Worked.is c.in_ok-round.ensures.ok

pub returns-in-Left-clause-next : goal.returns-in-Left-clause-next
returns-in-Left-clause-next c = next_left c.args.board.now _ c.in_ok-round.field-0 c.requires.going c.in-Left.is c.in_ok-round.ensures.ok

pub returns-in-Idle-clause-next : goal.returns-in-Idle-clause-next
returns-in-Idle-clause-next c = next_idle c.args.board.now _ c.in_ok-round.field-0 c.requires.going c.in-Idle.is c.in_ok-round.ensures.ok
