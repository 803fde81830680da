use Rattle.command_line.proofs.Taken.{given_by, refused_by, refuses, taken_by}
use Rattle.command_line.proofs.options.matches_on.Goals as goal

pub returns-in_err-try_get_matches_from-clause-refused :
    goal.returns-in_err-try_get_matches_from-clause-refused
returns-in_err-try_get_matches_from-clause-refused c =
    refuses c.from_residual-in_err-try_get_matches_from.result c.in_err-try_get_matches_from.field-0.0 c.from_residual-in_err-try_get_matches_from.ensures.1
    (refused_by c.in_ok-command.field-0 _ c.in_err-try_get_matches_from.field-0.0 c.in_ok-command.ensures c.in_err-try_get_matches_from.ensures.kinds)

pub returns-clause-taken : goal.returns-clause-taken
returns-clause-taken c = taken_by c.in_ok-command.field-0 _ c.in_ok-command.ensures c.in_ok-try_get_matches_from.ensures.kinds

pub returns-clause-found : goal.returns-clause-found
returns-clause-found c =
    given_by c.in_ok-command.field-0 _ c.in_ok-try_get_matches_from.field-0 c.in_ok-command.ensures c.in_ok-try_get_matches_from.ensures.matches
