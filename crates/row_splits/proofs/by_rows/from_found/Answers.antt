use Rattle.row_splits.proofs.ByRows.{by_columns, found_size, not_restored, refused, unfit}
use Rattle.row_splits.proofs.Left.{left_again}
use Rattle.row_splits.proofs.by_rows.from_found.Goals as goal

pub restore-requires-clause-splits : goal.restore-requires-clause-splits
restore-requires-clause-splits g c = by_columns c.args.found.now c.requires.version_found c.requires.splits

pub restore-requires-clause-size : goal.restore-requires-clause-size
restore-requires-clause-size g c = found_size c.args.problem.now c.args.extension.now.problem c.args.extension.now.forms c.args.found.now c.requires.extended c.requires.proves_found

pub returns-in-Ok-Refused-clause-fault : goal.returns-in-Ok-Refused-clause-fault
returns-in-Ok-Refused-clause-fault g c =
    let p = c.args.problem.now in
    left_again p
    (not_restored p c.args.extension.now.problem c.args.extension.now.forms c.requires.forms c.requires.extended c.args.found.now c.requires.version_found c.requires.splits c.requires.accepted_found c.in_ok-restored.restored c.in_ok-restored.ensures
    (refused p c.in_ok-restored.restored c.in-Ok-Refused.field-0 c.in-Ok-Refused.field-0-0 c.in-Ok-Refused.field-0-is c.in-Ok-Refused.ensures.exact))
    c.args.split_limit c.args.pivot_limit c.solved_itself.result c.solved_itself.ensures.fault

pub returns-in-Err-clause-fault : goal.returns-in-Err-clause-fault
returns-in-Err-clause-fault g c =
    let p = c.args.problem.now in
    left_again p
    (not_restored p c.args.extension.now.problem c.args.extension.now.forms c.requires.forms c.requires.extended c.args.found.now c.requires.version_found c.requires.splits c.requires.accepted_found c.in_ok-restored.restored c.in_ok-restored.ensures
    (unfit p c.in_ok-restored.restored c.in-Err.field-0 c.in-Err.ensures.exact))
    c.args.split_limit c.args.pivot_limit c.solved_itself-in-Err.result c.solved_itself-in-Err.ensures.fault
