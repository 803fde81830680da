use Rattle.row_splits.proofs.Left.{left_by_rows}
use Rattle.row_splits.proofs.restoring.without_row_columns.Goals as goal

pub restored_shown-shown-requires-clause-columns : goal.restored_shown-shown-requires-clause-columns
restored_shown-shown-requires-clause-columns c = c.unsolved-fault.ensures.columns c.args.extension.now.problem c.args.split_limit c.args.pivot_limit c.requires.fault

pub restored_shown-shown-requires-clause-passes : goal.restored_shown-shown-requires-clause-passes
restored_shown-shown-requires-clause-passes c = c.unsolved-fault.ensures.passes c.args.extension.now.problem c.args.split_limit c.args.pivot_limit c.requires.fault

pub returns-clause-fault : goal.returns-clause-fault
returns-clause-fault c =
    left_by_rows c.args.problem.now c.args.extension.now.problem (record { forms = c.args.extension.now.forms; are_forms = c.requires.forms; extended = c.requires.extended }) c.args.split_limit c.args.pivot_limit c.args.fault
    c.unsolved-fault.result.shown (record { fault = c.unsolved-fault.result.fault; shown = c.restored_shown-shown.result }) c.unsolved-fault.ensures.fault c.unsolved-fault.ensures.shown c.restored_shown-shown.ensures.restored c.requires.fault
