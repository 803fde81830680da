use Rattle.std.proofs.Common.{◌∙◌, length, ap}
use Rattle.milp.specs.Problem.{Problem}
use Rattle.row_columns.proofs.MovedEntries.{columns_size}
use Rattle.row_columns.proofs.Extensions.{extension}
use Rattle.row_columns.proofs.extending.extended.Goals as goal

pub add_rows-requires-clause-size : goal.add_rows-requires-clause-size
add_rows-requires-clause-size c = columns_size c.as_str-prefix.result.now c.args.forms.now c.args.problem.now.columns c.in_ok-builder.builder.columns c.in_ok-count.count c.in_ok-count.ensures c.in_ok-builder.ensures.columns

pub set_objective-requires : goal.set_objective-requires
set_objective-requires c =
    ap (λ (q : Problem). length q.columns) c.in_ok-add_rows.ensures
    ∙ columns_size c.as_str-prefix.result.now c.args.forms.now c.args.problem.now.columns c.in_ok-builder.builder.columns c.in_ok-count.count c.in_ok-count.ensures c.in_ok-builder.ensures.columns

pub returns : goal.returns
returns c =
    extension c.args.problem.now c.as_str-prefix.result.now c.args.forms.now c.in_ok-count.count c.in_ok-builder.builder c.add_rows.new.builder c.set_objective.new.builder c.done.result
    c.in_ok-count.ensures c.in_ok-builder.ensures.columns c.in_ok-add_rows.ensures c.in_ok-set_objective.ensures c.done.ensures
