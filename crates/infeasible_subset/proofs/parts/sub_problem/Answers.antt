use Rattle.infeasible_subset.specs.Members.{OfColumn, has}
use Rattle.infeasible_subset.proofs.Building.{forms_kept, built}
use Rattle.infeasible_subset.proofs.parts.sub_problem.Goals as goal

pub add_rows-requires-clause-forms : goal.add_rows-requires-clause-forms
add_rows-requires-clause-forms c = forms_kept c.add_columns.new.builder c.in_ok-builder.builder (λ j s. has c.args.members.now (OfColumn j s)) c.args.problem.now.columns c.columns.result.now c.args.problem.now.rows c.rows.result.now c.in_ok-add_columns.ensures c.columns.ensures c.rows.ensures c.keeps_its_limits.ensures.well_formed.row_forms

pub returns : goal.returns
returns c = built c.args.problem.now c.in_ok-builder.builder c.add_columns.new.builder c.add_rows.new.builder c.objective.new.self c.done.result (has c.args.members.now) c.columns.result.now c.rows.result.now c.direction.result c.in_ok-name.name c.objective_name.result.now c.new-2.result c.zero.result c.in_ok-add_columns.ensures c.columns.ensures c.in_ok-add_rows.ensures c.rows.ensures c.direction.ensures c.in_ok-name.ensures c.objective_name.ensures c.new-2.ensures c.zero.ensures c.objective.ensures c.done.ensures
