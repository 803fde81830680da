-- Step after step.
use Rattle.std.proofs.Common.{map, ap, ◌∙◌}
use Rattle.gmpl_rows.specs.Problem.{column_of, aimed_at}
use Rattle.gmpl_rows.proofs.Adding.{assembled}
use Rattle.gmpl_rows.proofs.finished.assembled.Goals as goal

pub returns : goal.returns
returns c = assembled c.args.objective c.args.rows.items (map column_of c.args.laid.items) c.in_ok-new.field-0 c.in_ok-builder.builder c.set_objective.new.builder c.in_ok-builder-2.builder c.done.result c.in_ok-new.ensures c.in_ok-builder.ensures (c.in_ok-set_objective.ensures ∙ ap (λ rs. aimed_at c.args.objective rs c.in_ok-builder.builder) c.deref.ensures.value) c.in_ok-builder-2.ensures c.done.ensures
