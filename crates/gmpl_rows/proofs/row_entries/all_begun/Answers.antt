-- One more row.
use Rattle.std.proofs.Common.{◌∙◌, ◌++◌, ◌∷◌, [], ap}
use Rattle.gmpl_rows.specs.Laying.{nothing_begun}
use Rattle.gmpl_rows.proofs.Laying.{begun-more}
use Rattle.gmpl_rows.proofs.row_entries.all_begun.Goals as goal

pub loop-row-preserved : goal.loop-row-preserved
loop-row-preserved c = c.in_ok-push.ensures.items ∙ ap (λ r. c.loop-row.rows.items ++ r ∷ []) c.new.ensures ∙ ap (λ rs. rs ++ nothing_begun ∷ []) c.loop-row.invariant ∙ begun-more c.loop-row._row
