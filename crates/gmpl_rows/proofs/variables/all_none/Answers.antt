-- One more variable.
use Rattle.std.proofs.Common.{◌∙◌, ◌++◌, ◌∷◌, [], ap}
use Rattle.gmpl_rows.specs.Demanded.{none_demanded}
use Rattle.gmpl_rows.proofs.Counts.{none-more}
use Rattle.gmpl_rows.proofs.variables.all_none.Goals as goal

pub loop-statement-preserved : goal.loop-statement-preserved
loop-statement-preserved c = c.in_ok-push.ensures.items ∙ ap (λ d. c.loop-statement.demanded.items ++ d ∷ []) c.new.ensures ∙ ap (λ ds. ds ++ none_demanded ∷ []) c.loop-statement.invariant ∙ none-more c.loop-statement._statement
