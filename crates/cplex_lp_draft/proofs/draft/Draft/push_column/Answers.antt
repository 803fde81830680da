-- One more column.
use Rattle.std.proofs.Common.{◌∷◌, [], length, ap, arith}
use Rattle.std.proofs.lemmas.List.{length-append}
use Rattle.model_text.specs.Columns.{is_column_named}
use Rattle.model_text.proofs.Laws.{none-passes}
use Rattle.cplex_lp_draft.proofs.Kept.{columns-keep}
use Rattle.cplex_lp_draft.proofs.draft.Draft.push_column.Goals as goal

pub invariant_of-self-2 : goal.invariant_of-self-2
invariant_of-self-2 c = columns-keep _ _ _ c.self.inside.columns c.push.new.self (omega (arith, ap length c.in_ok-push.ensures.added, length-append c.self.inside.columns (c.new.result ∷ []))) c.self.invariant

pub push-requires-clause-new : goal.push-requires-clause-new
push-requires-clause-new c = rw c.new.ensures (none-passes (is_column_named c.args.name.now) c.self.inside.columns (rw (← c.self.view_is) at c.requires.new))
