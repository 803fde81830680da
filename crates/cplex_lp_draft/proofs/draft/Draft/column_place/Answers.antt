-- The place of a name, which is its place among the names.
use Rattle.std.proofs.Common.{◌∙◌, sym}
use Rattle.model_text.specs.Columns.{is_column_named}
use Rattle.model_text.proofs.Laws.{place-some, place-past}
use Rattle.cplex_lp_draft.proofs.draft.Draft.column_place.Goals as goal

pub returns-in-Some-clause-value : goal.returns-in-Some-clause-value
returns-in-Some-clause-value c = let there = place-some (is_column_named c.args.name.now) c.self.inside.columns c.in-Some.place (sym c.place.ensures.place ∙ c.in-Some.is) in rw (← c.self.view_is) (sym there.0)

pub returns-in-None-clause-value : goal.returns-in-None-clause-value
returns-in-None-clause-value c = rw (← c.self.view_is) (c.len.ensures.len ∙ place-past (is_column_named c.args.name.now) c.self.inside.columns (sym c.in-None.is ∙ c.place.ensures.place))
