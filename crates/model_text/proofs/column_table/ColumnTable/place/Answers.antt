-- The place of a name among the names.
use Rattle.std.proofs.Common.{◌∙◌}
use Rattle.milp.specs.Problem.{Column}
use Rattle.model_text.specs.Columns.{is_column_named}
use Rattle.model_text.proofs.Laws.{same-place, place-within}
use Rattle.model_text.proofs.column_table.ColumnTable.place.Goals as goal

pub returns-clause-place : goal.returns-clause-place
returns-clause-place c = rw (← c.self.view_is) (c.place.ensures ∙ same-place (λ (x : Column). x.name) c.args.name.now c.self.inside.names c.self.inside.columns.items c.self.invariant.0)

pub returns-clause-within : goal.returns-clause-within
returns-clause-within c = rw (← c.self.view_is) (place-within (is_column_named c.args.name.now) c.self.inside.columns.items c.place.result (c.place.ensures ∙ same-place (λ (x : Column). x.name) c.args.name.now c.self.inside.names c.self.inside.columns.items c.self.invariant.0))
