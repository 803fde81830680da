-- A name that has a place.
use Rattle.std.proofs.Common.{◌∙◌, ap, is_some}
use Rattle.std.specs.List.{list_any}
use Rattle.milp.specs.Problem.{Column}
use Rattle.model_text.specs.Columns.{is_column_named}
use Rattle.model_text.proofs.Laws.{has-name}
use Rattle.model_text.proofs.column_table.ColumnTable.has.Goals as goal

pub returns : goal.returns
returns c = let h = has-name (λ (x : Column). x.name) c.args.name.now c.self.inside.names c.self.inside.columns.items c.self.invariant.0 in c.is_some.ensures ∙ ap is_some c.place.ensures ∙ h ∙ ap (λ xs. list_any (is_column_named c.args.name.now) xs) c.self.view_is
