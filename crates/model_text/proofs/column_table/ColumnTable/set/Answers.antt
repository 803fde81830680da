-- The column in its place.
use Rattle.std.proofs.Common.{◌≡◌, ◌∙◌, ◌<◌, length, slice_get, Some, sym, ap, arith}
use Rattle.std.proofs.lemmas.Option.{slice_get-get_or}
use Rattle.std.proofs.Math.ListN.{length-set}
use Rattle.milp.specs.Problem.{Column}
use Rattle.model_text.proofs.Laws.{same-names}
use Rattle.model_text.proofs.column_table.ColumnTable.set.Goals as goal

pub invariant_of-self : goal.invariant_of-self
invariant_of-self c =
    let within : c.args.place < length c.self.inside.columns.items = rw (← c.self.view_is) at c.requires.within in
    let there : slice_get c.self.inside.columns.items c.args.place ≡ Some c.index_mut.result.now = slice_get-get_or c.self.inside.columns.items c.args.place c.index_mut.result.now within ∙ ap Some (sym c.index_mut.ensures.value) in
    let named = rw (← c.self.view_is) at c.requires.name in
    let name : c.args.column.name ≡ c.index_mut.result.now.name = rw there at named in
    (same-names (λ (x : Column). x.name) c.self.inside.names c.self.inside.columns.items c.self.invariant.0 c.args.place c.index_mut.result.now c.args.column c.index_mut.ensures.value name, c.self.invariant.1, omega (arith, length-set c.self.inside.columns.items c.args.place c.args.column, c.self.invariant.2))
