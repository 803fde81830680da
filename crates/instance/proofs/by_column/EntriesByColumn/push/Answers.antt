use Rattle.std.proofs.Common.{◌≡◌, ◌<◌, ◌∷◌, [], ◌++◌, sym, subst, length, List, map, set}
use Rattle.milp.specs.Form.{Entry}
use Rattle.instance.specs.ByColumn.{ColumnEntry, with_entry}
use Rattle.instance.proofs.ByColumn.{changed}
use Rattle.instance.proofs.by_column.EntriesByColumn.push.Goals as goal

pub returns : goal.returns
returns c =
    let P : Entry → Type 0 = λ e. e.column < length c.args.self.now in
    let there = subst P (sym c.entry.view_is) c.requires in
    let x : ColumnEntry = record { row = c.args.row; coefficient = c.entry.inside.coefficient } in
    let Q : Entry → Type 0 = λ e. map (λ list. list.items) (set c.self.inside.lists.items c.entry.inside.column c.push.new.self) ≡ with_entry c.args.row e c.args.self.now in
    subst Q c.entry.view_is (changed (λ list. list.items) (λ (es : List ColumnEntry). es ++ x ∷ []) c.self.inside.lists.items c.args.self.now c.entry.inside.column c.index_mut.result.now c.push.new.self c.self.view_is there c.index_mut.ensures.value c.in_ok-push.ensures.items)
