-- One more column with its name.
use Rattle.std.proofs.Common.{◌≡◌, ◌∙◌, ◌++◌, ◌∷◌, [], length, ap, arith, rules}
use Rattle.std.proofs.lemmas.List.{length-append}
use Rattle.milp.specs.Problem.{Column}
use Rattle.model_text.proofs.Laws.{push-kept, any-name}
use Rattle.model_text.proofs.column_table.ColumnTable.push.Goals as goal

pub push-requires : goal.push-requires
push-requires c = record { new = rw c.name.ensures (any-name (λ (x : Column). x.name) c.args.column.name c.self.inside.names c.self.inside.columns.items c.self.invariant.0 ∙ (rw (← c.self.view_is) at c.requires.new)) }

pub invariant_of-self-2 : goal.invariant_of-self-2
invariant_of-self-2 c =
    let items : c.push-2.new.self.items ≡ c.self.inside.columns.items ++ c.args.column ∷ [] = search rules in
    let k = push-kept (λ (x : Column). x.name) c.self.inside.names c.push.new.self c.name.result.now c.self.inside.columns.items c.push-2.new.self.items c.args.column c.self.invariant.0 c.self.invariant.1 (rw c.name.ensures (any-name (λ (x : Column). x.name) c.args.column.name c.self.inside.names c.self.inside.columns.items c.self.invariant.0 ∙ (rw (← c.self.view_is) at c.requires.new))) c.in_ok-push.ensures.added items c.name.ensures in (k.0, k.1, omega (arith, ap length items, length-append c.self.inside.columns.items (c.args.column ∷ []), rw (← c.self.view_is) at c.requires.room))
