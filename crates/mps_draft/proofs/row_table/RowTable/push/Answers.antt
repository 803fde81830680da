-- One more row with its name.
use Rattle.std.proofs.Common.{◌≡◌, ◌++◌, ◌∷◌, [], rules}
use Rattle.mps_draft.specs.Declaration.{DeclaredRow}
use Rattle.model_text.proofs.Laws.{push-kept}
use Rattle.mps_draft.proofs.Keyed.{new-name}
use Rattle.mps_draft.proofs.row_table.RowTable.push.Goals as goal

pub push-requires : goal.push-requires
push-requires c = record { new = rw c.name.ensures (new-name (λ (r : DeclaredRow). r.name) c.args.row.name c.self.inside.names c.self.inside.rows.items c.self.invariant.0 (rw (← c.self.view_is) at c.requires.new)) }

pub invariant_of-self-2 : goal.invariant_of-self-2
invariant_of-self-2 c =
    let items : c.push-2.new.self.items ≡ c.self.inside.rows.items ++ c.args.row ∷ [] = search rules in
    let k = push-kept (λ (x : DeclaredRow). x.name) c.self.inside.names c.push.new.self c.name.result.now c.self.inside.rows.items c.push-2.new.self.items c.args.row c.self.invariant.0 c.self.invariant.1 (rw c.name.ensures (new-name (λ (r : DeclaredRow). r.name) c.args.row.name c.self.inside.names c.self.inside.rows.items c.self.invariant.0 (rw (← c.self.view_is) at c.requires.new))) c.in_ok-push.ensures.added items c.name.ensures in k
