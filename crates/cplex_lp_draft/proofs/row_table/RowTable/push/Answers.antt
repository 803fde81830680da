-- One more row with its name.
use Rattle.std.proofs.Common.{◌≡◌, ◌∙◌, ◌+◌, ◌++◌, ◌∷◌, [], length, string_bytes, ap, rules, arith}
use Rattle.std.proofs.lemmas.List.{length-append}
use Rattle.milp.specs.Problem.{Row}
use Rattle.cplex_lp_draft.specs.Rows.{blank_row, entry_count}
use Rattle.instance.proofs.Laws.{entry_count-snoc}
use Rattle.model_text.proofs.Laws.{any-name, push-kept}
use Rattle.cplex_lp_draft.proofs.row_table.RowTable.push.Goals as goal

pub push-requires : goal.push-requires
push-requires c =
    let same : string_bytes c.in_ok-copy.copy ≡ string_bytes c.args.name = search rules in
    record { new = rw same (any-name (λ (r : Row). r.name) (string_bytes c.args.name) c.self.inside.names c.self.inside.rows.items c.self.invariant.index ∙ (rw (← c.self.view_is) at c.requires.new)) }

pub invariant_of-self-2 : goal.invariant_of-self-2
invariant_of-self-2 c =
    let same : string_bytes c.in_ok-copy.copy ≡ string_bytes c.args.name = search rules in
    let items : c.push-2.new.self.items ≡ c.self.inside.rows.items ++ blank_row (string_bytes c.args.name) ∷ [] = search rules in
    let k = push-kept (λ (r : Row). r.name) c.self.inside.names c.push.new.self (string_bytes c.in_ok-copy.copy) c.self.inside.rows.items c.push-2.new.self.items (blank_row (string_bytes c.args.name)) c.self.invariant.index c.self.invariant.new (rw same (any-name (λ (r : Row). r.name) (string_bytes c.args.name) c.self.inside.names c.self.inside.rows.items c.self.invariant.index ∙ (rw (← c.self.view_is) at c.requires.new))) c.in_ok-push.ensures.added items same in
    let count : entry_count c.push-2.new.self.items ≡ entry_count c.self.inside.rows.items + 0 = ap entry_count items ∙ entry_count-snoc c.self.inside.rows.items (blank_row (string_bytes c.args.name)) in
    record {
      index = k.0;
      new = k.1;
      few = omega (arith, ap length items, length-append c.self.inside.rows.items (blank_row (string_bytes c.args.name) ∷ []), rw (← c.self.view_is) at c.requires.room);
      counted = omega (arith, count, c.self.invariant.counted);
      entry_room = omega (arith, count, c.self.invariant.entry_room);
    }
