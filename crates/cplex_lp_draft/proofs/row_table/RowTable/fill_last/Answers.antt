-- The last row in its place, filled.
use Rattle.std.proofs.Common.{◌≡◌, ◌∙◌, ◌-◌, ◌<◌, length, get_or, sym, ap, rules, arith}
use Rattle.std.proofs.Math.ListN.{length-set}
use Rattle.milp.specs.Problem.{Row}
use Rattle.model_text.proofs.Laws.{same-names}
use Rattle.cplex_lp_draft.proofs.Changed.{changed-at, count-set, count-least}
use Rattle.cplex_lp_draft.proofs.row_table.RowTable.fill_last.Goals as goal

pub overflow_sub-self : goal.overflow_sub-self
overflow_sub-self c =
    let within : c.len-rows.result - 1 < length c.self.inside.rows.items = search rules in
    let same : c.index_mut-row.result.now ≡ get_or c.self.inside.rows.items (c.len-rows.result - 1) c.index_mut-row.result.now = c.index_mut-row.ensures.value in
    let before : length c.entries-before.result.now ≡ length (get_or c.self.inside.rows.items (c.len-rows.result - 1) c.index_mut-row.result.now).entries = ap length (c.entries-before.ensures ∙ ap (λ (r : Row). r.entries) same) in
    omega (arith, before, count-least c.self.inside.rows.items (c.len-rows.result - 1) c.index_mut-row.result.now within, c.self.invariant.counted)

pub invariant_of-self : goal.invariant_of-self
invariant_of-self c =
    let within : c.len-rows.result - 1 < length c.self.inside.rows.items = search rules in
    let same : c.index_mut-row.result.now ≡ get_or c.self.inside.rows.items (c.len-rows.result - 1) c.index_mut-row.result.now = c.index_mut-row.ensures.value in
    let before : length c.entries-before.result.now ≡ length (get_or c.self.inside.rows.items (c.len-rows.result - 1) c.index_mut-row.result.now).entries = ap length (c.entries-before.ensures ∙ ap (λ (r : Row). r.entries) same) in
    let after : length c.fill.new.self.entries ≡ length c.args.entries.items = ap (λ (r : Row). length r.entries) c.fill.ensures in
    let count : c.len-count.result ≡ length c.args.entries.items = search rules in
    let sum = count-set c.self.inside.rows.items (c.len-rows.result - 1) c.fill.new.self c.index_mut-row.result.now within in
    let least = count-least c.self.inside.rows.items (c.len-rows.result - 1) c.index_mut-row.result.now within in
    record {
      index = same-names (λ (r : Row). r.name) c.self.inside.names c.self.inside.rows.items c.self.invariant.index (c.len-rows.result - 1) c.index_mut-row.result.now c.fill.new.self same (ap (λ (r : Row). r.name) c.fill.ensures);
      new = c.self.invariant.new;
      few = omega (arith, length-set c.self.inside.rows.items (c.len-rows.result - 1) c.fill.new.self, c.self.invariant.few);
      counted = omega (arith, before, after, count, sum, least, c.self.invariant.counted);
      entry_room = omega (arith, before, after, count, sum, least, rw (← c.self.view_is) at c.requires);
    }

pub returns-then-rows-gt0 : goal.returns-then-rows-gt0
returns-then-rows-gt0 c =
    let at : c.len-rows.result ≡ length c.self.inside.rows.items = search rules in
    let within : length c.self.inside.rows.items - 1 < length c.self.inside.rows.items = search rules in
    let same : c.index_mut-row.result.now ≡ get_or c.self.inside.rows.items (length c.self.inside.rows.items - 1) c.index_mut-row.result.now = rw at at c.index_mut-row.ensures.value in
    rw (← c.self.view_is, c.fill.ensures, at) (sym (changed-at (length c.self.inside.rows.items - 1) (λ (r : Row). record r { lower = c.args.lower; upper = c.args.upper; entries = c.args.entries.items }) c.self.inside.rows.items c.index_mut-row.result.now within same))
