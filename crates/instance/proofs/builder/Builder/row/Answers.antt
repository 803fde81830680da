use Rattle.std.proofs.Common.{◌≡◌, ◌∙◌, ◌++◌, ◌∷◌, [], ap, length, List, false, true, arith, rules}
use Rattle.milp.specs.Problem.{Row}
use Rattle.instance.specs.WellFormed.{has_row, are_entries, entry_count}
use Rattle.instance.proofs.Longer.{with_row, length-snoc, entry_count-snoc}
use Rattle.instance.proofs.builder.Builder.row.Goals as goal

pub invariant_of-self-2 : goal.invariant_of-self-2
invariant_of-self-2 c =
    let columns = c.self.inside.columns.items in
    let rows = c.self.inside.rows.items in
    let new : has_row c.args.row.name rows ≡ false = search rules in
    let form : are_entries (length columns) c.args.row.entries ≡ true = search rules in
    let items : c.push_reserved.new.self.items ≡ rows ++ c.args.row ∷ [] = c.push_reserved.ensures.items ∙ ap (λ (rs : List Row). rs ++ c.args.row ∷ []) c.reserve.ensures.items in
    let more : c.as_slice-more.result.now ≡ c.args.row.entries = search rules in
    let snoc = entry_count-snoc rows c.args.row in
    let there = ap entry_count items in
    let size : length c.as_slice-more.result.now ≡ length c.args.row.entries = ap length more in
    let count = ap (λ (rs : List Row). length rs) items ∙ length-snoc rows c.args.row in
    record {
      limits = record { columns = c.self.invariant.limits.columns; rows = omega (arith, count, c.self.invariant.limits.rows) };
      well_formed = with_row columns rows _ c.self.inside.objective c.args.row c.self.invariant.well_formed new form items;
      count = omega (arith, snoc, there, size, c.self.invariant.count);
    }
