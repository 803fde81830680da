use Rattle.std.proofs.Common.{◌≡◌, ◌<◌, ◌∙◌, ap, get_or, length, subst, sym, take, List, rules}
use Rattle.std.specs.List.{All}
use Rattle.milp.specs.Form.{Entry}
use Rattle.milp.specs.Problem.{Row}
use Rattle.instance.specs.ByColumn.{with_form}
use Rattle.instance.proofs.ByColumn.{row_in_range, row_added}
use Rattle.instance.proofs.by_column.EntriesByColumn.of.Goals as goal

pub add_row-requires : goal.add_row-requires
add_row-requires c =
    let problem = c.args.problem.now in
    let place = c.loop-place.place in
    let row = c.row-item.result in
    let there = subst (λ (rs : List Row). place < length rs) c.rows-row-items.ensures c.loop-place-test.true in
    let is = subst (λ (rs : List Row). row ≡ get_or rs place row) c.rows-row-items.ensures c.row-item.is in
    let entries : c.as_slice.result.now ≡ row.entries = search rules in
    let range = row_in_range place problem.columns problem.rows (take place problem.rows) row c.loop-place.made there is c.keeps_its_limits.ensures.well_formed.row_forms c.loop-place.invariant in
    subst (λ (es : List Entry). All (λ (e : Entry). e.column < length c.loop-place.made) es) (sym entries) range

pub loop-place-preserved : goal.loop-place-preserved
loop-place-preserved c =
    let problem = c.args.problem.now in
    let place = c.loop-place.place in
    let row = c.row-item.result in
    let there = subst (λ (rs : List Row). place < length rs) c.rows-row-items.ensures c.loop-place-test.true in
    let is = subst (λ (rs : List Row). row ≡ get_or rs place row) c.rows-row-items.ensures c.row-item.is in
    let entries : c.as_slice.result.now ≡ row.entries = search rules in
    let added = c.in_ok-add_row.ensures ∙ ap (λ (es : List Entry). with_form place es c.loop-place.made) entries in
    row_added place problem.columns problem.rows row c.loop-place.made c.add_row.new.self there is c.keeps_its_limits.ensures.well_formed.row_forms c.loop-place.invariant added
