use Rattle.std.proofs.Common.{◌≡◌, ◌∙◌, length, rules, subst}
use Rattle.std.proofs.lemmas.List.{with_items_is, places}
use Rattle.cert_check.specs.Sums.{weight_products}
use Rattle.cert_check.specs.Totals.{AreTotals}
use Rattle.cert_check.proofs.ColumnTotals.{all_totals}
use Rattle.cert_check.proofs.totals.totals_of.Goals as goal

pub returns-in-Ok : goal.returns-in-Ok
returns-in-Ok c =
    let s = c.args.setting.now in
    let w = c.args.weights.now in
    let new = c.add_weights.new.totals in
    let count : length c.columns-count.result.now ≡ length s.problem.columns = search rules in
    rw (with_items_is c.in_ok-totals.totals new (search (rules, places)))
    (subst (λ n. AreTotals n (weight_products s w) new) count (all_totals (length c.columns-count.result.now) s w c.deref_mut.result.now new (c.deref_mut.ensures.value ∙ c.in_ok-totals.ensures) c.in-Ok.ensures))
