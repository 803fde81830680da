use Rattle.std.proofs.Common.{◌≡◌, ◌∙◌, ◌<◌, sym, ap, arith}
use Rattle.verdicts.specs.Certificate.{Item}
use Rattle.cert_check.specs.Sums.{with_products}
use Rattle.cert_check.proofs.ItemOrder.{none_after}
use Rattle.cert_check.proofs.lookup.with_index.Goals as goal

pub returns-then-item-index : goal.returns-then-item-index
returns-then-item-index c =
    let is : c.item.inside.index ≡ c.index-items-k.result.index = ap (λ (i : Item). i.index) c.item.view_is in
    let high : c.args.index < c.index-items-k.result.index = omega (arith, is, c.if-item-index.true) in
    ap (with_products c.loop-k.total) (sym (none_after c.args.items.now c.loop-k.k c.index-items-k.result c.args.index c.args.factor c.requires c.loop-k-test.true c.index-items-k.is high)) ∙ c.loop-k.invariant.left
