use Rattle.std.proofs.Common.{◌≡◌, Err, Result, rules}
use Rattle.rational.specs.Rational.{Rational}
use Rattle.fraction.specs.declared.frac.NoFit.{NoFit}
use Rattle.cert_check.specs.Sums.{form_at, item_products, with_products}
use Rattle.cert_check.proofs.Products.{item_ok, item_fault}
use Rattle.cert_check.specs.declared.kind.Kind.TheVariants.{OfDerived}
use Rattle.cert_check.proofs.sums.with_derived.Goals as goal

pub returns-in_err-total : goal.returns-in_err-total
returns-in_err-total c =
    let all : Result Rational NoFit = with_products c.args.start (item_products (form_at c.args.setting.now OfDerived) c.args.items.now c.args.column) in
    let fault : Err c.in_err-total.field-0.0 ≡ all = item_fault (form_at c.args.setting.now OfDerived) c.args.items.now c.loop-item.item-index c.item-item.result c.args.column c.loop-item.total _ _ c.loop-item-test.true c.item-item.is c.loop-item.invariant c.in_err-total.ensures in
    search rules

pub loop-item-preserved : goal.loop-item-preserved
loop-item-preserved c = item_ok (form_at c.args.setting.now OfDerived) c.args.items.now c.loop-item.item-index c.item-item.result c.args.column c.loop-item.total c.in_ok-total.total _ c.loop-item-test.true c.item-item.is c.loop-item.invariant c.in_ok-total.ensures
