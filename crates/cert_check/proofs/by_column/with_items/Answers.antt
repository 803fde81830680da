use Rattle.std.proofs.Common.{◌≡◌, ℕ, Err, Result, List, slice_get, rules}
use Rattle.rational.specs.Rational.{Rational}
use Rattle.fraction.specs.declared.frac.NoFit.{NoFit}
use Rattle.milp.specs.Form.{Entry}
use Rattle.instance.specs.Sums.{form_of}
use Rattle.cert_check.specs.Sums.{item_products, with_products}
use Rattle.cert_check.proofs.Products.{item_ok, item_fault}
use Rattle.cert_check.proofs.by_column.with_items.Goals as goal

pub returns-in_err-total : goal.returns-in_err-total
returns-in_err-total c =
    let form : ℕ → List Entry = λ i. form_of (slice_get c.args.problem.now.rows i) in
    let all : Result Rational NoFit = with_products c.args.start (item_products form c.args.items.now c.args.column) in
    let fault : Err c.in_err-total.field-0.0 ≡ all = item_fault form c.args.items.now c.loop-item.item-index c.item-item.result c.args.column c.loop-item.total _ _ c.loop-item-test.true c.item-item.is c.loop-item.invariant c.in_err-total.ensures in
    search rules

pub loop-item-preserved : goal.loop-item-preserved
loop-item-preserved c =
    let form : ℕ → List Entry = λ i. form_of (slice_get c.args.problem.now.rows i) in
    item_ok form c.args.items.now c.loop-item.item-index c.item-item.result c.args.column c.loop-item.total c.in_ok-total.total _ c.loop-item-test.true c.item-item.is c.loop-item.invariant c.in_ok-total.ensures
