use Rattle.std.proofs.Common.{◌≡◌, false, rules}
use Rattle.rational.specs.Compare.{is_same}
use Rattle.verdicts.specs.WeightedSums.{coefficient_of}
use Rattle.cert_check.specs.Sums.{weight_products}
use Rattle.cert_check.specs.Parts.{signed_by}
use Rattle.cert_check.proofs.Products.{forms_differ}
use Rattle.cert_check.proofs.forms.is_form_by_column.Goals as goal

pub returns-then-ne : goal.returns-then-ne
returns-then-ne c =
    let test : is_same c.in_ok-sum.sum (signed_by c.args.sign (coefficient_of c.args.wanted.now c.loop-j.j)) ≡ false = search rules in
    search (rules, forms_differ (weight_products c.args.setting.now c.args.weights.now) (λ j. signed_by c.args.sign (coefficient_of c.args.wanted.now j)) c.columns-columns.result.now c.loop-j.j c.index-columns-j.result c.in_ok-sum.sum _ c.loop-j-test.true c.index-columns-j.is c.loop-j.invariant (search rules) test)
