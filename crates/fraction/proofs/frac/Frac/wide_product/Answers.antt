use Rattle.std.proofs.Common.{◌≡◌, ◌*◌, ◌/◌}
use Rattle.fraction.proofs.WideLemmas.{product_lowest, product_value}
use Rattle.fraction.proofs.frac.Frac.wide_product.Goals as goal

pub returns-clause-value : goal.returns-clause-value
returns-clause-value c =
    let p = c.sizes-a_negative in
    let q = c.sizes-c_negative in
    let top : c.product.result ≡ p.result.1 / c.gcd-left.result * (q.result.1 / c.gcd-right.result) = cc in
    let low : c.product-2.result ≡ p.result.2 / c.gcd-right.result * (q.result.2 / c.gcd-left.result) = cc in
    product_value c.args.self c.args.other p.result.0 q.result.0 _ _ _ _ _ _ _ _ p.ensures.numerator p.ensures.denominator q.ensures.numerator q.ensures.denominator c.gcd-left.ensures c.gcd-right.ensures top low

pub returns-clause-form : goal.returns-clause-form
returns-clause-form c =
    let p = c.sizes-a_negative in
    let q = c.sizes-c_negative in
    let top : c.product.result ≡ p.result.1 / c.gcd-left.result * (q.result.1 / c.gcd-right.result) = cc in
    let low : c.product-2.result ≡ p.result.2 / c.gcd-right.result * (q.result.2 / c.gcd-left.result) = cc in
    record {
      lowest = product_lowest c.args.self c.args.other p.result.0 q.result.0 _ _ _ _ _ _ _ _ p.ensures.numerator p.ensures.denominator q.ensures.numerator q.ensures.denominator c.gcd-left.ensures c.gcd-right.ensures top low;
      num_small = c.product.ensures.small;
      den_small = c.product-2.ensures.small;
    }
