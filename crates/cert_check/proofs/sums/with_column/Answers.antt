use Rattle.std.proofs.Common.{◌∙◌, ap}
use Rattle.rational.specs.Rational.{Rational}
use Rattle.cert_check.specs.Sums.{with_products}
use Rattle.cert_check.specs.Lookup.{at_index}
use Rattle.cert_check.proofs.Merge.{units}
use Rattle.cert_check.proofs.sums.with_column.Goals as goal

pub returns : goal.returns
returns c =
    c.with_index.ensures
    ∙ ap (λ (k : Rational). with_products c.args.start (at_index c.args.items.now c.args.column k)) c.one.ensures
    ∙ ap (with_products c.args.start) (units c.args.setting.now c.args.items.now c.args.column)
