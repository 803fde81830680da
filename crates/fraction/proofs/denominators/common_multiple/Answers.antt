use Rattle.std.proofs.Common.{◌∙◌, ◌/◌, ap}
use Rattle.fraction.proofs.Shares.{share_fault}
use Rattle.fraction.proofs.denominators.common_multiple.Goals as goal

pub returns-in-None-clause-err : goal.returns-in-None-clause-err
returns-in-None-clause-err c =
    share_fault c.args.m c.args.d c.divided.result c.den_product.result c.share.result c.share-in-None.result c.requires.m_some c.requires.d_some (c.divided.ensures ∙ ap (λ g. c.args.d / g) c.gcd.ensures)
    c.den_product.ensures c.in-None.is c.share.ensures c.share-in-None.ensures
