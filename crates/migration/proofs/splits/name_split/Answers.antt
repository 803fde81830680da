use Rattle.std.proofs.Common.{ℕ, ◌<◌, Option, IfSome, ap, subst}
use Rattle.verdicts.specs.Certificate.{Item}
use Rattle.certificate.specs.Written.{count_max}
use Rattle.migration.proofs.Order.{indices_placed}
use Rattle.migration.proofs.splits.name_split.Goals as goal

pub returns-in-Some-clause-indices : goal.returns-in-Some-clause-indices
returns-in-Some-clause-indices c =
    let P : Option ℕ → Type 0 = λ found. IfSome found (λ index. index < count_max) in
    let index : c.in-Some.index < count_max = subst P c.in-Some.is c.source.ensures.index in
    indices_placed c.insert.result c.on_split.result c.args.named.now.items c.insert.new.named.items c.in-Some.index c.insert.ensures (ap (λ (i : Item). i.index) c.on_split.ensures) index c.requires.indices
