-- What is kept stays right.
use Rattle.std.proofs.Common.{subst, sym}
use Rattle.gmpl_meaning.specs.Right.{AreRight}
use Rattle.gmpl_meaning.proofs.Keeping.{value_kept}
use Rattle.gmpl_meaning.proofs.kept.Kept.keep.Goals as goal

pub returns : goal.returns
returns c = λ model all right.
    value_kept model c.args.asked c.args.value (record { values = c.self.inside.values.entries; alone = c.self.inside.alone.entries; bounds = c.self.inside.bounds.entries }) c.insert.new.self c.insert.result c.insert.ensures.ok c.insert.ensures.err
    (subst (AreRight model) (sym c.self.view_is) all) right
