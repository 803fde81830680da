-- What is kept stays right.
use Rattle.std.proofs.Common.{subst, sym}
use Rattle.gmpl_meaning.specs.Right.{AreRight}
use Rattle.gmpl_meaning.proofs.Keeping.{alone_kept}
use Rattle.gmpl_meaning.proofs.kept.Kept.keep_alone.Goals as goal

pub returns : goal.returns
returns c = λ model all right.
    alone_kept model c.args.place c.args.alone (record { values = c.self.inside.values.entries; alone = c.self.inside.alone.entries; bounds = c.self.inside.bounds.entries }) c.insert_alone.new.self c.insert_alone.result c.insert_alone.ensures.ok c.insert_alone.ensures.err
    (subst (AreRight model) (sym c.self.view_is) all) right
