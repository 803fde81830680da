-- What is kept stays right.
use Rattle.std.proofs.Common.{subst, sym}
use Rattle.gmpl_meaning.specs.Right.{AreRight, HasBounds}
use Rattle.gmpl_meaning.proofs.Keeping.{bounds_kept}
use Rattle.gmpl_meaning.proofs.kept.Kept.remember_bounds.Goals as goal

pub returns : goal.returns
returns c = λ model all right.
    bounds_kept model c.in_ok-variable.variable c.args.bounds.now (record { values = c.self.inside.values.entries; alone = c.self.inside.alone.entries; bounds = c.self.inside.bounds.entries }) c.insert_bounds.new.self c.insert_bounds.result c.insert_bounds.ensures.ok c.insert_bounds.ensures.err
    (subst (AreRight model) (sym c.self.view_is) all)
    (subst (λ v. HasBounds model (v, c.args.bounds.now)) (sym c.in_ok-variable.ensures) right)
