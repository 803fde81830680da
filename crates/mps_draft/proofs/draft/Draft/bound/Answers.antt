-- As many columns as before, of the same names.
use Rattle.mps_draft.proofs.Bounding.{bounds-keep}
use Rattle.mps_draft.proofs.draft.Draft.bound.Goals as goal

pub invariant_of-self : goal.invariant_of-self
invariant_of-self c = bounds-keep c.self.inside.objective c.self.inside.rows c.self.inside.entry_count _ c.self.inside.columns c.self.invariant c.args.kind c.args.name.now c.args.number c.set_bound.new.columns c.set_bound.result c.set_bound.ensures.follows c.set_bound.ensures.kept
