-- Entries and their count are as before.
use Rattle.mps_draft.proofs.Kept.{range-keeps}
use Rattle.mps_draft.proofs.draft.Draft.set_range.Goals as goal

pub invariant_of-self : goal.invariant_of-self
invariant_of-self c = (range-keeps c.self.invariant.0 c.args.name.now c.args.range c.set_range.new.self c.set_range.result c.set_range.ensures.set c.set_range.ensures.kept, c.self.invariant.1)
