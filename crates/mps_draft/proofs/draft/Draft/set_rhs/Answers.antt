-- Entries and their count are as before.
use Rattle.mps_draft.proofs.Kept.{rhs-keeps}
use Rattle.mps_draft.proofs.draft.Draft.set_rhs.Goals as goal

pub invariant_of-self-2 : goal.invariant_of-self-2
invariant_of-self-2 c = (rhs-keeps c.self.invariant.0 c.args.name.now c.args.number c.set_rhs.new.self _ c.set_rhs.result c.set_rhs.ensures.follows c.set_rhs.ensures.kept, c.self.invariant.1)
