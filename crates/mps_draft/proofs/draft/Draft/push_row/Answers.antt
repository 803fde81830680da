-- One more row.
use Rattle.mps_draft.proofs.Kept.{push_row-keeps}
use Rattle.mps_draft.proofs.draft.Draft.push_row.Goals as goal

pub invariant_of-self-2 : goal.invariant_of-self-2
invariant_of-self-2 c = (rw (c.in_ok-push.ensures.added, c.new.ensures) (push_row-keeps c.self.invariant.0 (rw (← c.self.view_is) at c.requires.room) c.args.name.now c.args.kind), c.self.invariant.1)
