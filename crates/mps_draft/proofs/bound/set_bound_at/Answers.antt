-- A bound keeps its column's name.
use Rattle.mps_draft.proofs.Bounded.{bounded-name}
use Rattle.mps_draft.proofs.bound.set_bound_at.Goals as goal

pub set-requires-in-Ok-clause-name : goal.set-requires-in-Ok-clause-name
set-requires-in-Ok-clause-name c = rw (c.at-column.ensures, c.set.ensures) (bounded-name c.args.kind c.in-Ok.value c.at-column.result)
