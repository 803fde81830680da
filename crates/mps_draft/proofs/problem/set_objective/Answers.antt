-- The form is of the builder's columns.
use Rattle.std.proofs.Common.{length}
use Rattle.instance.proofs.Laws.{entries_within}
use Rattle.mps_draft.proofs.problem.set_objective.Goals as goal

pub objective-requires : goal.objective-requires
objective-requires c = rw (c.from_vec-entries.ensures, c.into_entries.ensures.value) (entries_within 0 c.args.objective.latest (length c.args.builder.now.columns) c.requires c.args.objective.entries c.into_entries.ensures.form)
