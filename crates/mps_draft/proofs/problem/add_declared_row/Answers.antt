-- The form is of the builder's columns.
use Rattle.std.proofs.Common.{length}
use Rattle.instance.proofs.Laws.{entries_within}
use Rattle.mps_draft.proofs.problem.add_declared_row.Goals as goal

pub add_row-requires-clause-form : goal.add_row-requires-clause-form
add_row-requires-clause-form c = rw c.into_entries.ensures.value (entries_within 0 c.args.row.latest (length c.args.builder.now.columns) c.requires.given c.args.row.entries c.into_entries.ensures.form)
