-- The form is of the builder's columns.
use Rattle.std.proofs.Common.{length}
use Rattle.cplex_lp_draft.proofs.Terms.{entries-kept}
use Rattle.cplex_lp_draft.proofs.problem.set_objective.Goals as goal

pub objective-requires : goal.objective-requires
objective-requires c = rw (c.from_vec-entries.ensures, c.in_ok-objective_entries.ensures.entries, c.requires) (entries-kept 0 (length c.args.draft.now.columns) c.args.draft.now.objective c.objective_entries.ensures.terms)
