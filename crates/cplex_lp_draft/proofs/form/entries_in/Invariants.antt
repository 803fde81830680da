-- The entries so far, then those of the rest.
use Rattle.std.proofs.Common.{◌≡◌, ◌++◌, map, vec_items}
use Rattle.cplex_lp_draft.specs.Declaration.{entries_of}
use Rattle.cplex_lp_draft.specs.Consistent.{term_of}
use Rattle.cplex_lp_draft.proofs.form.entries_in.Given as goal

abbrev pub invariant-loop-column : goal.invariant-loop-column
invariant-loop-column l = vec_items l.entries ++ entries_of (map term_of l.column-iterator) ≡ entries_of (map term_of l.sums.entries)
