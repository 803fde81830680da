-- The last row has the entries of the form that was read.
use Rattle.std.proofs.Common.{◌≡◌}
use Rattle.milp.specs.Problem.{Row}
use Rattle.cplex_lp_draft.specs.Declaration.{entries_of}
use Rattle.cplex_lp_draft.proofs.Kept.{filling-keeps}
use Rattle.cplex_lp_draft.proofs.draft.Draft.close_row.Goals as goal

pub invariant_of-self : goal.invariant_of-self
invariant_of-self c =
    let same : c.args.entries.items ≡ entries_of c.self.inside.open_row.form = rw (← c.self.view_is) at c.requires.entries in
    rw c.fill_last.ensures (filling-keeps c.self.inside.objective c.self.inside.open_row.form c.self.inside.rows c.self.inside.columns _ _ (λ (r : Row). same) c.self.invariant)
