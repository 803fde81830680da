-- As many columns as before.
use Rattle.std.proofs.Common.{length, ap, arith}
use Rattle.cplex_lp_draft.specs.Changes.{changed}
use Rattle.cplex_lp_draft.proofs.Changed.{length-changed}
use Rattle.cplex_lp_draft.proofs.Kept.{columns-keep}
use Rattle.cplex_lp_draft.proofs.draft.Draft.change_column.Goals as goal

pub invariant_of-self : goal.invariant_of-self
invariant_of-self c = columns-keep _ _ _ c.self.inside.columns c.change_at.new.columns (omega (arith, ap length c.change_at.ensures, length-changed c.args.column (changed c.args.change) c.self.inside.columns)) c.self.invariant
