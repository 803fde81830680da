-- The row at its name's place, changed.
use Rattle.std.proofs.Common.{sym}
use Rattle.mps_draft.specs.Declaration.{DeclaredRow}
use Rattle.mps_draft.specs.Rows.{range_added}
use Rattle.model_text.proofs.Laws.{same-names}
use Rattle.mps_draft.proofs.Keyed.{changed, not-changed}
use Rattle.mps_draft.proofs.Taking.{on-ok}
use Rattle.mps_draft.proofs.row_table.RowTable.set_range.Goals as goal

pub invariant_of-self : goal.invariant_of-self
invariant_of-self c = (same-names (λ (r : DeclaredRow). r.name) c.self.inside.names c.self.inside.rows.items c.self.invariant.0 c.in-Some.place c.index_mut-row.result.now c.set_range.new.self c.index_mut-row.ensures.value c.set_range.ensures.name, c.self.invariant.1)

pub returns-in-Some-clause-set : goal.returns-in-Some-clause-set
returns-in-Some-clause-set c = on-ok (λ e. rw (← c.self.view_is, e) (sym (changed (λ (r : DeclaredRow). r.name) c.args.name.now c.self.inside.names c.self.inside.rows.items c.self.invariant.0 (range_added c.args.range) c.in-Some.place c.index_mut-row.result.now (sym c.in-Some.ensures) c.index_mut-row.ensures.value))) c.set_range.result c.set_range.ensures.set

pub returns-in-None-clause-set : goal.returns-in-None-clause-set
returns-in-None-clause-set c = rw (← c.self.view_is) (sym (not-changed (λ (r : DeclaredRow). r.name) c.args.name.now c.self.inside.names c.self.inside.rows.items c.self.invariant.0 (range_added c.args.range) (sym c.in-None.ensures)))
