-- The row at its name's place, changed.
use Rattle.std.proofs.Common.{sym}
use Rattle.mps_draft.specs.Declaration.{DeclaredRow}
use Rattle.mps_draft.specs.Rows.{rhs_added}
use Rattle.mps_draft.specs.RowNumbers.{rhs_value}
use Rattle.model_text.proofs.Laws.{same-names}
use Rattle.mps_draft.proofs.Taking.{row-follows, row-unknown}
use Rattle.mps_draft.proofs.row_table.RowTable.set_rhs.Goals as goal

pub invariant_of-self : goal.invariant_of-self
invariant_of-self c = (same-names (λ (r : DeclaredRow). r.name) c.self.inside.names c.self.inside.rows.items c.self.invariant.0 c.in-Some.place c.index_mut-row.result.now c.add_rhs.new.self c.index_mut-row.ensures.value c.add_rhs.ensures.name, c.self.invariant.1)

pub returns-in-Some-clause-follows : goal.returns-in-Some-clause-follows
returns-in-Some-clause-follows c = rw (← c.self.view_is) (row-follows (rhs_value c.args.number) rhs_added c.args.name.now c.self.inside.names c.self.inside.rows.items c.self.invariant.0 c.in-Some.place c.index_mut-row.result.now c.add_rhs.new.self (sym c.in-Some.ensures) c.index_mut-row.ensures.value c.add_rhs.result c.add_rhs.ensures.follows)

pub returns-in-None-clause-follows : goal.returns-in-None-clause-follows
returns-in-None-clause-follows c = rw (← c.self.view_is) (row-unknown (rhs_value c.args.number) rhs_added c.args.name.now c.self.inside.names c.self.inside.rows.items c.self.invariant.0 (sym c.in-None.ensures))
