-- The row at its name's place.
use Rattle.std.proofs.Common.{sym, rules}
use Rattle.mps_draft.specs.Declaration.{DeclaredRow}
use Rattle.mps_draft.proofs.Keyed.{found, not-found}
use Rattle.mps_draft.proofs.row_table.RowTable.get.Goals as goal

pub returns-in_err-place : goal.returns-in_err-place
returns-in_err-place c = let p = c.in_err-place.was in let e = not-found (λ (r : DeclaredRow). r.name) c.args.name.now c.self.inside.names c.self.inside.rows.items c.self.invariant.0 (search rules) in rw (← c.self.view_is) (search (rules, e))

pub returns : goal.returns
returns c = let p = c.in_ok-place.was in let e = found (λ (r : DeclaredRow). r.name) c.args.name.now c.self.inside.names c.self.inside.rows.items c.self.invariant.0 c.in_ok-place.place c.index.result.now (search rules) c.index.ensures in rw (← c.self.view_is) (sym e)
