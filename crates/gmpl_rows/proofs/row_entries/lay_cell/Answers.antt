-- One row changes.
use Rattle.std.proofs.Common.{sym, arith}
use Rattle.gmpl_rows.specs.Laying.{lay}
use Rattle.gmpl_rows.proofs.Places.{set-changed, changed-past}
use Rattle.gmpl_rows.proofs.row_entries.lay_cell.Goals as goal

pub returns-in_ok-lay : goal.returns-in_ok-lay
returns-in_ok-lay c = set-changed (lay c.args.column c.args.cell.coefficient) c.args.rows.now.items c.args.cell.row c.index_mut.result.now c.lay.new.self (omega (arith, c.len.ensures, c.args.rows.now.ok.0)) c.index_mut.ensures.value c.in_ok-lay.ensures

pub returns-else-row-len : goal.returns-else-row-len
returns-else-row-len c = sym (changed-past (lay c.args.column c.args.cell.coefficient) c.args.rows.now.items c.args.cell.row (omega (arith, c.len.ensures, c.args.rows.now.ok.0)))
