use Rattle.std.proofs.Common.{◌≢◌, arith}
use Rattle.std.proofs.lemmas.Bool.Decides.{nat_tests}
use Rattle.dictionary.specs.Table.{IsRowsFault}
use Rattle.dictionary.proofs.RowNumbers.{err_from, handed_on}
use Rattle.dictionary.proofs.TableRows.{row_done_read, row_kept, rows_fault_read}
use Rattle.dictionary.proofs.dictionary.substitute_all.Goals as goal
use Rattle.dictionary.proofs.dictionary.substitute_all.Goals.{then-i-line+in_ok-substitute, else-i-line}

pub returns-in_err-substitute-clause-err : goal.returns-in_err-substitute-clause-err
returns-in_err-substitute-clause-err c =
    let other : c.loop-i.i ≢ c.args.line = grind (arith, nat_tests) in
    err_from c.from_residual.result c.in_err-substitute.field-0.0 _ c.from_residual.ensures.1
    (handed_on _ (IsRowsFault c.args.rows.now c.args.solved.now c.args.line c.args.column) c.in_err-substitute.field-0.0
    (λ e. rows_fault_read c.args.rows.now c.loop-i.rows c.args.solved.now c.index-rows-i.result c.args.line c.args.column c.loop-i.i e c.loop-i-test.true c.loop-i.invariant.0 other c.loop-i.invariant.2)
    c.in_err-substitute.ensures.err)

pub loop-i-preserved : goal.loop-i-preserved
loop-i-preserved c = elim c.if-i-line.branch [
  | then-i-line+in_ok-substitute w ↦ rw w.rows-is (row_done_read c.args.rows.now c.loop-i.rows c.args.solved.now w.index-rows-i.result w.substitute.new.self c.args.line c.args.column c.loop-i.i c.loop-i-test.true c.loop-i.invariant.0 c.loop-i.invariant.1 c.loop-i.invariant.2 w.in_ok-substitute.ensures.ok)
  | else-i-line w ↦ rw w.rows-is (c.loop-i.invariant.0, row_kept c.args.rows.now c.loop-i.rows c.args.solved.now c.args.line c.args.column c.loop-i.i (grind (arith, nat_tests)) c.loop-i.invariant.1, λ k l. c.loop-i.invariant.2 k (omega arith))
]
