use Rattle.dictionary.proofs.RowNumbers.{err_from}
use Rattle.dictionary.proofs.SparseRows.{partly_ascending, partly_below, one_solved, not_solved}
use Rattle.dictionary.proofs.row.solve.Goals as goal

pub returns-in_err-entries-clause-err : goal.returns-in_err-entries-clause-err
returns-in_err-entries-clause-err c = λ ascending is width below.
    (err_from c.from_residual.result _ _ c.from_residual.ensures.1
    (not_solved c.args.entries.now c.loop-i.entries c.loop-i.i c.args.at c.args.divisor c.loop-i.invariant width c.index-entries-i.result c.in_err-entries.field-0.0 ascending is below c.loop-i-test.true c.index-entries-i.is c.in_err-entries.ensures.err))

pub returns-in_err-entries-clause-columns : goal.returns-in_err-entries-clause-columns
returns-in_err-entries-clause-columns c = partly_ascending c.args.entries.now c.loop-i.entries c.loop-i.i c.args.at c.args.divisor c.loop-i.invariant

pub returns-in_err-entries-clause-below : goal.returns-in_err-entries-clause-below
returns-in_err-entries-clause-below c = partly_below c.args.entries.now c.loop-i.entries c.loop-i.i c.args.at c.args.divisor c.loop-i.invariant

pub loop-i-preserved : goal.loop-i-preserved
loop-i-preserved c =
    one_solved c.args.entries.now c.loop-i.entries c.loop-i.i c.args.at c.args.divisor c.loop-i.invariant c.index-entries-i.result c.in_ok-entries.field-0 c.loop-i-test.true c.index-entries-i.is c.in_ok-entries.ensures.ok

pub returns-clause-columns : goal.returns-clause-columns
returns-clause-columns c = partly_ascending c.args.entries.now c.loop-i.entries c.loop-i.i c.args.at c.args.divisor c.loop-i.invariant

pub returns-clause-below : goal.returns-clause-below
returns-clause-below c = partly_below c.args.entries.now c.loop-i.entries c.loop-i.i c.args.at c.args.divisor c.loop-i.invariant
