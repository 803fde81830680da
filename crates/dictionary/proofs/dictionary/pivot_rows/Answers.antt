use Rattle.dictionary.specs.Table.{IsPivotedFault}
use Rattle.dictionary.proofs.RowNumbers.{err_from, handed_on}
use Rattle.dictionary.proofs.TableRows.{line_fault, others_fault, objective_fault}
use Rattle.dictionary.proofs.dictionary.pivot_rows.Goals as goal

pub returns-in_err-solve-clause-err : goal.returns-in_err-solve-clause-err
returns-in_err-solve-clause-err c =
    err_from c.from_residual.result _ _ c.from_residual.ensures.1
    (line_fault c.args.rows.now c.args.gains.now c.replace-solved.result c.index-rows-line.result c.args.line c.args.column c.in_err-solve.field-0.0 c.requires.known c.replace-solved.ensures.value c.in_err-solve.ensures.err)

pub returns-in_err-substitute_all-clause-err : goal.returns-in_err-substitute_all-clause-err
returns-in_err-substitute_all-clause-err c =
    err_from c.from_residual-in_err-substitute_all.result c.in_err-substitute_all.field-0.0 _ c.from_residual-in_err-substitute_all.ensures.1
    (handed_on _ (IsPivotedFault c.args.rows.now c.args.gains.now c.args.line c.args.column) c.in_err-substitute_all.field-0.0
    (λ e. others_fault c.args.rows.now c.args.gains.now c.replace-solved.result c.index-rows-line.result c.replace-solved.new.dest c.solve.new.self c.args.line c.args.column e c.requires.known c.replace-solved.ensures.value c.in_ok-solve.ensures.ok)
    c.in_err-substitute_all.ensures.err)

pub returns-in_err-substitute-clause-err : goal.returns-in_err-substitute-clause-err
returns-in_err-substitute-clause-err c =
    err_from c.from_residual-in_err-substitute.result c.in_err-substitute.field-0.0 _ c.from_residual-in_err-substitute.ensures.1
    (handed_on _ (IsPivotedFault c.args.rows.now c.args.gains.now c.args.line c.args.column) c.in_err-substitute.field-0.0
    (λ e. objective_fault c.args.rows.now c.args.gains.now c.replace-solved.result c.index-rows-line.result c.solve.new.self c.args.line c.args.column e c.requires.known c.replace-solved.ensures.value c.in_ok-solve.ensures.ok)
    c.in_err-substitute.ensures.err)
