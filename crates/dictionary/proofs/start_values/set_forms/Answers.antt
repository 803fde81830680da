use Rattle.dictionary.proofs.RowNumbers.{err_from}
use Rattle.dictionary.proofs.StartPoint.{form_read, form_known, form_over, start_more, start_fault}
use Rattle.dictionary.proofs.start_values.set_forms.Goals as goal

pub form_value-requires : goal.form_value-requires
form_value-requires c =
    let known = form_known c.args.system.now c.forms-forms.result.now c.loop-k.k c.forms-forms.ensures c.loop-k-test.true in
    let is = form_read c.args.system.now c.forms-forms.result.now c.loop-k.k c.as_slice.result.now c.index-forms-k.result c.forms-forms.ensures c.loop-k-test.true c.as_slice.ensures c.index-forms-k.is in
    form_over c.args.system.now c.as_slice.result.now c.loop-k.values c.loop-k.k c.columns-columns.ensures.system known is c.loop-k.invariant.0

pub returns-in_err-values-clause-err : goal.returns-in_err-values-clause-err
returns-in_err-values-clause-err c =
    let known = form_known c.args.system.now c.forms-forms.result.now c.loop-k.k c.forms-forms.ensures c.loop-k-test.true in
    let is = form_read c.args.system.now c.forms-forms.result.now c.loop-k.k c.as_slice.result.now c.index-forms-k.result c.forms-forms.ensures c.loop-k-test.true c.as_slice.ensures c.index-forms-k.is in
    err_from c.from_residual.result c.in_err-values.field-0.0 _ c.from_residual.ensures.1
    (start_fault c.args.system.now c.loop-k.values c.columns-columns.result c.loop-k.k c.as_slice.result.now c.in_err-values.field-0.0 c.columns-columns.ensures.system c.columns-columns.ensures.count known is c.loop-k.invariant c.in_err-values.ensures.err)

pub loop-k-preserved : goal.loop-k-preserved
loop-k-preserved c =
    let known = form_known c.args.system.now c.forms-forms.result.now c.loop-k.k c.forms-forms.ensures c.loop-k-test.true in
    let is = form_read c.args.system.now c.forms-forms.result.now c.loop-k.k c.as_slice.result.now c.index-forms-k.result c.forms-forms.ensures c.loop-k-test.true c.as_slice.ensures c.index-forms-k.is in
    start_more c.args.system.now c.loop-k.values c.columns-columns.result c.loop-k.k c.as_slice.result.now c.in_ok-values.field-0 c.columns-columns.ensures.system c.columns-columns.ensures.count known is c.in_ok-values.ensures.ok c.loop-k.invariant
