use Rattle.std.proofs.Common.{refl, length}
use Rattle.milp.specs.Form.{Entry}
use Rattle.dictionary.proofs.RowNumbers.{err_from}
use Rattle.dictionary.proofs.SumLemmas.{entry_at, entry_below, sum_more, sum_all, sum_fault}
use Rattle.dictionary.proofs.sums.form_value.Goals as goal

pub bounds-x-entry-inside : goal.bounds-x-entry-inside
bounds-x-entry-inside c =
    let e : Entry = record { column = c.entry.inside.column; coefficient = c.entry.inside.coefficient } in
    entry_below (length c.args.x.now) c.args.form.now c.loop-entry.entry-index e c.requires
    (entry_at c.args.form.now c.args.form.now c.loop-entry.entry-index e c.entry-item.result refl c.loop-entry-test.true c.entry-item.is c.entry.view_is)

pub returns-in_err-total-clause-err : goal.returns-in_err-total-clause-err
returns-in_err-total-clause-err c =
    let e : Entry = record { column = c.entry.inside.column; coefficient = c.entry.inside.coefficient } in
    let is = entry_at c.args.form.now c.args.form.now c.loop-entry.entry-index e c.entry-item.result refl c.loop-entry-test.true c.entry-item.is c.entry.view_is in
    err_from c.from_residual.result c.in_err-total.field-0.0 _ c.from_residual.ensures.1
    (sum_fault c.args.form.now c.args.x.now c.loop-entry.entry-index e c.loop-entry.total c.index-x-entry.result c.in_err-total.field-0.0 is c.loop-entry.invariant
    (entry_below (length c.args.x.now) c.args.form.now c.loop-entry.entry-index e c.requires is) c.index-x-entry.is c.in_err-total.ensures.err)

pub loop-entry-preserved : goal.loop-entry-preserved
loop-entry-preserved c =
    let e : Entry = record { column = c.entry.inside.column; coefficient = c.entry.inside.coefficient } in
    let is = entry_at c.args.form.now c.args.form.now c.loop-entry.entry-index e c.entry-item.result refl c.loop-entry-test.true c.entry-item.is c.entry.view_is in
    sum_more c.args.form.now c.args.x.now c.loop-entry.entry-index e c.loop-entry.total c.index-x-entry.result c.in_ok-total.total is c.loop-entry.invariant
    (entry_below (length c.args.x.now) c.args.form.now c.loop-entry.entry-index e c.requires is) c.index-x-entry.is c.in_ok-total.ensures.ok

pub returns-clause-ok : goal.returns-clause-ok
returns-clause-ok c = sum_all c.args.form.now _ c.loop-entry.entry-index c.loop-entry.total c.loop-entry-test.false c.loop-entry.invariant
