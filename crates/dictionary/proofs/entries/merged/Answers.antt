use Rattle.dictionary.proofs.EntrySums.{merge_start, merge_asks, merge_more, merge_end, merge_fault}
use Rattle.dictionary.proofs.RowNumbers.{err_from}
use Rattle.dictionary.proofs.entries.merged.Goals as goal

pub loop-entry-init : goal.loop-entry-init
loop-entry-init c = merge_start c.args.old.now c.args.added.now c.new-entries.result.items c.args.factor c.new-entries.ensures.items c.requires.old c.requires.added

pub add_entry-requires-clause-done : goal.add_entry-requires-clause-done
add_entry-requires-clause-done c =
    (merge_asks c.args.old.now c.args.factor c.args.added.now c.loop-entry.entry-index c.loop-entry.entries.items c.loop-entry.rest.now c.entry-item.result c.loop-entry-test.true c.entry-item.is c.loop-entry.invariant).1

pub returns-in_err-rest-clause-err : goal.returns-in_err-rest-clause-err
returns-in_err-rest-clause-err c =
    err_from c.from_residual.result c.in_err-rest.field-0.0 _ c.from_residual.ensures.1
    (merge_fault c.args.old.now c.args.factor c.args.added.now c.loop-entry.entry-index c.loop-entry.entries.items c.loop-entry.rest.now c.entry-item.result c.in_err-rest.field-0.0 c.loop-entry-test.true c.entry-item.is c.loop-entry.invariant c.in_err-rest.ensures.err)

pub loop-entry-preserved : goal.loop-entry-preserved
loop-entry-preserved c =
    merge_more c.args.old.now c.args.factor c.args.added.now c.loop-entry.entry-index c.loop-entry.entries.items c.loop-entry.rest.now c.add_entry.new.done.items c.in_ok-rest.rest.now c.entry-item.result c.loop-entry-test.true c.entry-item.is c.loop-entry.invariant c.in_ok-rest.ensures.ok

pub returns-clause-ok : goal.returns-clause-ok
returns-clause-ok c =
    merge_end c.args.old.now c.args.factor c.args.added.now c.loop-entry.entry-index c.loop-entry.entries.items c.loop-entry.rest.now c.extend_from_slice.new.self.items c.loop-entry-test.false c.loop-entry.invariant c.in_ok-extend_from_slice.ensures.items
