use Rattle.std.proofs.Common.{List, sym, subst}
use Rattle.milp.specs.Form.{Entry}
use Rattle.verdicts.specs.WeightedSums.{AllBelow}
use Rattle.dictionary.proofs.EntryLists.{ascending_right}
use Rattle.dictionary.proofs.EntrySums.{added_read, added_fault_read}
use Rattle.dictionary.proofs.RowNumbers.{err_from}
use Rattle.dictionary.proofs.entries.add_entry.Goals as goal

pub first_from-requires : goal.first_from-requires
first_from-requires c = ascending_right 0 c.args.done.now.items c.args.rest.now c.requires.ascending

pub returns-in_err-number-clause-err : goal.returns-in_err-number-clause-err
returns-in_err-number-clause-err c =
    let x : Entry = record { column = c.entry.inside.column; coefficient = c.entry.inside.coefficient } in
    err_from c.from_residual.result _ _ c.from_residual.ensures.1
    (added_fault_read c.args.done.now.items c.args.rest.now c.split_at.result.0.now c.split_at.result.1.now c.args.factor c.first_coefficient.result x c.args.entry c.in_err-number.field-0.0
    c.entry.view_is (sym c.split_at.ensures.by_index.0) c.requires.ascending c.requires.done (subst (λ (es : List Entry). AllBelow x.column es) (sym c.split_at.ensures.front) c.first_from.ensures.before)
    c.first_coefficient.ensures c.in_err-number.ensures.err)

pub returns-clause-ok : goal.returns-clause-ok
returns-clause-ok c =
    let x : Entry = record { column = c.entry.inside.column; coefficient = c.entry.inside.coefficient } in
    added_read c.args.done.now.items c.args.rest.now c.split_at.result.0.now c.split_at.result.1.now c.behind.result.now c.extend.new.done.items c.args.factor c.in_ok-number.number c.first_coefficient.result x c.args.entry
    c.entry.view_is (sym c.split_at.ensures.by_index.0) c.requires.ascending c.requires.done (subst (λ (es : List Entry). AllBelow x.column es) (sym c.split_at.ensures.front) c.first_from.ensures.before)
    c.first_coefficient.ensures c.in_ok-number.ensures.ok c.behind.ensures.ascending c.behind.ensures.others c.behind.ensures.below c.in_ok-extend.ensures
