use Rattle.milp.specs.Form.{Entry}
use Rattle.dictionary.proofs.EntryLists.{behind_others}
use Rattle.dictionary.proofs.entries.behind.Goals as goal

pub returns-in-Some-clause-others : goal.returns-in-Some-clause-others
returns-in-Some-clause-others c =
    let x : Entry = record { column = c.entry.inside.column; coefficient = c.entry.inside.coefficient } in
    behind_others c.args.column c.args.form.now c.in-Some.rest.now c.in-Some.entry.now x c.in-Some.ensures.cases.0 c.entry.view_is c.if-entry-column.true
