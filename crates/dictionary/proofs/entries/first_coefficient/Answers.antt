use Rattle.std.proofs.Common.{◌≡◌, ◌∙◌, ap}
use Rattle.std.specs.Option.{option_copied}
use Rattle.rational.specs.Rational.{zero_ℚ}
use Rattle.milp.specs.Form.{Entry}
use Rattle.verdicts.specs.WeightedSums.{coefficient_of}
use Rattle.dictionary.proofs.EntryLists.{first_found, first_other, first_none}
use Rattle.dictionary.proofs.entries.first_coefficient.Goals as goal
use Rattle.dictionary.proofs.entries.first_coefficient.Goals.{in_default-via-in-Some+else-entry-column, in_default-via-in_default}

pub returns-in-Some : goal.returns-in-Some
returns-in-Some c =
    let x : Entry = record { column = c.entry.inside.column; coefficient = c.entry.inside.coefficient } in
    first_found c.args.column c.args.form.now c.in-Some.entry.now x c.requires c.in-Some.ensures.value c.entry.view_is c.if-entry-column.true

pub returns-in_default : goal.returns-in_default
returns-in_default c =
    let none : zero_ℚ ≡ coefficient_of c.args.form.now c.args.column =
    elim c.in_default.branch [
      | in_default-via-in-Some+else-entry-column w ↦ first_other c.args.column c.args.form.now w.in-Some.entry.now (record { column = w.entry.inside.column; coefficient = w.entry.inside.coefficient }) c.requires w.in-Some.ensures.value w.entry.view_is w.if-entry-column.false
      | in_default-via-in_default w ↦ first_none c.args.column c.args.form.now (option_copied c.first.result) (ap option_copied w.in_default.is) c.first.ensures.value
    ] in
    c.zero.ensures ∙ none
