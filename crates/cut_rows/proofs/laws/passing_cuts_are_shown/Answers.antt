use Rattle.cut_rows.proofs.ShownCuts.{passing_are_shown, shown_are_over}
use Rattle.cut_rows.proofs.laws.passing_cuts_are_shown.Goals as goal

pub returns-clause-shown : goal.returns-clause-shown
returns-clause-shown c = passing_are_shown

pub returns-clause-over_columns : goal.returns-clause-over_columns
returns-clause-over_columns c = shown_are_over
