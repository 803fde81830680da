use Rattle.row_columns.proofs.RowLemmas.{AreFirstForms}
use Rattle.row_columns.proofs.row_forms.row_forms.Given as goal

abbrev pub invariant-loop-row : goal.invariant-loop-row
invariant-loop-row l = AreFirstForms l.problem l.rows l.row-index l.forms
