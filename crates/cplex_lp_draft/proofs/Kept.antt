-- What a reader keeps of its declaration stays true.
use Rattle.std.proofs.Common.{◌≡◌, ℕ, ◌≤◌, List, length}
use Rattle.std.proofs.lemmas.List.Elements.{All-weaker}
use Rattle.milp.specs.Form.{Entry}
use Rattle.milp.specs.Problem.{Row, Column}
use Rattle.instance.proofs.Laws.{entries_within}
use Rattle.cplex_lp_draft.specs.Declaration.{with_changed, entries_of}
use Rattle.cplex_lp_draft.specs.Consistent.{HasForm, IsConsistent}
use Rattle.cplex_lp_draft.proofs.Terms.{terms-within, entries-kept}
use Rattle.cplex_lp_draft.proofs.Changed.{All-changed}

-- columns, of which there are no fewer
pub columns-keep : (objective open_form : List Entry) (rows : List Row) (columns more : List Column) → length columns ≤ length more → IsConsistent objective open_form rows columns → IsConsistent objective open_form rows more
columns-keep objective open_form rows columns more h k = record {
  objective_terms = terms-within 0 (length columns) (length more) h objective k.objective_terms;
  open_terms = terms-within 0 (length columns) (length more) h open_form k.open_terms;
  row_forms = All-weaker (HasForm (length columns)) (HasForm (length more)) (λ r f. entries_within 0 (length columns) (length more) h r.entries f) rows k.row_forms;
}

-- a row filled with the entries of the form that is read
pub filling-keeps : (objective open_form : List Entry) (rows : List Row) (columns : List Column) (place : ℕ) (f : Row → Row) → ((r : Row) → (f r).entries ≡ entries_of open_form) → IsConsistent objective open_form rows columns → IsConsistent objective open_form (with_changed place f rows) columns
filling-keeps objective open_form rows columns place f same k = record {
  objective_terms = k.objective_terms;
  open_terms = k.open_terms;
  row_forms = All-changed (HasForm (length columns)) place f (λ r _. rw (same r) (entries-kept 0 (length columns) open_form k.open_terms)) rows k.row_forms;
}
