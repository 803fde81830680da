-- What holds of each declaration that a reader keeps.
use Rattle.std.specs.Prelude.{ℕ, ◌+◌, nat_le, nat_lt, ◌&&◌, Bool, true, List, [], ◌∷◌, length, Some, None, Result, Ok, IsTrue}
use Rattle.std.specs.declared.option.Option.{Option}
use Rattle.std.specs.List.{All}
use Rattle.rational.specs.Rational.{Rational}
use Rattle.fraction.specs.Answers.{add_answer}
use Rattle.model_text.specs.declared.fault.FileFault.{FileFault}
use Rattle.cplex_lp_draft.specs.Steps.{fitting_at}
use Rattle.milp.specs.Form.{Entry}
use Rattle.milp.specs.Problem.{Column, Row}
use Rattle.instance.specs.WellFormed.{are_entries}

-- ---- forms, as a reader keeps them

-- a column with the sum of its terms
abbrev pub term_of : ℕ × Rational → Entry
term_of t = record { column = t.0; coefficient = t.1 }

-- a number added to the one before it, if there is one
abbrev pub sum_with : ℕ → Option Rational → Rational → Result Rational FileFault
sum_with line None v = Ok v
sum_with line (Some before) v = fitting_at line (add_answer before v)

-- entries in ascending order of column, from `least` on and below `count`, zeros too
abbrev pub are_terms_from : ℕ → ℕ → List Entry → Bool
are_terms_from least count [] = true
are_terms_from least count (e ∷ es) = nat_le least e.column && (nat_lt e.column count && are_terms_from (e.column + 1) count es)

abbrev pub are_terms : ℕ → List Entry → Bool
are_terms count form = are_terms_from 0 count form

-- a row has numbers of so many columns alone
abbrev pub HasForm : ℕ → Row → Type 0
HasForm count r = IsTrue (are_entries count r.entries)

-- forms speak of columns that are there
pub record IsConsistent (objective open_form : List Entry) (rows : List Row) (columns : List Column) : Type 0 where
  pub objective_terms : IsTrue (are_terms (length columns) objective)
  pub open_terms : IsTrue (are_terms (length columns) open_form)
  pub row_forms : All (HasForm (length columns)) rows
