-- The weights of one index, and the products of a column's entries with them.
use Rattle.std.specs.Prelude.{ℕ, ◌==◌, List, [], ◌∷◌, ◌++◌, Option, Some, None, if◌then◌else◌}
use Rattle.rational.specs.Rational.{Rational}
use Rattle.milp.specs.Form.{Entry}
use Rattle.instance.specs.declared.by_column.ColumnEntry.{ColumnEntry}
use Rattle.verdicts.specs.Certificate.{Item}
use Rattle.cert_check.specs.Sums.{Product}

-- the weights of an index, each times a factor
abbrev pub at_index : List Item → ℕ → Rational → List Product
at_index [] index factor = []
at_index (i ∷ is) index factor = if i.index == index then record { weight = i.weight; factor = factor } ∷ at_index is index factor else at_index is index factor

-- for each entry of a column, the weights of its row times its coefficient
abbrev pub at_entries : List ColumnEntry → List Item → List Product
at_entries [] items = []
at_entries (e ∷ es) items = at_index items e.row e.coefficient ++ at_entries es items

-- the coefficient of a column's first entry in a form
abbrev pub entry_at : List Entry → ℕ → Option Rational
entry_at [] j = None
entry_at (e ∷ es) j = if e.column == j then Some e.coefficient else entry_at es j
