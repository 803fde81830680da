-- What is asked of columns and rows of which an instance is made.
use Rattle.std.specs.Prelude.{ℕ, List, [], IsTrue}
use Rattle.std.specs.List.{list_all}
use Rattle.milp.specs.Problem.{Column, Row}
use Rattle.instance.specs.WellFormed.{are_distinct_columns, are_distinct_rows, are_entries}

-- no column has the name of one before it
abbrev pub AreNewColumns : List Column → Type 0
AreNewColumns cs = IsTrue (are_distinct_columns [] cs)

-- no row has the name of one before it
abbrev pub AreNewRows : List Row → Type 0
AreNewRows rs = IsTrue (are_distinct_rows [] rs)

-- each row's form is over this many columns
abbrev pub AreForms : ℕ → List Row → Type 0
AreForms n rs = IsTrue (list_all (λ (r : Row). are_entries n r.entries) rs)
