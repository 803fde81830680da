-- Rows, and the one that is being read.
use Rattle.std.specs.Prelude.{ℕ, ◌+◌, Bool, List, [], ◌∷◌, length, Some, None}
use Rattle.std.specs.List.{list_any}
use Rattle.std.specs.Str.{bytes_eq}
use Rattle.rational.specs.Rational.{Rational}
use Rattle.milp.specs.Problem.{Row}
use Rattle.cplex_lp_tokens.specs.declared.token.Relation.{Relation}
use Rattle.cplex_lp_tokens.specs.declared.token.Relation.TheVariants.{AtMost, AtLeast, Exactly}
use Rattle.cplex_lp_draft.specs.declared.expecting.Sign.TheVariants.{Unsigned}
use Rattle.cplex_lp_draft.specs.declared.expecting.TermPart.TheVariants.{Begun}
use Rattle.cplex_lp_draft.specs.declared.expecting.Expecting.TheVariants.{RowTerms}
use Rattle.cplex_lp_draft.specs.Declaration.{OpenRow, Declaration, entries_of}

abbrev pub is_row : List ℕ → List Row → Bool
is_row name rows = list_any (λ (r : Row). bytes_eq r.name name) rows

-- a row of which the name alone is read
abbrev pub blank_row : List ℕ → Row
blank_row name = record { name = name; lower = None; upper = None; entries = [] }

-- ---- the numbers on its sides

-- the number v is on the row's left, before a relation
abbrev pub left_set : Relation → Rational → OpenRow → OpenRow
left_set AtMost v row = record row { left = Some AtMost; lower = Some v }
left_set AtLeast v row = record row { left = Some AtLeast; upper = Some v }
left_set Exactly v row = row

abbrev pub with_left : Declaration → Rational → Relation → Declaration
with_left d v relation = record d { open_row = left_set relation v d.open_row; expecting = RowTerms (Begun Unsigned) }

-- the number v is on the row's right, after a relation
abbrev pub right_set : Relation → Rational → OpenRow → OpenRow
right_set AtMost v row = record row { upper = Some v }
right_set AtLeast v row = record row { lower = Some v }
right_set Exactly v row = record row { lower = Some v; upper = Some v }

abbrev pub with_right : Declaration → Rational → Relation → Declaration
with_right d v relation = record d { open_row = right_set relation v d.open_row }

-- ---- a row that is read to its end

-- a row with what is read of it
abbrev pub filled : OpenRow → Row → Row
filled row r = record r { lower = row.lower; upper = row.upper; entries = entries_of row.form }

abbrev pub entry_count : List Row → ℕ
entry_count [] = 0
entry_count (r ∷ rs) = length r.entries + entry_count rs
