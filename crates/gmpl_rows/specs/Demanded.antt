-- The members of variables that rows demand.
use Rattle.std.specs.Prelude.{ℕ, ◌+◌, ◌&&◌, ◌≡◌, ◌≤◌, Bool, cond, List, [], ◌∷◌, ◌++◌, zero, suc, nat_le, Result, Ok, Err}
use Rattle.std.specs.List.{list_any, position_or_len}
use Rattle.rational.specs.Compare.{is_zero}
use Rattle.gmpl_value.specs.SymbolEquality.{tuple_eq}
use Rattle.gmpl_value.specs.declared.symbol.Symbol.{Symbol}
use Rattle.gmpl_rows.specs.MemberColumn.{MemberColumn, new_column, with_cell, cells_of, used_of}
use Rattle.gmpl_rows.specs.Follows.{then_do}
use Rattle.gmpl_rows.specs.declared.member_column.Cell.{Cell}
use Rattle.gmpl_rows.specs.declared.term.Bounds.{Bounds}
use Rattle.gmpl_rows.specs.declared.term.Term.{Term}
use Rattle.gmpl_rows.specs.declared.demanded.More.{More}
use Rattle.gmpl_rows.specs.declared.fault.DraftFault.{DraftFault}
use Rattle.gmpl_rows.specs.declared.fault.DraftFault.TheVariants.{TooMany}

-- ---- the members of one variable

-- in the order of their first demand, with the column that each may become
pub record Demanded : Type 0 where
  pub members : List (List Symbol)
  pub columns : List MemberColumn

abbrev pub none_demanded : Demanded
none_demanded = record { members = []; columns = [] }

abbrev pub place_of : List Symbol → Demanded → ℕ
place_of subscripts d = position_or_len (tuple_eq subscripts) d.members

abbrev pub is_demanded : List Symbol → Demanded → Bool
is_demanded subscripts d = list_any (tuple_eq subscripts) d.members

-- a member is demanded: where it is new, it is the last
abbrev pub demand : List Symbol → Bounds → Demanded → Demanded
demand subscripts bounds d =
    cond (is_demanded subscripts d) d (record { members = d.members ++ subscripts ∷ []; columns = d.columns ++ new_column bounds ∷ [] })

-- the element at a place changed by f
abbrev pub changed_at : {X : Type 0} → ℕ → (X → X) → List X → List X
changed_at place f [] = []
changed_at zero f (x ∷ xs) = f x ∷ xs
changed_at (suc place) f (x ∷ xs) = x ∷ changed_at place f xs

-- the member at a place has one more coefficient
abbrev pub give : ℕ → Cell → Demanded → Demanded
give place cell d = record d { columns = changed_at place (with_cell cell) d.columns }

abbrev pub cell_of : ℕ → Term → Cell
cell_of row t = record { row = row; coefficient = t.coefficient }

-- a term of a row: its member is demanded, and its coefficient kept, where it isn't 0
abbrev pub noted_in : ℕ → Term → Demanded → Demanded
noted_in row t d =
    cond (is_zero t.coefficient) (demand t.variable.subscripts t.bounds d)
    (give (place_of t.variable.subscripts d) (cell_of row t) (demand t.variable.subscripts t.bounds d))

-- ---- the members of all variables, statement by statement

abbrev pub all_none : ℕ → List Demanded
all_none zero = []
all_none (suc n) = none_demanded ∷ all_none n

abbrev pub noted : ℕ → Term → List Demanded → List Demanded
noted row t ds = changed_at t.variable.statement (noted_in row t) ds

abbrev pub cell_count : List Demanded → ℕ
cell_count [] = 0
cell_count (d ∷ ds) = cells_of d.columns + cell_count ds

abbrev pub used_count : List Demanded → ℕ
used_count [] = 0
used_count (d ∷ ds) = used_of d.columns + used_count ds

-- at most 2,000,000 entries and 100,000 columns
abbrev pub within_limits : List Demanded → Bool
within_limits ds = nat_le (cell_count ds) 20000000 && nat_le (used_count ds) 1000000

-- TooMany is at the entry or column that would pass a limit
abbrev pub note : ℕ → Term → List Demanded → Result (List Demanded) DraftFault
note row t ds = cond (within_limits (noted row t ds)) (Ok (noted row t ds)) (Err TooMany)

abbrev pub note_all : ℕ → List Term → List Demanded → Result (List Demanded) DraftFault
note_all row [] ds = Ok ds
note_all row (t ∷ ts) ds = then_do (note_all row ts) (note row t ds)

-- ---- counts, for the code

-- of entries and of columns, none above its limit
pub record AreCounted (ds : List Demanded) (entries columns : ℕ) : Type 0 where
  pub entries_are : entries ≡ cell_count ds
  pub columns_are : columns ≡ used_count ds
  pub few_entries : entries ≤ 20000000
  pub few_columns : columns ≤ 1000000

-- how many entries and columns there are more, at most 1
pub record IsMore (more : More) (old new : Demanded) : Type 0 where
  pub entries_are : cells_of new.columns ≡ cells_of old.columns + more.entries
  pub columns_are : used_of new.columns ≡ used_of old.columns + more.columns
  pub one_entry : more.entries ≤ 1
  pub one_column : more.columns ≤ 1
