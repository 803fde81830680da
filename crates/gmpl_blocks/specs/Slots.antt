-- Slices and tables, which sets and parameters share (GNU MathProg Language Reference, chapter on model data: slices, tables).
use Rattle.std.specs.Prelude.{ℕ, zero, suc, ◌==◌, Bool, true, false, List, [], ◌∷◌, ◌++◌, length, Option, Some, None, if◌then◌else◌}
use Rattle.std.specs.List.{count_by}
use Rattle.gmpl_token.specs.declared.kind.TokenKind.{TokenKind}
use Rattle.gmpl_token.specs.declared.kind.TokenKind.TheVariants as k
use Rattle.gmpl_value.specs.declared.symbol.Symbol.{Symbol}
use Rattle.gmpl_blocks.specs.declared.fault.DataFaultKind.TheVariants.{WrongDimension}
use Rattle.gmpl_blocks.specs.Rules.{Rule, ◌>>=◌, ◌>>◌, pure, refuse, fault, peek, take_token}
use Rattle.gmpl_blocks.specs.Symbols.{Slot, next_symbol, begins_symbol, slots, columns}
use Rattle.gmpl_blocks.specs.declared.block_slots.TableHead.{TableHead}

-- ---- slots

-- where no slice is in force, all slots are to be filled
abbrev pub all_stars : ℕ → List Slot
all_stars zero = []
all_stars (suc n) = None ∷ all_stars n

abbrev pub is_star : Slot → Bool
is_star None = true
is_star (Some s) = false

-- how many are to be filled
abbrev pub stars : List Slot → ℕ
stars slots = count_by is_star slots

-- a slot's own symbol, or the next one
abbrev pub slot_symbol : Slot → Rule Symbol
slot_symbol (Some s) = pure s
slot_symbol None = next_symbol

abbrev pub tuple_from : List Slot → List Symbol → Rule (List Symbol)
tuple_from [] found = pure found
tuple_from (slot ∷ slots) found = slot_symbol slot >>= (λ s. tuple_from slots (found ++ s ∷ []))

-- the tuple that the next symbols make in the slots
unfoldable pub tuple : List Slot → Rule (List Symbol)
tuple slots = tuple_from slots []

-- a slice has as many slots as the dimension
abbrev pub sized : ℕ → List Slot → Rule (List Slot)
sized dimension slots = if length slots == dimension then pure slots else fault WrongDimension

unfoldable pub slice : TokenKind → ℕ → Rule (List Slot)
slice close dimension = slots close >>= sized dimension

-- ---- tables

-- the head of a table behind its colon: two slots are to be filled
unfoldable pub table : Bool → List Slot → Rule TableHead
table is_transposed slots =
    if stars slots == 2 then (columns >>= (λ c. pure (record { is_transposed = is_transposed; columns = c }))) else fault WrongDimension

-- the slots with one symbol in the first that is to be filled, and another in those behind it
abbrev pub filled : List Slot → Symbol → Symbol → List Symbol
filled [] first second = []
filled (Some s ∷ slots) first second = s ∷ filled slots first second
filled (None ∷ slots) first second = first ∷ filled slots second second

-- the row's symbol fills the first slot and the column's the second; where the table is transposed, the other way round
abbrev pub placed : Bool → List Slot → Symbol → Symbol → List Symbol
placed false slots row column = filled slots row column
placed true slots row column = filled slots column row

-- ---- commas

-- what may stand behind a comma
abbrev pub begins_item : Option TokenKind → Bool
begins_item (Some k.OpenParenthesis) = true
begins_item (Some k.OpenBracket) = true
begins_item kind = begins_symbol kind

-- a comma stands between two items
unfoldable pub comma : Bool → Rule (Unit {0})
comma false = refuse
comma true = do
  take_token
  kind ← peek
  if begins_item kind then pure tt else refuse
