-- What the block of a parameter gives to its members (GNU MathProg Language Reference, section on the parameter data block).
use Rattle.std.specs.Prelude.{ℕ, zero, suc, Bool, true, false, is_some, List, [], ◌∷◌, length, Option, Some, None, Result, Ok, Err, if◌then◌else◌, codes}
use Rattle.gmpl_token.specs.declared.kind.TokenKind.{TokenKind}
use Rattle.gmpl_token.specs.declared.kind.TokenKind.TheVariants as k
use Rattle.gmpl_value.specs.declared.symbol.Symbol.{Symbol}
use Rattle.gmpl_members.specs.declared.value.Value.TheVariants.{Scalar}
use Rattle.gmpl_members.specs.Table.{Table as Members, value_of, with_value}
use Rattle.gmpl_blocks.specs.declared.fault.DataFaultKind.{DataFaultKind}
use Rattle.gmpl_blocks.specs.declared.fault.DataFaultKind.TheVariants.{Twice}
use Rattle.gmpl_blocks.specs.Rules.{Rule, ◌>>=◌, ◌>>◌, pure, refuse, judged, peek, expect, eat}
use Rattle.gmpl_blocks.specs.Symbols.{Slot, symbol, next_symbol, word}
use Rattle.gmpl_blocks.specs.declared.block_slots.TableHead.{TableHead}
use Rattle.gmpl_blocks.specs.declared.parameters.ParameterData.{ParameterData}
use Rattle.gmpl_blocks.specs.declared.parameters.ParameterBlock.{ParameterBlock}
use Rattle.gmpl_blocks.specs.Slots.{all_stars, tuple, slice, table, placed, comma}

-- ---- values

-- a member is given its value once
abbrev pub given_value : List Symbol → Symbol → Members → Result Members DataFaultKind
given_value member value members = if is_some (value_of members member) then Err Twice else Ok (with_value members member (Scalar value))

abbrev pub given_cell : List Symbol → Option Symbol → Members → Result Members DataFaultKind
given_cell member None members = Ok members
given_cell member (Some value) members = given_value member value members

-- a tuple, and behind it the value of the member with these subscripts
unfoldable pub entry : List Slot → Members → Rule Members
entry slots members = do
  member ← tuple slots
  value ← next_symbol
  judged (given_value member value members)

-- a value in a table, or `.` for none
unfoldable pub cell : Rule (Option Symbol)
cell = do
  eat k.Comma
  is_point ← word (codes ".")
  if is_point then pure None else (symbol >>= (λ s. pure (Some s)))

-- a row's values in these columns
abbrev pub cells : Bool → List Slot → Symbol → List Symbol → Members → Rule Members
cells is_transposed slots row [] members = pure members
cells is_transposed slots row (column ∷ columns) members = do
  value ← cell
  more ← judged (given_cell (placed is_transposed slots row column) value members)
  cells is_transposed slots row columns more

-- a row of a table
unfoldable pub row : TableHead → List Slot → Members → Rule Members
row table slots members = next_symbol >>= (λ row. cells table.is_transposed slots row table.columns members)

-- what begins with a symbol: a row where a table is in force, else a tuple with its value
abbrev pub values : Option TableHead → List Slot → Members → Rule Members
values None slots members = entry slots members
values (Some table) slots members = row table slots members

-- ---- the block

-- a slice is in force up to the next one, `(tr)` up to the next slice, and a table up to the next slice or `:=`
unfoldable pub assignment : ParameterBlock → Rule ParameterBlock
assignment block = expect k.Assign >> pure (record { slots = block.slots; is_transposed = block.is_transposed; table = None; values = block.values; is_behind_item = false })

unfoldable pub separator : ParameterBlock → Rule ParameterBlock
separator block = comma block.is_behind_item >> pure (record { slots = block.slots; is_transposed = block.is_transposed; table = block.table; values = block.values; is_behind_item = false })

unfoldable pub slice_item : ℕ → ParameterBlock → Rule ParameterBlock
slice_item dimension block = do
  expect k.OpenBracket
  slots ← slice k.CloseBracket dimension
  pure (record { slots = slots; is_transposed = false; table = None; values = block.values; is_behind_item = true })

unfoldable pub table_item : Bool → ParameterBlock → Rule ParameterBlock
table_item is_transposed block = do
  expect k.Colon
  head ← table is_transposed block.slots
  pure (record { slots = block.slots; is_transposed = is_transposed; table = Some head; values = block.values; is_behind_item = false })

abbrev pub transposition_by : Bool → Rule (Unit {0})
transposition_by true = expect k.CloseParenthesis
transposition_by false = refuse

-- "(" "tr" ")"
unfoldable pub transposition : Rule (Unit {0})
transposition = do
  expect k.OpenParenthesis
  is_mark ← word (codes "tr")
  transposition_by is_mark

unfoldable pub transposed_item : ParameterBlock → Rule ParameterBlock
transposed_item block = transposition >> table_item true block

unfoldable pub values_item : ParameterBlock → Rule ParameterBlock
values_item block = values block.table block.slots block.values >>= (λ more. pure (record { slots = block.slots; is_transposed = block.is_transposed; table = block.table; values = more; is_behind_item = true }))

abbrev pub item_by : Option TokenKind → ℕ → ParameterBlock → Rule ParameterBlock
item_by (Some k.Assign) dimension block = assignment block
item_by (Some k.Comma) dimension block = separator block
item_by (Some k.OpenBracket) dimension block = slice_item dimension block
item_by (Some k.Colon) dimension block = table_item block.is_transposed block
item_by (Some k.OpenParenthesis) dimension block = transposed_item block
item_by (Some k.NumericLiteral) dimension block = values_item block
item_by (Some k.Name) dimension block = values_item block
item_by (Some k.StringLiteral) dimension block = values_item block
item_by _ dimension block = refuse

unfoldable pub item : ℕ → ParameterBlock → Rule ParameterBlock
item dimension block = peek >>= (λ kind. item_by kind dimension block)

-- The number bounds the turns; each turn takes a token, so that the count of the tokens left is enough.
unfoldable pub items_from : ℕ → ℕ → ParameterBlock → Rule Members
items_from dimension zero block = refuse
items_from dimension (suc n) block = do
  is_closed ← eat k.Semicolon
  if is_closed then pure block.values else (item dimension block >>= (λ more. items_from dimension n more))

-- { ":=" | slice | tuples | table }* ";"
abbrev pub items : ℕ → ParameterBlock → Rule Members
items dimension block = λ i. items_from dimension (length i.rest) block i

-- ---- the default

-- a parameter is given its default once
abbrev pub given_default : Symbol → Option Symbol → Result (Option Symbol) DataFaultKind
given_default value (Some before) = Err Twice
given_default value None = Ok (Some value)

-- ["default" sym]
unfoldable pub default : Option Symbol → Rule (Option Symbol)
default before = do
  is_there ← word (codes "default")
  if is_there then (symbol >>= (λ value. judged (given_default value before))) else pure before

-- the block behind the name, of a parameter of this dimension, with what blocks before it gave
unfoldable pub parameter_block : ℕ → ParameterData → Rule ParameterData
parameter_block dimension before = do
  value ← default before.default
  members ← items dimension (record { slots = all_stars dimension; is_transposed = false; table = None; values = before.values; is_behind_item = false })
  pure (record { values = members; default = value })
