-- What the block of a set gives to it (GNU MathProg Language Reference, section on the set data block).
use Rattle.std.specs.Prelude.{ℕ, zero, suc, ◌==◌, Bool, true, false, List, [], ◌∷◌, ◌++◌, length, Option, Some, None, Result, Ok, Err, if◌then◌else◌, codes}
use Rattle.gmpl_token.specs.declared.kind.TokenKind.{TokenKind}
use Rattle.gmpl_token.specs.declared.kind.TokenKind.TheVariants as k
use Rattle.gmpl_value.specs.declared.symbol.Symbol.{Symbol}
use Rattle.gmpl_value.specs.declared.fault.SetFault.{SetFault}
use Rattle.gmpl_value.specs.Sets.{Elements, is_member, with_element}
use Rattle.gmpl_blocks.specs.declared.fault.DataFaultKind.{DataFaultKind}
use Rattle.gmpl_blocks.specs.declared.fault.DataFaultKind.TheVariants.{Twice, WrongDimension}
use Rattle.gmpl_blocks.specs.Input.{sees_transposition, wanting}
use Rattle.gmpl_blocks.specs.Rules.{Rule, ◌>>=◌, ◌>>◌, pure, refuse, fault, judged, peek, take_token, expect, eat}
use Rattle.gmpl_blocks.specs.Symbols.{Slot, symbol, next_symbol, word}
use Rattle.gmpl_blocks.specs.declared.block_slots.TableHead.{TableHead}
use Rattle.gmpl_blocks.specs.declared.sets.SetData.{SetData}
use Rattle.gmpl_blocks.specs.declared.sets.SetBlock.{SetBlock}
use Rattle.gmpl_blocks.specs.Slots.{all_stars, stars, tuple, slice, table, placed, comma}

-- ---- elements

-- with one more element, or marked where a set can't have so many
abbrev pub with_more : SetData → Result Elements SetFault → SetData
with_more given (Ok elements) = record { elements = elements; is_overfull = given.is_overfull }
with_more given (Err fault) = record { elements = given.elements; is_overfull = true }

-- an element is given once
abbrev pub given_element : List Symbol → SetData → Result SetData DataFaultKind
given_element tuple given = if is_member given.elements tuple then Err Twice else Ok (with_more given (with_element given.elements tuple))

-- a tuple, which has a slot to fill
unfoldable pub element : List Slot → SetData → Rule SetData
element slots given = if stars slots == 0 then refuse else (tuple slots >>= (λ t. judged (given_element t given)))

-- a slice without `*` is an element itself
unfoldable pub whole_slice : List Slot → SetData → Rule SetData
whole_slice slots given = if stars slots == 0 then (tuple slots >>= (λ t. judged (given_element t given))) else pure given

-- `+` for an element, `-` for none
unfoldable pub mark : Rule Bool
mark = do
  eat k.Comma
  is_element ← word (codes "+")
  if is_element then pure true else (word (codes "-") >>= (λ is_none. if is_none then pure false else refuse))

abbrev pub marked : Bool → List Symbol → SetData → Result SetData DataFaultKind
marked true tuple given = given_element tuple given
marked false tuple given = Ok given

-- a row's marks in these columns
abbrev pub marks : Bool → List Slot → Symbol → List Symbol → SetData → Rule SetData
marks is_transposed slots row [] given = pure given
marks is_transposed slots row (column ∷ columns) given = do
  is_element ← mark
  more ← judged (marked is_element (placed is_transposed slots row column) given)
  marks is_transposed slots row columns more

-- a row of a matrix
unfoldable pub row : TableHead → List Slot → SetData → Rule SetData
row head slots given = next_symbol >>= (λ row. marks head.is_transposed slots row head.columns given)

-- what begins with a symbol: a row where a matrix is in force, else a tuple
abbrev pub elements : Option TableHead → List Slot → SetData → Rule SetData
elements None slots given = element slots given
elements (Some head) slots given = row head slots given

-- ---- the block

-- a slice is in force up to the next one, `(tr)` up to the next slice, and a matrix up to the next slice or `:=`
unfoldable pub assignment : SetBlock → Rule SetBlock
assignment block = expect k.Assign >> pure (record { slots = block.slots; is_transposed = block.is_transposed; table = None; given = block.given; is_behind_item = false })

unfoldable pub separator : SetBlock → Rule SetBlock
separator block = comma block.is_behind_item >> pure (record { slots = block.slots; is_transposed = block.is_transposed; table = block.table; given = block.given; is_behind_item = false })

unfoldable pub slice_item : ℕ → SetBlock → Rule SetBlock
slice_item dimension block = do
  expect k.OpenParenthesis
  slots ← slice k.CloseParenthesis dimension
  more ← whole_slice slots block.given
  pure (record { slots = slots; is_transposed = false; table = None; given = more; is_behind_item = true })

unfoldable pub matrix_item : Bool → SetBlock → Rule SetBlock
matrix_item is_transposed block = do
  expect k.Colon
  head ← table is_transposed block.slots
  pure (record { slots = block.slots; is_transposed = is_transposed; table = Some head; given = block.given; is_behind_item = false })

unfoldable pub transposed_item : SetBlock → Rule SetBlock
transposed_item block = do
  take_token
  take_token
  take_token
  matrix_item true block

-- `(tr)` marks a matrix directly before its colon alone
unfoldable pub parenthesis_item : ℕ → SetBlock → Rule SetBlock
parenthesis_item dimension block = λ i. if sees_transposition i then transposed_item block i else slice_item dimension block i

unfoldable pub elements_item : SetBlock → Rule SetBlock
elements_item block = elements block.table block.slots block.given >>= (λ more. pure (record { slots = block.slots; is_transposed = block.is_transposed; table = block.table; given = more; is_behind_item = true }))

abbrev pub item_by : Option TokenKind → ℕ → SetBlock → Rule SetBlock
item_by (Some k.Assign) dimension block = assignment block
item_by (Some k.Comma) dimension block = separator block
item_by (Some k.Colon) dimension block = matrix_item block.is_transposed block
item_by (Some k.OpenParenthesis) dimension block = parenthesis_item dimension block
item_by (Some k.NumericLiteral) dimension block = elements_item block
item_by (Some k.Name) dimension block = elements_item block
item_by (Some k.StringLiteral) dimension block = elements_item block
item_by _ dimension block = refuse

unfoldable pub item : ℕ → SetBlock → Rule SetBlock
item dimension block = peek >>= (λ kind. item_by kind dimension block)

-- The number bounds the turns; each turn takes a token, so that the count of the tokens left is enough.
unfoldable pub items_from : ℕ → ℕ → SetBlock → Rule SetData
items_from dimension zero block = refuse
items_from dimension (suc n) block = do
  is_closed ← eat k.Semicolon
  if is_closed then pure block.given else (item dimension block >>= (λ more. items_from dimension n more))

-- { ":=" | slice | tuples | matrix }* ";"
abbrev pub items : ℕ → SetBlock → Rule SetData
items dimension block = λ i. items_from dimension (length i.rest) block i

-- the block behind the name and the subscripts, of a set of this dimension, with what blocks before it gave
unfoldable pub set_block : ℕ → SetData → Rule SetData
set_block dimension before = items dimension (record { slots = all_stars dimension; is_transposed = false; table = None; given = before; is_behind_item = false })

-- ---- the subscripts of a member of a set

-- The number bounds the turns; each turn takes a token, so that the count of the tokens left is enough.
unfoldable pub subscripts_from : ℕ → List Symbol → Rule (List Symbol)
subscripts_from zero found = refuse
subscripts_from (suc n) found = do
  is_closed ← eat k.CloseBracket
  if is_closed then pure found else (next_symbol >>= (λ s. subscripts_from n (found ++ s ∷ [])))

abbrev pub further_subscripts : List Symbol → Rule (List Symbol)
further_subscripts found = λ i. subscripts_from (length i.rest) found i

abbrev pub no_subscripts : ℕ → Rule (List Symbol)
no_subscripts zero = pure []
no_subscripts (suc n) = λ i. Err (wanting i)

abbrev pub subscripts_by : ℕ → Bool → Rule (List Symbol)
subscripts_by count false = no_subscripts count
subscripts_by count true = symbol >>= (λ first. further_subscripts (first ∷ []))

abbrev pub counted : ℕ → List Symbol → Rule (List Symbol)
counted count subscripts = if length subscripts == count then pure subscripts else fault WrongDimension

-- ["[" sym { [","] sym }* "]"], as many as the set has subscripts
unfoldable pub subscripts : ℕ → Rule (List Symbol)
subscripts count = do
  is_open ← eat k.OpenBracket
  found ← subscripts_by count is_open
  counted count found
