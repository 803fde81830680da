-- A block of several parameters (GNU MathProg Language Reference, section on the parameter data block: tabbing data format).
use Rattle.std.specs.Prelude.{ℕ, zero, suc, ◌==◌, Bool, true, false, List, [], ◌∷◌, ◌++◌, length, set, slice_get, Option, Some, None, Result, Ok, Err, if◌then◌else◌}
use Rattle.gmpl_token.specs.declared.kind.TokenKind.{TokenKind}
use Rattle.gmpl_token.specs.declared.kind.TokenKind.TheVariants as k
use Rattle.gmpl_value.specs.declared.symbol.Symbol.{Symbol}
use Rattle.gmpl_members.specs.Table.{Table as Members}
use Rattle.gmpl_data.specs.declared.tables.Given.{Given}
use Rattle.gmpl_blocks.specs.declared.fault.DataFaultKind.{DataFaultKind}
use Rattle.gmpl_blocks.specs.declared.fault.DataFaultKind.TheVariants.{Unknown, WrongDimension}
use Rattle.gmpl_blocks.specs.Rules.{Rule, ◌>>=◌, ◌>>◌, pure, refuse, judged, peek, take_token, expect, eat}
use Rattle.gmpl_blocks.specs.Symbols.{Slot}
use Rattle.gmpl_blocks.specs.Parameters.{given_value, given_default, cell, default}
use Rattle.gmpl_blocks.specs.Sets.{given_element}
use Rattle.gmpl_blocks.specs.Slots.{all_stars, tuple, comma}
use Rattle.gmpl_blocks.specs.declared.sets.SetData.{SetData}
use Rattle.gmpl_load.specs.declared.objects.DataObject.{DataObject}
use Rattle.gmpl_load.specs.declared.objects.ParameterPlace.{ParameterPlace}
use Rattle.gmpl_load.specs.declared.objects.SetPlace.{SetPlace}
use Rattle.gmpl_load.specs.declared.tabbing.TabbingBlock.{TabbingBlock}
use Rattle.gmpl_load.specs.Objects.{parameter, parameter_named, set_named}
use Rattle.gmpl_load.specs.Tables.{Tables, change_at, set_data, emptied, with_set_data}

-- ---- what is given to an object

abbrev pub with_values : Given → Result Members DataFaultKind → Result Given DataFaultKind
with_values given (Err kind) = Err kind
with_values given (Ok values) = Ok (record { values = values; overfull = given.overfull; default = given.default })

abbrev pub valued : List Symbol → Symbol → Given → Result Given DataFaultKind
valued member value given = with_values given (given_value member value given.values)

abbrev pub with_default : Given → Result (Option Symbol) DataFaultKind → Result Given DataFaultKind
with_default given (Err kind) = Err kind
with_default given (Ok default) = Ok (record { values = given.values; overfull = given.overfull; default = default })

abbrev pub defaulted : Symbol → Given → Result Given DataFaultKind
defaulted value given = with_default given (given_default value given.default)

-- the default of the block, if it has one, to the parameter at a place
unfoldable pub default_given : Option Symbol → ℕ → Tables → Result Tables DataFaultKind
default_given None place tables = Ok tables
default_given (Some value) place tables = change_at place (defaulted value) tables

-- a value of the block, if there is one, to a member of the parameter at a place
unfoldable pub cell_given : ℕ → List Symbol → Option Symbol → Tables → Result Tables DataFaultKind
cell_given place member None tables = Ok tables
cell_given place member (Some value) tables = change_at place (valued member value) tables

-- ---- the heading

-- all that the block names have one dimension
abbrev pub fits : Option ℕ → ℕ → Bool
fits None dimension = true
fits (Some known) dimension = known == dimension

abbrev pub with_place : TabbingBlock → ParameterPlace → Result Tables DataFaultKind → Result TabbingBlock DataFaultKind
with_place block found (Err kind) = Err kind
with_place block found (Ok tables) = Ok (record {
  set_place = block.set_place;
  elements = block.elements;
  dimension = Some found.subscripts;
  parameters = block.parameters ++ found.place ∷ [];
  default = block.default;
  tables = tables;
  is_behind_item = false;
})

-- one more parameter, which is given the block's default
unfoldable pub with_parameter : TabbingBlock → ParameterPlace → Result TabbingBlock DataFaultKind
with_parameter block found =
    if fits block.dimension found.subscripts then with_place block found (default_given block.default found.place block.tables) else Err WrongDimension

abbrev pub of_set : TabbingBlock → SetPlace → SetData → Tables → TabbingBlock
of_set block found elements tables = record {
  set_place = Some found.place;
  elements = elements;
  dimension = Some found.dimension;
  parameters = block.parameters;
  default = block.default;
  tables = tables;
  is_behind_item = false;
}

abbrev pub set_begun : TabbingBlock → SetPlace → Option Given → Result TabbingBlock DataFaultKind
set_begun block found None = Err Unknown
set_begun block found (Some given) = Ok (of_set block found (set_data given []) (set block.tables found.place (emptied given [])))

-- the set to which the tuples are given, which has no subscripts
unfoldable pub with_set : TabbingBlock → SetPlace → Result TabbingBlock DataFaultKind
with_set block found = if found.subscripts == 0 then set_begun block found (slice_get block.tables found.place) else Err WrongDimension

abbrev pub when_found : {A : Type 0} → (A → Result TabbingBlock DataFaultKind) → Result A DataFaultKind → Result TabbingBlock DataFaultKind
when_found go (Err kind) = Err kind
when_found go (Ok found) = go found

unfoldable pub set_heading : List (List ℕ) → List DataObject → List ℕ → TabbingBlock → Result TabbingBlock DataFaultKind
set_heading names objects name block = when_found (with_set block) (set_named names objects name)

unfoldable pub parameter_heading : List (List ℕ) → List DataObject → TabbingBlock → Rule TabbingBlock
parameter_heading names objects block = do
  found ← parameter names objects
  judged (with_parameter block found)

unfoldable pub named_parameter : List (List ℕ) → List DataObject → List ℕ → TabbingBlock → Result TabbingBlock DataFaultKind
named_parameter names objects name block = when_found (with_parameter block) (parameter_named names objects name)

abbrev pub first_by : List (List ℕ) → List DataObject → List ℕ → TabbingBlock → Bool → Rule TabbingBlock
first_by names objects name block false = judged (named_parameter names objects name block)
first_by names objects name block true = judged (set_heading names objects name block) >>= parameter_heading names objects

abbrev pub first_name : List (List ℕ) → List DataObject → TabbingBlock → Option TokenKind → Rule TabbingBlock
first_name names objects block (Some k.Name) = take_token >>= (λ name. eat k.Colon >>= first_by names objects name block)
first_name names objects block _ = refuse

-- [N ":"] N
unfoldable pub first_heading : List (List ℕ) → List DataObject → TabbingBlock → Rule TabbingBlock
first_heading names objects block = peek >>= first_name names objects block

unfoldable pub next_heading : List (List ℕ) → List DataObject → TabbingBlock → Rule TabbingBlock
next_heading names objects block = eat k.Comma >> parameter_heading names objects block

-- The number bounds the turns; each turn takes a token, so that the count of the tokens left is enough.
unfoldable pub headings_from : List (List ℕ) → List DataObject → ℕ → TabbingBlock → Rule TabbingBlock
headings_from names objects zero block = refuse
headings_from names objects (suc n) block = do
  is_closed ← eat k.Assign
  if is_closed then pure block else (next_heading names objects block >>= headings_from names objects n)

-- { [","] N }* ":="
abbrev pub further_headings : List (List ℕ) → List DataObject → TabbingBlock → Rule TabbingBlock
further_headings names objects block = λ i. headings_from names objects (length i.rest) block i

-- ---- the rows

abbrev pub element_by : Option ℕ → List Symbol → SetData → Result SetData DataFaultKind
element_by None tuple given = Ok given
element_by (Some place) tuple given = given_element tuple given

-- a value of the parameter at a place, `.` for none
unfoldable pub one_cell : ℕ → List Symbol → Tables → Rule Tables
one_cell place member tables = do
  value ← cell
  judged (cell_given place member value tables)

-- a value of each of these parameters
abbrev pub cells : List ℕ → List Symbol → Tables → Rule Tables
cells [] member tables = pure tables
cells (place ∷ places) member tables = one_cell place member tables >>= cells places member

-- a tuple, and behind it the values of all parameters
unfoldable pub row : List Slot → TabbingBlock → Rule TabbingBlock
row slots block = do
  member ← tuple slots
  given ← judged (element_by block.set_place member block.elements)
  more ← cells block.parameters member block.tables
  pure (record {
    set_place = block.set_place;
    elements = given;
    dimension = block.dimension;
    parameters = block.parameters;
    default = block.default;
    tables = more;
    is_behind_item = true;
  })

unfoldable pub separator : TabbingBlock → Rule TabbingBlock
separator block = comma block.is_behind_item >> pure (record {
  set_place = block.set_place;
  elements = block.elements;
  dimension = block.dimension;
  parameters = block.parameters;
  default = block.default;
  tables = block.tables;
  is_behind_item = false;
})

abbrev pub row_by : Option TokenKind → List Slot → TabbingBlock → Rule TabbingBlock
row_by (Some k.Comma) slots block = separator block
row_by (Some k.NumericLiteral) slots block = row slots block
row_by (Some k.Name) slots block = row slots block
row_by (Some k.StringLiteral) slots block = row slots block
row_by _ slots block = refuse

unfoldable pub row_item : List Slot → TabbingBlock → Rule TabbingBlock
row_item slots block = peek >>= (λ kind. row_by kind slots block)

unfoldable pub rows_from : List Slot → ℕ → TabbingBlock → Rule TabbingBlock
rows_from slots zero block = refuse
rows_from slots (suc n) block = do
  is_closed ← eat k.Semicolon
  if is_closed then pure block else (row_item slots block >>= rows_from slots n)

-- { tuple values }* ";"
abbrev pub rows : List Slot → TabbingBlock → Rule TabbingBlock
rows slots block = λ i. rows_from slots (length i.rest) block i

-- ---- the block

abbrev pub known : Option ℕ → ℕ
known None = 0
known (Some dimension) = dimension

abbrev pub with_elements : List Symbol → SetData → Given → Result Given DataFaultKind
with_elements member now given = Ok (with_set_data given member now)

abbrev pub given_by_place : Option ℕ → SetData → Tables → Result Tables DataFaultKind
given_by_place None now tables = Ok tables
given_by_place (Some place) now tables = change_at place (with_elements [] now) tables

-- what the block gives, with the tuples to its set
unfoldable pub all_given : TabbingBlock → Result Tables DataFaultKind
all_given block = given_by_place block.set_place block.elements block.tables

abbrev pub begun : Option Symbol → Tables → TabbingBlock
begun default tables = record {
  set_place = None;
  elements = record { elements = []; is_overfull = false };
  dimension = None;
  parameters = [];
  default = default;
  tables = tables;
  is_behind_item = false;
}

-- ["default" sym] ":" [N ":"] N { [","] N }* ":=" { tuple values }* ";"
unfoldable pub tabbing_statement : List (List ℕ) → List DataObject → Tables → Rule Tables
tabbing_statement names objects tables = do
  value ← default None
  expect k.Colon
  first ← first_heading names objects (begun value tables)
  block ← further_headings names objects first
  all ← rows (all_stars (known block.dimension)) block
  judged (all_given all)
