-- What the blocks of all texts give, or the first bad block (GNU MathProg Language Reference, chapter on model data).
use Rattle.std.specs.Prelude.{◌≡◌, ℕ, zero, suc, ◌+◌, ◌==◌, ◌&&◌, ◌||◌, Bool, List, [], ◌∷◌, length, Option, Some, None, Result, Ok, Err, if◌then◌else◌, codes}
use Rattle.gmpl_token.specs.declared.kind.TokenKind.TheVariants as k
use Rattle.gmpl_token.specs.declared.token.LexFault.{LexFault}
use Rattle.gmpl_token.specs.declared.token.LexFaultKind.{LexFaultKind}
use Rattle.gmpl_token.specs.declared.token.LexFaultKind.TheVariants as l
use Rattle.gmpl_token.specs.Token.{Tokens as TokenList}
use Rattle.gmpl_blocks.specs.declared.fault.DataFaultKind.{DataFaultKind}
use Rattle.gmpl_blocks.specs.declared.fault.DataFaultKind.TheVariants as f
use Rattle.gmpl_blocks.specs.declared.fault.DataFault.{DataFault}
use Rattle.gmpl_blocks.specs.Input.{Input, kind, next, sees, line}
use Rattle.gmpl_blocks.specs.Rules.{Rule, Outcome, ◌>>=◌, pure, refuse, expect}
use Rattle.gmpl_blocks.specs.Symbols.{word, is_word, begins_symbol}
use Rattle.gmpl_load.specs.declared.objects.DataObject.{DataObject}
use Rattle.gmpl_load.specs.declared.texts.DataSource.{DataSource}
use Rattle.gmpl_load.specs.declared.texts.DataSource.TheVariants.{Files, Section}
use Rattle.gmpl_load.specs.declared.texts.Loaded.{Loaded}
use Rattle.gmpl_load.specs.declared.texts.LoadError.{LoadError}
use Rattle.gmpl_load.specs.declared.texts.LoadError.TheVariants.{Fault, NoMemory}
use Rattle.gmpl_load.specs.Tables.{Tables, nothing_for}
use Rattle.gmpl_load.specs.Statements.{parameter_statement, set_statement}
use Rattle.gmpl_load.specs.Tabbing.{tabbing_statement}

-- ---- a block

-- a colon, or a default behind which comes no more than its symbol, begins a block of several parameters
unfoldable pub begins_tabbing : Input → Bool
begins_tabbing i = sees k.Colon i || (is_word (codes "default") i && begins_symbol (kind (next i)))

unfoldable pub parameters : List (List ℕ) → List DataObject → Tables → Rule Tables
parameters names objects tables = λ i. if begins_tabbing i then tabbing_statement names objects tables i else parameter_statement names objects tables i

unfoldable pub parameters_or_none : List (List ℕ) → List DataObject → Tables → Rule Tables
parameters_or_none names objects tables = do
  is_parameter ← word (codes "param")
  if is_parameter then parameters names objects tables else refuse

unfoldable pub block : List (List ℕ) → List DataObject → Tables → Rule Tables
block names objects tables = do
  is_set ← word (codes "set")
  if is_set then set_statement names objects tables else parameters_or_none names objects tables

-- ---- blocks with their numbers, and lines

-- the fault of the block behind so many, whose first token stands in this line
abbrev pub located : ℕ → ℕ → DataFaultKind → DataFault
located blocks line kind = record { block = blocks + 1; line = line; kind = kind }

abbrev pub kind_of : LexFaultKind → DataFaultKind
kind_of l.BadByte = f.BadByte
kind_of l.UnendedString = f.UnendedString
kind_of l.UnendedComment = f.UnendedComment
kind_of l.TooWide = f.TooWide

-- why a block that the text's end cuts off is none
abbrev pub end_kind : Option LexFault → DataFaultKind
end_kind None = f.Unended
end_kind (Some fault) = kind_of fault.kind

abbrev pub counted : ℕ → ℕ → Outcome Tables → Result (Loaded × Input) DataFault
counted blocks line (Ok p) = Ok (record { tables = p.0; blocks = blocks + 1 }, p.1)
counted blocks line (Err kind) = Err (located blocks line kind)

unfoldable pub one_block : List (List ℕ) → List DataObject → Loaded → Input → Result (Loaded × Input) DataFault
one_block names objects loaded i = counted loaded.blocks (line 0 i) (block names objects loaded.tables i)

-- where no token is left: the next one may be bad
abbrev pub ended : Option LexFault → Loaded → Result Loaded DataFault
ended None loaded = Ok loaded
ended (Some fault) loaded = Err (located loaded.blocks fault.line (kind_of fault.kind))

abbrev pub closed_by : Loaded → ℕ → Outcome (Unit {0}) → Result Loaded DataFault
closed_by loaded line (Ok p) = Ok loaded
closed_by loaded line (Err kind) = Err (located loaded.blocks line kind)

-- "end" ";": nothing of the text behind it is read
unfoldable pub closed : Loaded → Input → Result Loaded DataFault
closed loaded i = closed_by loaded (line 0 i) (expect k.Semicolon (next i))

abbrev pub then_from : (Loaded → Input → Result Loaded DataFault) → Result (Loaded × Input) DataFault → Result Loaded DataFault
then_from go (Ok p) = go p.0 p.1
then_from go (Err fault) = Err fault

-- The number bounds the turns; each turn takes a token, so that the count of the tokens left is enough.
unfoldable pub blocks_from : List (List ℕ) → List DataObject → Option LexFault → ℕ → Loaded → Input → Result Loaded DataFault
blocks_from names objects fault zero loaded i = ended fault loaded
blocks_from names objects fault (suc n) loaded i =
    if length i.rest == 0 then ended fault loaded
    else if is_word (codes "end") i then closed loaded i
    else then_from (blocks_from names objects fault n) (one_block names objects loaded i)

abbrev pub blocks : List (List ℕ) → List DataObject → Option LexFault → Loaded → Input → Result Loaded DataFault
blocks names objects fault loaded i = blocks_from names objects fault (length i.rest) loaded i

-- ---- texts

-- a file may begin with "data" ";"
unfoldable pub file_head : Rule (Unit {0})
file_head = do
  is_there ← word (codes "data")
  if is_there then expect k.Semicolon else pure tt

-- what stands before the first block; a section begins behind the "data" ";" of its model
unfoldable pub head : DataSource → Rule (Unit {0})
head Files = file_head
head Section = pure tt

abbrev pub behind_head : List (List ℕ) → List DataObject → Option LexFault → Loaded → ℕ → Outcome (Unit {0}) → Result Loaded DataFault
behind_head names objects fault loaded line (Ok p) = blocks names objects fault loaded p.1
behind_head names objects fault loaded line (Err kind) = Err (located loaded.blocks line kind)

abbrev pub input_of : TokenList → Input
input_of tokens = record { rest = tokens.items; end = end_kind tokens.fault }

-- what a text gives behind those before it
unfoldable pub text : List (List ℕ) → List DataObject → DataSource → Loaded → TokenList → Result Loaded DataFault
text names objects source loaded tokens = behind_head names objects tokens.fault loaded (line 0 (input_of tokens)) (head source (input_of tokens))

abbrev pub then_texts : (Loaded → Result Loaded DataFault) → Result Loaded DataFault → Result Loaded DataFault
then_texts go (Ok loaded) = go loaded
then_texts go (Err fault) = Err fault

abbrev pub texts : List (List ℕ) → List DataObject → DataSource → List TokenList → Loaded → Result Loaded DataFault
texts names objects source [] loaded = Ok loaded
texts names objects source (tokens ∷ more) loaded = then_texts (texts names objects source more) (text names objects source loaded tokens)

-- what all texts of a source give to the objects, which have their names and are told by `objects`
unfoldable pub all_data : List (List ℕ) → List DataObject → DataSource → List TokenList → Result Loaded DataFault
all_data names objects source all = texts names objects source all (record { tables = nothing_for (length objects); blocks = 0 })

abbrev pub tables_of : Result Loaded DataFault → Result Tables DataFault
tables_of (Ok loaded) = Ok loaded.tables
tables_of (Err fault) = Err fault

-- what is given to each object, by its place
abbrev pub all_tables : List (List ℕ) → List DataObject → DataSource → List TokenList → Result Tables DataFault
all_tables names objects source all = tables_of (all_data names objects source all)

-- ---- what code ensures

abbrev pub Loads : {A : Type 0} → Result A DataFault → Result A LoadError → Type 0
Loads outcome (Ok a) = outcome ≡ Ok a
Loads outcome (Err (Fault fault)) = outcome ≡ Err fault
Loads outcome (Err NoMemory) = Unit {0}

-- with the tokens that are left
abbrev pub LoadsFrom : {A : Type 0} → Result (A × Input) DataFault → Result A LoadError → Input → Type 0
LoadsFrom outcome (Ok a) new = outcome ≡ Ok (a, new)
LoadsFrom outcome (Err (Fault fault)) new = outcome ≡ Err fault
LoadsFrom outcome (Err NoMemory) new = Unit {0}

-- of a fault alone
abbrev pub IsFault : {A : Type 0} → Result A DataFault → LoadError → Type 0
IsFault outcome (Fault fault) = outcome ≡ Err fault
IsFault outcome NoMemory = Unit {0}

abbrev pub IsLocated : DataFault → LoadError → Type 0
IsLocated right (Fault fault) = right ≡ fault
IsLocated right NoMemory = Unit {0}
