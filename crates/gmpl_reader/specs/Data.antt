-- What data files, or the data section behind a model, give to its objects (GNU MathProg Language Reference, chapter on model data).
use Rattle.std.specs.Prelude.{◌≡◌, ℕ, ◌+◌, Bool, true, false, if◌then◌else◌, List, [], ◌∷◌, map, Option, Some, None, Result, Err}
use Rattle.model_text.specs.declared.error.ReadError.{ReadError}
use Rattle.model_text.specs.declared.error.ReadError.TheVariants.{Fault, NoMemory}
use Rattle.gmpl_resolved.specs.declared.statement.Attribute.{Attribute}
use Rattle.gmpl_resolved.specs.declared.statement.Attribute.TheVariants as a
use Rattle.gmpl_resolved.specs.declared.statement.Statement.{Statement}
use Rattle.gmpl_resolved.specs.declared.statement.Statement.TheVariants as s
use Rattle.gmpl_resolved.specs.declared.statement.Numbered.{Numbered}
use Rattle.gmpl_kinds.specs.declared.shape.Object.{Object}
use Rattle.gmpl_kinds.specs.declared.shape.Sort.{Sort}
use Rattle.gmpl_kinds.specs.declared.shape.Sort.TheVariants as sort
use Rattle.gmpl_kinds.specs.Demands.{or_one}
use Rattle.gmpl_parse.specs.declared.model.Model.{Model as Parsed}
use Rattle.gmpl_reader.specs.Names.{names_of}
use Rattle.gmpl_token.specs.Token.{Tokens}
use Rattle.gmpl_lexer.specs.DataTokens.{data_tokens}
use Rattle.gmpl_blocks.specs.declared.fault.DataFault.{DataFault}
use Rattle.gmpl_load.specs.declared.objects.DataObject.{DataObject}
use Rattle.gmpl_load.specs.declared.objects.DataSort.{DataSort}
use Rattle.gmpl_load.specs.declared.objects.DataSort.TheVariants as given_as
use Rattle.gmpl_load.specs.declared.texts.DataSource.{DataSource}
use Rattle.gmpl_load.specs.declared.texts.DataSource.TheVariants.{Files, Section}
use Rattle.gmpl_load.specs.Tables.{Tables}
use Rattle.gmpl_load.specs.Texts.{all_tables}
use Rattle.gmpl_reader.specs.declared.fault.MathProgFault.{MathProgFault}
use Rattle.gmpl_reader.specs.declared.fault.MathProgFault.TheVariants.{Syntax, Model, Data}

-- ---- the objects of a model, as data see them

abbrev pub assigns : Attribute → Bool
assigns (a.Assigned x) = true
assigns _ = false

-- `:=`
abbrev pub is_assigned : List Attribute → Bool
is_assigned [] = false
is_assigned (x ∷ xs) = if assigns x then true else is_assigned xs

abbrev pub has_expression : Statement → Bool
has_expression (s.Set d) = is_assigned d.attributes
has_expression (s.Param d) = is_assigned d.attributes
has_expression _ = false

abbrev pub data_sort : Sort → Option ℕ → DataSort
data_sort sort.Set n = given_as.Set (or_one n)
data_sort sort.Param n = given_as.Parameter
data_sort _ n = given_as.Other

abbrev pub data_object : Numbered → Object → DataObject
data_object x o = record { sort = data_sort o.sort o.elements; subscripts = o.subscripts; has_expression = has_expression x.statement }

-- in order; each statement declares one
abbrev pub data_objects : List Numbered → List Object → List DataObject
data_objects [] os = []
data_objects (x ∷ xs) [] = []
data_objects (x ∷ xs) (o ∷ os) = data_object x o ∷ data_objects xs os

-- ---- the texts of the data

-- the data of a model's own section, which begins behind this place of its text; none, where there is no section
abbrev pub section_tokens : List ℕ → Option ℕ → List Tokens
section_tokens text None = []
section_tokens text (Some at) = data_tokens (at + 1) text ∷ []

-- a file of data is data from its first byte on
abbrev pub file_tokens : List ℕ → Tokens
file_tokens file = data_tokens 0 file

-- the files in order, or else the section behind the model: where there are files, it does not count
abbrev pub texts_of_data : List ℕ → Option ℕ → List (List ℕ) → List Tokens
texts_of_data text section [] = section_tokens text section
texts_of_data text section (file ∷ files) = map file_tokens (file ∷ files)

abbrev pub source_of_data : List (List ℕ) → DataSource
source_of_data [] = Section
source_of_data (file ∷ files) = Files

-- ---- what is given

-- what these texts of a source give to the objects of a model
unfoldable pub given_by : Parsed → DataSource → List Tokens → Result Tables DataFault
given_by model source texts = all_tables (names_of model.statements) (data_objects model.statements model.objects) source texts

-- what the data give to the objects of a model: its text, and the files of data
abbrev pub given : List ℕ → List (List ℕ) → Parsed → Result Tables DataFault
given text data_files model = given_by model (source_of_data data_files) (texts_of_data text model.data_at data_files)

-- the call's fault is the definition's; want of memory is free
abbrev pub IsNoData : Result Tables DataFault → ReadError MathProgFault → Type 0
IsNoData right (Fault (Data fault)) = right ≡ Err fault
IsNoData right (Fault (Syntax fault)) = ⊥
IsNoData right (Fault (Model fault)) = ⊥
IsNoData right NoMemory = Unit {0}
