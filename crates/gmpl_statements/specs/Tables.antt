-- Table statements, behind their names (GNU MathProg Language Reference, section on the table statement).
use Rattle.std.specs.Prelude.{ℕ, zero, suc, Bool, ◌&&◌, not, List, [], ◌∷◌, length, Option, Some, None, Ok, if◌then◌else◌, codes}
use Rattle.std.specs.Str.{bytes_eq}
use Rattle.gmpl_token.specs.declared.kind.TokenKind.{TokenKind}
use Rattle.gmpl_token.specs.declared.kind.TokenKind.TheVariants as k
use Rattle.gmpl_syntax.specs.declared.expression.Expr.{Expr, out-Expr}
use Rattle.gmpl_syntax.specs.declared.statement.InputColumn.{InputColumn}
use Rattle.gmpl_syntax.specs.declared.statement.TableInput.{TableInput}
use Rattle.gmpl_syntax.specs.declared.statement.OutputColumn.{OutputColumn}
use Rattle.gmpl_syntax.specs.declared.statement.TableOutput.{TableOutput}
use Rattle.gmpl_input.specs.Input.{sees}
use Rattle.gmpl_input.specs.Rules.{Rule, ◌>>=◌, ◌>>◌, ◌<$>◌, pure, refuse, peek, ahead, take_token, eat, expect, further, optional}
use Rattle.gmpl_words.specs.Statements.{is_input, is_output}
use Rattle.gmpl_expressions.specs.Literals.{string}
use Rattle.gmpl_expressions.specs.Trees.{is_name}
use Rattle.gmpl_expressions.specs.Grammar.{expression, indexing_expression}
use Rattle.gmpl_statements.specs.Parts.{name}

-- ---- the driver and what is behind it: string E ":", and behind another driver than CSV, which is not supported, more expressions

abbrev pub driver_by : Option TokenKind → Rule (List ℕ)
driver_by (Some k.StringLiteral) = string
driver_by _ = refuse

unfoldable pub driver : Rule (List ℕ)
driver = peek >>= driver_by

unfoldable pub argument : ℕ → Rule (Unit {0})
argument depth = do
  eat k.Comma
  value ← expression depth
  pure tt

-- The number bounds the turns; each turn takes a token, so that the count of the tokens left is enough.
unfoldable pub arguments_from : ℕ → ℕ → Rule (Unit {0})
arguments_from depth zero = pure tt
arguments_from depth (suc n) = λ i. if sees k.Colon i then Ok (tt, i) else (argument depth >> arguments_from depth n) i

-- { [","] E }*, up to a colon
abbrev pub arguments : ℕ → Rule (Unit {0})
arguments depth = λ i. arguments_from depth (length i.rest) i

unfoldable pub behind_file : ℕ → List ℕ → Rule (Unit {0})
behind_file depth driver = if bytes_eq driver (codes "CSV") then pure tt else arguments depth

unfoldable pub driver_and_file : ℕ → Rule (List ℕ × Expr)
driver_and_file depth = do
  driver ← driver
  file ← expression depth
  more ← behind_file depth driver
  expect k.Colon
  pure (driver, file)

-- [ "~" N ]
unfoldable pub optional_field : Rule (Option (List ℕ))
optional_field = do
  is_there ← eat k.Tilde
  optional is_there name

-- ---- a table that is read

abbrev pub set_by : Option TokenKind → Rule (Option (List ℕ))
set_by (Some k.Name) = do
  set ← name
  expect k.Arrow
  pure (Some set)
set_by _ = pure None

-- [ N "<-" ]
unfoldable pub optional_set : Rule (Option (List ℕ))
optional_set = peek >>= set_by

-- "[" N { "," N }* "]"
unfoldable pub keys : Rule (List (List ℕ))
keys = do
  expect k.OpenBracket
  first ← name
  all ← further name (first ∷ [])
  expect k.CloseBracket
  pure all

-- N [ "~" N ]
unfoldable pub input_column : Rule InputColumn
input_column = do
  parameter ← name
  field ← optional_field
  pure (record { parameter = parameter; field = field })

-- driver_and_file [ N "<-" ] keys { "," N [ "~" N ] }* ";", behind "IN"
unfoldable pub table_input : ℕ → List ℕ → Rule TableInput
table_input depth name = do
  source ← driver_and_file depth
  set ← optional_set
  keys ← keys
  columns ← further input_column []
  expect k.Semicolon
  pure (record { name = name; driver = source.0; file = source.1; set = set; keys = keys; columns = columns })

abbrev pub input_word_by : Bool → Option TokenKind → List ℕ → Rule (Unit {0})
input_word_by is_refused (Some k.Name) text = if is_input text && not is_refused then (take_token >> pure tt) else refuse
input_word_by is_refused _ text = refuse

-- "IN", where it is not refused
unfoldable pub input_word : Bool → Rule (Unit {0})
input_word is_refused = do
  kind ← peek
  text ← ahead
  input_word_by is_refused kind text

-- ---- a table that is written

abbrev pub output_word_by : Option TokenKind → List ℕ → Rule (Unit {0})
output_word_by (Some k.Name) text = if is_output text then (take_token >> pure tt) else refuse
output_word_by _ text = refuse

-- "OUT"
unfoldable pub output_word : Rule (Unit {0})
output_word = do
  kind ← peek
  text ← ahead
  output_word_by kind text

-- "~" N, which may be wanting behind a name alone
unfoldable pub output_field : Bool → Rule (Option (List ℕ))
output_field is_name = if is_name then optional_field else (expect k.Tilde >> (Some <$> name))

-- E [ "~" N ]
unfoldable pub output_column : ℕ → Rule OutputColumn
output_column depth = do
  value ← expression depth
  field ← output_field (is_name (out-Expr value))
  pure (record { value = value; field = field })

unfoldable pub output_columns : ℕ → Rule (List OutputColumn)
output_columns depth = do
  first ← output_column depth
  further (output_column depth) (first ∷ [])

-- dom "OUT" driver_and_file E [ "~" N ] { "," E [ "~" N ] }* ";"
unfoldable pub table_output : ℕ → List ℕ → Rule TableOutput
table_output depth name = do
  domain ← indexing_expression depth
  word ← output_word
  target ← driver_and_file depth
  columns ← output_columns depth
  expect k.Semicolon
  pure (record { name = name; domain = domain; driver = target.0; file = target.1; columns = columns })
