-- Tables leave names as they are.
use Rattle.std.proofs.Common.{ℕ, zero, suc, Bool, ◌&&◌, not, List, [], ◌∷◌, length, Option, Some, codes}
use Rattle.std.specs.Str.{bytes_eq}
use Rattle.gmpl_token.specs.declared.kind.TokenKind.{TokenKind}
use Rattle.gmpl_token.specs.declared.kind.TokenKind.TheVariants as k
use Rattle.gmpl_syntax.specs.declared.expression.Expr.{out-Expr}
use Rattle.gmpl_input.specs.Input.{kind, spelling, sees}
use Rattle.gmpl_input.specs.Rules.{after, expect, further}
use Rattle.gmpl_words.specs.Statements.{is_input, is_output}
use Rattle.gmpl_expressions.specs.Trees.{is_name}
use Rattle.gmpl_expressions.specs.Grammar.{expression, indexing_expression}
use Rattle.gmpl_statements.specs.Parts.{name_by, name, titled_name}
use Rattle.gmpl_statements.specs.Tables.{driver_by, driver, argument, arguments_from, behind_file, driver_and_file, optional_field, set_by, optional_set, keys, input_column, table_input, input_word_by, input_word, output_word_by, output_word, output_field, output_column, output_columns, table_output}
use Rattle.gmpl_reader.proofs.KeptTokens.{Keeps, then_left, made_left, next_kept, after_kept, either_rule, either_left, expect_keeps, optional_keeps, further_keeps}
use Rattle.gmpl_reader.proofs.ExpressionTokens.{string_keeps, expression_keeps, indexing_expression_keeps}

-- ---- names

name_by_keeps : (kind : Option TokenKind) → Keeps (name_by kind)
name_by_keeps (Some k.Name) i h = next_kept i h
name_by_keeps _ i h = tt

name_keeps : Keeps name
unfolding name
name_keeps i h = name_by_keeps (kind i) i h

pub titled_name_keeps : Keeps titled_name
unfolding titled_name
titled_name_keeps i h = then_left (name i) _ (name_keeps i h) (λ _ j kept. after_kept k.StringLiteral j kept)

-- ---- the driver and the file

driver_by_keeps : (kind : Option TokenKind) → Keeps (driver_by kind)
driver_by_keeps (Some k.StringLiteral) i h = string_keeps i h
driver_by_keeps _ i h = tt

driver_keeps : Keeps driver
unfolding driver
driver_keeps i h = driver_by_keeps (kind i) i h

argument_keeps : (depth : ℕ) → Keeps (argument depth)
unfolding argument
argument_keeps depth i h =
    then_left (expression depth (after k.Comma i)) _ (expression_keeps depth (after k.Comma i) (after_kept k.Comma i h)) (λ _ _ left. left)

arguments_from_keeps : (depth n : ℕ) → Keeps (arguments_from depth n)
unfolding arguments_from
arguments_from_keeps depth zero i h = h
arguments_from_keeps depth (suc n) i h =
    either_left (sees k.Colon i) _ _ h
    (then_left (argument depth i) _ (argument_keeps depth i h) (λ _ j left. arguments_from_keeps depth n j left))

behind_file_keeps : (depth : ℕ) (said : List ℕ) → Keeps (behind_file depth said)
unfolding behind_file
behind_file_keeps depth said i h = either_rule (bytes_eq said (codes "CSV")) _ _ i h (arguments_from_keeps depth (length i.rest) i h)

driver_and_file_keeps : (depth : ℕ) → Keeps (driver_and_file depth)
unfolding driver_and_file
driver_and_file_keeps depth i h =
    then_left (driver i) _ (driver_keeps i h)
    (λ said j kept. then_left (expression depth j) _ (expression_keeps depth j kept)
    (λ _ n left. then_left (behind_file depth said n) _ (behind_file_keeps depth said n left)
    (λ _ m more. then_left (expect k.Colon m) _ (expect_keeps k.Colon m more) (λ _ _ end. end))))

-- ---- columns

optional_field_keeps : Keeps optional_field
unfolding optional_field
optional_field_keeps i h = optional_keeps (sees k.Tilde i) name name_keeps (after k.Tilde i) (after_kept k.Tilde i h)

-- ---- a table that is read

set_by_keeps : (kind : Option TokenKind) → Keeps (set_by kind)
set_by_keeps (Some k.Name) i h = then_left (name i) _ (name_keeps i h) (λ _ j kept. then_left (expect k.Arrow j) _ (expect_keeps k.Arrow j kept) (λ _ _ end. end))
set_by_keeps _ i h = h

optional_set_keeps : Keeps optional_set
unfolding optional_set
optional_set_keeps i h = set_by_keeps (kind i) i h

keys_keeps : Keeps keys
unfolding keys
keys_keeps i h =
    then_left (expect k.OpenBracket i) _ (expect_keeps k.OpenBracket i h)
    (λ _ j kept. then_left (name j) _ (name_keeps j kept)
    (λ first n left. then_left (further name (first ∷ []) n) _ (further_keeps name name_keeps (first ∷ []) n left)
    (λ _ m more. then_left (expect k.CloseBracket m) _ (expect_keeps k.CloseBracket m more) (λ _ _ end. end))))

input_column_keeps : Keeps input_column
unfolding input_column
input_column_keeps i h = then_left (name i) _ (name_keeps i h) (λ _ j kept. then_left (optional_field j) _ (optional_field_keeps j kept) (λ _ _ end. end))

pub table_input_keeps : (depth : ℕ) (said : List ℕ) → Keeps (table_input depth said)
unfolding table_input
table_input_keeps depth said i h =
    then_left (driver_and_file depth i) _ (driver_and_file_keeps depth i h)
    (λ _ j kept. then_left (optional_set j) _ (optional_set_keeps j kept)
    (λ _ n left. then_left (keys n) _ (keys_keeps n left)
    (λ _ m more. then_left (further input_column [] m) _ (further_keeps input_column input_column_keeps [] m more)
    (λ _ o some. then_left (expect k.Semicolon o) _ (expect_keeps k.Semicolon o some) (λ _ _ end. end)))))

input_word_by_keeps : (is_refused : Bool) (kind : Option TokenKind) (text : List ℕ) → Keeps (input_word_by is_refused kind text)
input_word_by_keeps is_refused (Some k.Name) text i h = either_rule (is_input text && not is_refused) _ _ i (next_kept i h) tt
input_word_by_keeps is_refused _ text i h = tt

pub input_word_keeps : (is_refused : Bool) → Keeps (input_word is_refused)
unfolding input_word
input_word_keeps is_refused i h = input_word_by_keeps is_refused (kind i) (spelling i) i h

-- ---- a table that is written

output_field_keeps : (alone : Bool) → Keeps (output_field alone)
unfolding output_field
output_field_keeps alone i h =
    either_rule alone optional_field _ i (optional_field_keeps i h)
    (then_left (expect k.Tilde i) _ (expect_keeps k.Tilde i h) (λ _ j kept. made_left (λ a. Some a) name name_keeps j kept))

output_column_keeps : (depth : ℕ) → Keeps (output_column depth)
unfolding output_column
output_column_keeps depth i h =
    then_left (expression depth i) _ (expression_keeps depth i h)
    (λ value j kept. then_left (output_field (is_name (out-Expr value)) j) _ (output_field_keeps (is_name (out-Expr value)) j kept) (λ _ _ end. end))

output_columns_keeps : (depth : ℕ) → Keeps (output_columns depth)
unfolding output_columns
output_columns_keeps depth i h =
    then_left (output_column depth i) _ (output_column_keeps depth i h) (λ first j kept. further_keeps (output_column depth) (output_column_keeps depth) (first ∷ []) j kept)

output_word_by_keeps : (kind : Option TokenKind) (text : List ℕ) → Keeps (output_word_by kind text)
output_word_by_keeps (Some k.Name) text i h = either_rule (is_output text) _ _ i (next_kept i h) tt
output_word_by_keeps _ text i h = tt

output_word_keeps : Keeps output_word
unfolding output_word
output_word_keeps i h = output_word_by_keeps (kind i) (spelling i) i h

pub table_output_keeps : (depth : ℕ) (said : List ℕ) → Keeps (table_output depth said)
unfolding table_output
table_output_keeps depth said i h =
    then_left (indexing_expression depth i) _ (indexing_expression_keeps depth i h)
    (λ _ j kept. then_left (output_word j) _ (output_word_keeps j kept)
    (λ _ n left. then_left (driver_and_file depth n) _ (driver_and_file_keeps depth n left)
    (λ _ m more. then_left (output_columns depth m) _ (output_columns_keeps depth m more)
    (λ _ o some. then_left (expect k.Semicolon o) _ (expect_keeps k.Semicolon o some) (λ _ _ end. end)))))
