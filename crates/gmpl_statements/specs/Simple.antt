-- Check, display and printf statements, behind their words (GNU MathProg Language Reference, sections on these).
use Rattle.std.specs.Prelude.{ℕ, ◌&&◌, List, [], ◌∷◌, Option, Some, None, if◌then◌else◌}
use Rattle.gmpl_token.specs.declared.kind.TokenKind.TheVariants as k
use Rattle.gmpl_syntax.specs.declared.expression.Expr.{Expr}
use Rattle.gmpl_syntax.specs.declared.expression.Indexing.{Indexing}
use Rattle.gmpl_syntax.specs.declared.statement.Action.{Action}
use Rattle.gmpl_syntax.specs.declared.statement.Action.TheVariants as a
use Rattle.gmpl_input.specs.Input.{sees}
use Rattle.gmpl_input.specs.Rules.{Rule, ◌>>=◌, ◌>>◌, ◌<$>◌, pure, eat, expect, further, optional}
use Rattle.gmpl_words.specs.Braces.{is_domain}
use Rattle.gmpl_expressions.specs.Grammar.{expression, logical_expression, indexing_expression}

-- [ dom ], where an expression follows
unfoldable pub governing_domain : ℕ → Rule (Option Indexing)
governing_domain depth = λ i. optional (sees k.OpenBrace i && is_domain i.rest) (indexing_expression depth) i

-- [ dom ] [ ":" ]
unfoldable pub governed : ℕ → Rule (Option Indexing)
governed depth = do
  domain ← governing_domain depth
  has_colon ← eat k.Colon
  pure domain

-- E { "," E }*
unfoldable pub listed : ℕ → Rule (List Expr)
listed depth = do
  first ← expression depth
  further (expression depth) (first ∷ [])

-- [ dom ] [ ":" ] L ";"
unfoldable pub check : ℕ → Rule Action
check depth = do
  domain ← governed depth
  condition ← logical_expression depth
  expect k.Semicolon
  pure (a.Check domain condition)

-- [ dom ] [ ":" ] E { "," E }* ";"
unfoldable pub display : ℕ → Rule Action
display depth = do
  domain ← governed depth
  items ← listed depth
  expect k.Semicolon
  pure (a.Display domain items)

-- [ ( ">" | ">" ">" ) E ]: the file
unfoldable pub printed_file : ℕ → Rule (Option Expr)
printed_file depth = do
  goes_to_file ← eat k.Above
  if goes_to_file then (eat k.Above >> (Some <$> expression depth)) else pure None

-- [ dom ] [ ":" ] E { "," E }* printed_file ";"
unfoldable pub printf : ℕ → Rule Action
printf depth = do
  domain ← governed depth
  items ← listed depth
  file ← printed_file depth
  expect k.Semicolon
  pure (a.Printf domain items file)
