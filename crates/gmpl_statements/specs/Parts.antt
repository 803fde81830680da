-- Parts of several statements (GNU MathProg Language Reference, chapter on statements).
use Rattle.std.specs.Prelude.{ℕ, List, [], ◌∷◌, Option, Some}
use Rattle.gmpl_token.specs.declared.kind.TokenKind.{TokenKind}
use Rattle.gmpl_token.specs.declared.kind.TokenKind.TheVariants as k
use Rattle.gmpl_syntax.specs.declared.expression.Expr.{Expr}
use Rattle.gmpl_syntax.specs.declared.expression.Indexing.{Indexing}
use Rattle.gmpl_syntax.specs.declared.statement.Head.{Head}
use Rattle.gmpl_input.specs.Input.{sees}
use Rattle.gmpl_input.specs.Rules.{Rule, ◌>>=◌, ◌>>◌, ◌<$>◌, pure, refuse, peek, take_token, eat, further, optional}
use Rattle.gmpl_expressions.specs.Grammar.{expression, indexing_expression}

abbrev pub name_by : Option TokenKind → Rule (List ℕ)
name_by (Some k.Name) = take_token
name_by _ = refuse

-- N: a name that isn't reserved
unfoldable pub name : Rule (List ℕ)
name = peek >>= name_by

-- N [ string ]
unfoldable pub titled_name : Rule (List ℕ)
titled_name = do
  name ← name
  has_title ← eat k.StringLiteral
  pure name

-- [ dom ]
unfoldable pub optional_domain : ℕ → Rule (Option Indexing)
optional_domain depth = λ i. optional (sees k.OpenBrace i) (indexing_expression depth) i

-- N [ string ] [ dom ]
unfoldable pub head : ℕ → Rule Head
head depth = do
  name ← titled_name
  domain ← optional_domain depth
  pure (record { name = name; domain = domain })
