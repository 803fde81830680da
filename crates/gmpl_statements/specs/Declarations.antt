-- Statements that declare, behind their words.
use Rattle.std.specs.Prelude.{ℕ, Option, Some, None, if◌then◌else◌}
use Rattle.gmpl_token.specs.declared.kind.TokenKind.TheVariants as k
use Rattle.gmpl_syntax.specs.declared.expression.Expr.{Expr}
use Rattle.gmpl_syntax.specs.declared.expression.Relation.{Relation}
use Rattle.gmpl_syntax.specs.declared.statement.Head.{Head}
use Rattle.gmpl_syntax.specs.declared.statement.Declaration.{Declaration}
use Rattle.gmpl_syntax.specs.declared.statement.Direction.{Direction}
use Rattle.gmpl_syntax.specs.declared.statement.Constraint.{Constraint}
use Rattle.gmpl_syntax.specs.declared.statement.Objective.{Objective}
use Rattle.gmpl_input.specs.Input.{sees}
use Rattle.gmpl_input.specs.Rules.{Rule, ◌>>=◌, ◌>>◌, ◌<$>◌, pure, refuse, peek, take_token, eat, expect, given}
use Rattle.gmpl_words.specs.declared.attributes.Declared.{Declared}
use Rattle.gmpl_words.specs.Operators.{bound_relation, may_follow}
use Rattle.gmpl_expressions.specs.Grammar.{expression}
use Rattle.gmpl_statements.specs.Parts.{head}
use Rattle.gmpl_statements.specs.Attributes.{attributes}

-- ---- set, parameter and variable statement: N [ string ] [ dom ] { [ "," ] attribute }* ";"

unfoldable pub declaration : ℕ → Declared → Rule Declaration
declaration depth declared = do
  head ← head depth
  attributes ← attributes depth declared
  expect k.Semicolon
  pure (record { head = head; attributes = attributes })

-- ---- constraint statement: N [ string ] [ dom ] ":" E [ "," ] rel E [ [ "," ] rel E ] ";"

-- "<=" | "=" | ">="
unfoldable pub first_relation : Rule Relation
first_relation = do
  kind ← peek
  given (bound_relation kind) (λ relation. take_token >> pure relation) refuse

-- [ "," ] rel E, the second, with the relation of the first
unfoldable pub last_side : ℕ → Relation → Rule Expr
last_side depth first = do
  has_comma ← eat k.Comma
  kind ← peek
  if may_follow first kind then (take_token >> expression depth) else refuse

-- [ [ "," ] rel E ] before ";"
unfoldable pub optional_last_side : ℕ → Relation → Rule (Option Expr)
optional_last_side depth first = λ i. if sees k.Semicolon i then pure None i else (Some <$> last_side depth first) i

-- E [ "," ] rel E [ [ "," ] rel E ]
unfoldable pub sides : ℕ → Head → Rule Constraint
sides depth head = do
  left ← expression depth
  has_comma ← eat k.Comma
  relation ← first_relation
  right ← expression depth
  last ← optional_last_side depth relation
  pure (record { head = head; left = left; relation = relation; right = right; last = last })

unfoldable pub constraint : ℕ → Rule Constraint
constraint depth = do
  head ← head depth
  expect k.Colon
  constraint ← sides depth head
  expect k.Semicolon
  pure constraint

-- ---- objective statement: N [ string ] [ dom ] ":" E ";"

unfoldable pub objective : ℕ → Direction → Rule Objective
objective depth direction = do
  head ← head depth
  expect k.Colon
  form ← expression depth
  expect k.Semicolon
  pure (record { direction = direction; head = head; form = form })
