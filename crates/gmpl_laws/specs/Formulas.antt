-- Formulas of numbers, names and operators between two operands: their trees, and their tokens with a pair of parentheses round
-- each operand.
use Rattle.std.specs.Prelude.{◌≡◌, ℕ, suc, max, List, [], ◌∷◌, None, Ok}
use Rattle.rational.specs.Rational.{Rational}
use Rattle.fraction.specs.Literal.{read_of}
use Rattle.gmpl_token.specs.declared.kind.TokenKind.{TokenKind}
use Rattle.gmpl_token.specs.declared.kind.TokenKind.TheVariants as k
use Rattle.gmpl_token.specs.Token.{Token}
use Rattle.gmpl_syntax.specs.declared.fault.SyntaxFaultKind.{SyntaxFaultKind}
use Rattle.gmpl_syntax.specs.declared.expression.Operator.{Operator}
use Rattle.gmpl_syntax.specs.declared.expression.Operator.TheVariants as o
use Rattle.gmpl_syntax.specs.declared.expression.Expr.{Expr}
use Rattle.gmpl_syntax.specs.declared.expression.Expr.TheVariants as e
use Rattle.gmpl_expressions.specs.Grammar.{logical_expression}
use Rattle.gmpl_laws.specs.Reading.{spelled, mark, joined}

-- a literal with its value, a name, or two operands with an operator
pub data Formula : Type 0 where
  number : List ℕ → Rational → Formula
  name : List ℕ → Formula
  binary : Operator → Formula → Formula → Formula

-- each literal has the value that stands beside it
abbrev pub HasValues : Formula → Type 0
HasValues (number text value) = read_of text ≡ Ok value
HasValues (name text) = Unit {0}
HasValues (binary operator left right) = HasValues left × HasValues right

-- ---- as a tree: each operand is a group

abbrev pub group : Expr → Expr
group operand = e.Group (operand ∷ [])

abbrev pub tree : Formula → Expr
tree (number text value) = e.Number value
tree (name text) = e.Named text [] None
tree (binary operator left right) = joined (group (tree left)) operator (group (tree right))

-- ---- as tokens

abbrev pub mark_of : Operator → TokenKind
mark_of o.Or = k.Or
mark_of o.And = k.And
mark_of o.Union = k.Union
mark_of o.Diff = k.Diff
mark_of o.Symdiff = k.Symdiff
mark_of o.Inter = k.Inter
mark_of o.Cross = k.Cross
mark_of o.Join = k.Join
mark_of o.Plus = k.Plus
mark_of o.Minus = k.Minus
mark_of o.Less = k.Less
mark_of o.Times = k.Times
mark_of o.Over = k.Over
mark_of o.Div = k.Div
mark_of o.Mod = k.Mod

-- before these tokens
abbrev pub written : Formula → List Token → List Token
written (number text value) rest = spelled k.NumericLiteral text ∷ rest
written (name text) rest = spelled k.Name text ∷ rest
written (binary operator left right) rest =
    mark k.OpenParenthesis ∷ written left (mark k.CloseParenthesis ∷ mark (mark_of operator) ∷ mark k.OpenParenthesis ∷ written right (mark k.CloseParenthesis ∷ rest))

-- how many parentheses are open at most
abbrev pub depth_of : Formula → ℕ
depth_of (number text value) = 0
depth_of (name text) = 0
depth_of (binary operator left right) = suc (max (depth_of left) (depth_of right))

-- written before a semicolon, it is read as its tree up to that, where so many tokens may be open
abbrev pub IsReadBack : Formula → ℕ → List Token → SyntaxFaultKind → Type 0
IsReadBack formula depth rest end =
    logical_expression depth (record { rest = written formula (mark k.Semicolon ∷ rest); end = end }) ≡ Ok (tree formula, record { rest = mark k.Semicolon ∷ rest; end = end })
