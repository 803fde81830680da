-- Tokens that are read as a tree, to the last of them.
use Rattle.std.specs.Prelude.{◌≡◌, ℕ, List, [], ◌∷◌, None, Ok, codes}
use Rattle.gmpl_token.specs.declared.kind.TokenKind.{TokenKind}
use Rattle.gmpl_token.specs.declared.kind.TokenKind.TheVariants as k
use Rattle.gmpl_token.specs.Token.{Token}
use Rattle.gmpl_syntax.specs.declared.fault.SyntaxFaultKind.TheVariants.{Unended}
use Rattle.gmpl_syntax.specs.declared.expression.Operator.{Operator}
use Rattle.gmpl_syntax.specs.declared.expression.Expr.{Expr}
use Rattle.gmpl_syntax.specs.declared.expression.Expr.TheVariants as e
use Rattle.gmpl_syntax.specs.declared.expression.Link.{roll-Link}
use Rattle.gmpl_expressions.specs.Grammar.{logical_expression}

abbrev pub spelled : TokenKind → List ℕ → Token
spelled kind text = record { kind = kind; at = 0; line = 1; text = text }

abbrev pub mark : TokenKind → Token
mark kind = spelled kind []

-- ---- three names, as tokens and as trees

abbrev pub name_a : Token
name_a = spelled k.Name (codes "a")

abbrev pub name_b : Token
name_b = spelled k.Name (codes "b")

abbrev pub name_c : Token
name_c = spelled k.Name (codes "c")

abbrev pub a : Expr
a = e.Named (codes "a") [] None

abbrev pub b : Expr
b = e.Named (codes "b") [] None

abbrev pub c : Expr
c = e.Named (codes "c") [] None

abbrev pub joined : Expr → Operator → Expr → Expr
joined left operator right = e.Chain left (roll-Link (record { operator = operator; operand = right }) ∷ [])

-- ---- what they are read as, where three tokens may be open

abbrev pub reads : List Token → Expr → Type 0
reads tokens tree = logical_expression 3 (record { rest = tokens; end = Unended }) ≡ Ok (tree, record { rest = []; end = Unended })

-- the first operator binds tighter than the second, on either side of it
abbrev pub binds_tighter : TokenKind → Operator → TokenKind → Operator → Type 0
binds_tighter first_mark first second_mark second =
    reads (name_a ∷ mark first_mark ∷ name_b ∷ mark second_mark ∷ name_c ∷ []) (joined (joined a first b) second c)
    × reads (name_a ∷ mark second_mark ∷ name_b ∷ mark first_mark ∷ name_c ∷ []) (joined a second (joined b first c))
