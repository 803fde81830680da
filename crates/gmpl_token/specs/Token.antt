-- The tokens of a MathProg model.
use Rattle.std.specs.Prelude.{ℕ, List, Option}
use Rattle.gmpl_token.specs.declared.kind.TokenKind.{TokenKind}
use Rattle.gmpl_token.specs.declared.token.LexFault.{LexFault}

-- its kind, how many bytes stand before it, its line and its text
pub record Token : Type 0 where
  pub kind : TokenKind
  pub at : ℕ
  pub line : ℕ
  pub text : List ℕ

-- tokens in order, and the first place where none can stand, if the text has one
pub record Tokens : Type 0 where
  pub items : List Token
  pub fault : Option LexFault
