-- What a statement is read from: tokens, and why there are no more.
use Rattle.std.specs.Prelude.{ℕ, Bool, false, List, [], ◌∷◌, Option, Some, None}
use denote.Enum.Bare.{sameb}
use Rattle.gmpl_token.specs.contracts.kind.TokenKind.{the_type}
use Rattle.gmpl_token.specs.declared.kind.TokenKind.{TokenKind}
use Rattle.gmpl_token.specs.Token.{Token}
use Rattle.gmpl_syntax.specs.declared.fault.SyntaxFaultKind.{SyntaxFaultKind}
use Rattle.gmpl_syntax.specs.declared.fault.SyntaxFaultKind.TheVariants.{NotAStatement}

-- the tokens that are left, and why none stands behind them
pub record Input : Type 0 where
  pub rest : List Token
  pub end : SyntaxFaultKind

abbrev pub kind_at : List Token → Option TokenKind
kind_at [] = None
kind_at (token ∷ tokens) = Some token.kind

abbrev pub text_at : List Token → List ℕ
text_at [] = []
text_at (token ∷ tokens) = token.text

abbrev pub behind : List Token → List Token
behind [] = []
behind (token ∷ tokens) = tokens

abbrev pub refused_at : List Token → SyntaxFaultKind → SyntaxFaultKind
refused_at [] end = end
refused_at (token ∷ tokens) end = NotAStatement

-- ---- the next token

unfoldable pub kind : Input → Option TokenKind
kind i = kind_at i.rest

unfoldable pub spelling : Input → List ℕ
spelling i = text_at i.rest

unfoldable pub next : Input → Input
next i = record { rest = behind i.rest; end = i.end }

-- why no rule reads it: the text has other tokens there, or it ends
unfoldable pub refusal : Input → SyntaxFaultKind
refusal i = refused_at i.rest i.end

-- ---- its kind

unfoldable pub same_kind : TokenKind → TokenKind → Bool
same_kind = sameb the_type

abbrev pub is_kind : TokenKind → Option TokenKind → Bool
is_kind wanted None = false
is_kind wanted (Some found) = same_kind found wanted

unfoldable pub sees : TokenKind → Input → Bool
sees wanted i = is_kind wanted (kind i)
