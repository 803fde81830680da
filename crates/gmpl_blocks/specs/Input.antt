-- What a data section is read from: tokens, and why there are no more.
use Rattle.std.specs.Prelude.{ℕ, Bool, ◌&&◌, false, List, [], ◌∷◌, Option, Some, None, codes}
use Rattle.std.specs.Str.{bytes_eq}
use denote.Enum.Bare.{sameb}
use Rattle.gmpl_token.specs.contracts.kind.TokenKind.{the_type}
use Rattle.gmpl_token.specs.declared.kind.TokenKind.{TokenKind}
use Rattle.gmpl_token.specs.declared.kind.TokenKind.TheVariants as k
use Rattle.gmpl_token.specs.Token.{Token}
use Rattle.gmpl_blocks.specs.declared.fault.DataFaultKind.{DataFaultKind}
use Rattle.gmpl_blocks.specs.declared.fault.DataFaultKind.TheVariants.{BadForm, Unended, WrongDimension}

-- the tokens that are left, and why none stands behind them
pub record Input : Type 0 where
  pub rest : List Token
  pub end : DataFaultKind

abbrev pub kind_at : List Token → Option TokenKind
kind_at [] = None
kind_at (token ∷ tokens) = Some token.kind

abbrev pub text_at : List Token → List ℕ
text_at [] = []
text_at (token ∷ tokens) = token.text

abbrev pub line_at : List Token → ℕ → ℕ
line_at [] last = last
line_at (token ∷ tokens) last = token.line

abbrev pub behind : List Token → List Token
behind [] = []
behind (token ∷ tokens) = tokens

abbrev pub refused_at : List Token → DataFaultKind → DataFaultKind
refused_at [] end = end
refused_at (token ∷ tokens) end = BadForm

-- ---- the next token

unfoldable pub kind : Input → Option TokenKind
kind i = kind_at i.rest

unfoldable pub spelling : Input → List ℕ
spelling i = text_at i.rest

unfoldable pub next : Input → Input
next i = record { rest = behind i.rest; end = i.end }

-- why no rule reads it: the text has another token there, or it ends
unfoldable pub refusal : Input → DataFaultKind
refusal i = refused_at i.rest i.end

abbrev pub wanting_kind : DataFaultKind → DataFaultKind
wanting_kind Unended = WrongDimension
wanting_kind kind = kind

abbrev pub wanting_at : List Token → DataFaultKind → DataFaultKind
wanting_at [] end = wanting_kind end
wanting_at (token ∷ tokens) end = WrongDimension

-- why there are no subscripts where some are wanted: the next token is a bad one, or the dimension is wrong
unfoldable pub wanting : Input → DataFaultKind
wanting i = wanting_at i.rest i.end

-- ---- its kind

unfoldable pub same_kind : TokenKind → TokenKind → Bool
same_kind = sameb the_type

abbrev pub is_kind : TokenKind → Option TokenKind → Bool
is_kind wanted None = false
is_kind wanted (Some found) = same_kind found wanted

unfoldable pub sees : TokenKind → Input → Bool
sees wanted i = is_kind wanted (kind i)

-- `(tr)` and a colon, without quotes
abbrev pub transposes : List Token → Bool
transposes (bracket ∷ word ∷ close ∷ colon ∷ tokens) =
    is_kind k.OpenParenthesis (Some bracket.kind) && (is_kind k.Name (Some word.kind) && (bytes_eq word.text (codes "tr") && (is_kind k.CloseParenthesis (Some close.kind) && is_kind k.Colon (Some colon.kind))))
transposes _ = false

unfoldable pub sees_transposition : Input → Bool
sees_transposition i = transposes i.rest

-- the line of the next token, or the last one
unfoldable pub line : ℕ → Input → ℕ
line last i = line_at i.rest last
