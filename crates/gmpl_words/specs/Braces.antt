-- Whether braces behind `check`, `display` and `printf` are the statement's domain or begin its first expression (GNU MathProg
-- Language Reference, chapter on statements: check, display and printf statement).
use Rattle.std.specs.Prelude.{ℕ, ◌+◌, ◌-◌, Bool, true, false, not, ◌||◌, nat_lt, if◌then◌else◌, List, [], ◌∷◌, Option, Some}
use Rattle.gmpl_token.specs.declared.kind.TokenKind.{TokenKind}
use Rattle.gmpl_token.specs.declared.kind.TokenKind.TheVariants as k
use Rattle.gmpl_token.specs.Token.{Token}
use Rattle.gmpl_input.specs.Input.{kind_at, behind, is_kind, same_kind}

-- what stands behind the brace that closes the first one, where so many are open
abbrev pub behind_braces : ℕ → List Token → List Token
behind_braces depth [] = []
behind_braces depth (token ∷ tokens) =
    if same_kind token.kind k.OpenBrace then behind_braces (depth + 1) tokens
    else if same_kind token.kind k.CloseBrace then (if nat_lt depth 2 then tokens else behind_braces (depth - 1) tokens)
    else behind_braces depth tokens

-- `not` begins an expression unless a set's relation follows
abbrev pub is_denial : Option TokenKind → Bool
is_denial second = is_kind k.In second || is_kind k.Within second

-- a colon, or what an expression begins with, where these two tokens come next
abbrev pub begins_rest : Option TokenKind → Option TokenKind → Bool
begins_rest (Some k.Colon) second = true
begins_rest (Some k.NumericLiteral) second = true
begins_rest (Some k.StringLiteral) second = true
begins_rest (Some k.Name) second = true
begins_rest (Some k.OpenParenthesis) second = true
begins_rest (Some k.OpenBrace) second = true
begins_rest (Some k.If) second = true
begins_rest (Some k.Plus) second = true
begins_rest (Some k.Minus) second = true
begins_rest (Some k.Not) second = not (is_denial second)
begins_rest _ second = false

abbrev pub begins_at : List Token → Bool
begins_at tokens = begins_rest (kind_at tokens) (kind_at (behind tokens))

-- the braces that come next are a domain, and no expression; `{}` never is one
abbrev pub is_domain : List Token → Bool
is_domain tokens = if is_kind k.CloseBrace (kind_at (behind tokens)) then false else begins_at (behind_braces 0 tokens)
