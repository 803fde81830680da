-- The tokens of a data section, up to the first place where none can stand (GNU MathProg Language Reference, chapter on model
-- data: coding data section).
use Rattle.std.specs.Prelude.{ℕ, zero, suc, ◌+◌, ◌-◌, List, [], ◌∷◌, take, drop, None, Result, Ok, Err, if◌then◌else◌}
use Rattle.std.specs.List.{count_by}
use Rattle.std.specs.Str.{is_utf8}
use Rattle.rational.specs.Rational.{Rational}
use Rattle.fraction.specs.declared.read.ReadFault.{ReadFault}
use Rattle.fraction.specs.declared.read.ReadFault.TheVariants.{NotANumber, TooWide as TooWideNumber}
use Rattle.fraction.specs.Literal.{read_of}
use Rattle.gmpl_token.specs.declared.kind.TokenKind.{TokenKind}
use Rattle.gmpl_token.specs.declared.kind.TokenKind.TheVariants as k
use Rattle.gmpl_token.specs.declared.token.LexFaultKind.{LexFaultKind}
use Rattle.gmpl_token.specs.declared.token.LexFaultKind.TheVariants.{BadByte, TooWide}
use Rattle.gmpl_token.specs.Token.{Tokens}
use Rattle.gmpl_lexer.specs.declared.lexeme.LexemeKind.{LexemeKind}
use Rattle.gmpl_lexer.specs.declared.lexeme.LexemeKind.TheVariants as l
use Rattle.gmpl_lexer.specs.Bytes.{is_line_feed}
use Rattle.gmpl_lexer.specs.Tokens.{stopped}
use Rattle.gmpl_lexer.specs.Symbols.{data_lexeme_at}

-- ---- the kind of a token, or what is wrong with it

-- a bare symbol that is a literal with a sign or none is a number, which must fit; any other is a string
abbrev pub symbol_kind : Result Rational ReadFault → Result TokenKind LexFaultKind
symbol_kind (Ok value) = Ok k.NumericLiteral
symbol_kind (Err NotANumber) = Ok k.Name
symbol_kind (Err TooWideNumber) = Err TooWide

abbrev pub kind_by : TokenKind → List ℕ → Result TokenKind LexFaultKind
kind_by k.Name text = symbol_kind (read_of text)
kind_by kind text = Ok kind

-- of a token of these bytes, which are UTF-8
abbrev pub token_kind : TokenKind → List ℕ → Result TokenKind LexFaultKind
token_kind kind bytes = if is_utf8 bytes then kind_by kind bytes else Err BadByte

-- ---- from left to right

-- a token of this kind and text before others
abbrev pub with_kind : Result TokenKind LexFaultKind → ℕ → ℕ → List ℕ → Tokens → Tokens
with_kind (Err fault) at line text tokens = stopped at line fault
with_kind (Ok kind) at line text tokens = record { items = record { kind = kind; at = at; line = line; text = text } ∷ tokens.items; fault = tokens.fault }

-- what a lexeme of these bytes is, and then what `go` finds in a line
abbrev pub with_lexeme : LexemeKind → ℕ → ℕ → List ℕ → (ℕ → Tokens) → Tokens
with_lexeme l.Gap at line bytes go = go (line + count_by is_line_feed bytes)
with_lexeme (l.Token kind) at line bytes go = with_kind (token_kind kind bytes) at line bytes (go line)
with_lexeme (l.Bad kind) at line bytes go = stopped at line kind

-- the tokens from a place of a text on: how many bytes stand before it, and its line; so many bytes more are passed already
unfoldable pub tokens_from : ℕ → ℕ → ℕ → List ℕ → Tokens
tokens_from at line passed [] = record { items = []; fault = None }
tokens_from at line (suc passed) (b ∷ bs) = tokens_from (at + 1) line passed bs
tokens_from at line zero (b ∷ bs) =
    with_lexeme (data_lexeme_at (b ∷ bs)).kind at line (take (data_lexeme_at (b ∷ bs)).size (b ∷ bs))
    (λ next_line. tokens_from (at + 1) next_line ((data_lexeme_at (b ∷ bs)).size - 1) bs)

-- the tokens of the data that begin behind so many bytes of a text
abbrev pub data_tokens : ℕ → List ℕ → Tokens
data_tokens start text = tokens_from start (1 + count_by is_line_feed (take start text)) 0 (drop start text)
