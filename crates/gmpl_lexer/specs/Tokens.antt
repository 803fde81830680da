-- The tokens of a model text, up to the first place where none can stand (GNU MathProg Language Reference, chapter on coding
-- model description).
use Rattle.std.specs.Prelude.{ℕ, zero, suc, ◌+◌, ◌-◌, Bool, true, false, List, [], ◌∷◌, ◌++◌, take, drop, Some, None, Result, Ok, Err, if◌then◌else◌}
use Rattle.std.specs.List.{count_by}
use Rattle.std.specs.Str.{is_utf8}
use Rattle.rational.specs.Rational.{Rational}
use Rattle.fraction.specs.declared.read.ReadFault.{ReadFault}
use Rattle.fraction.specs.declared.read.ReadFault.TheVariants.{NotANumber, TooWide as TooWideNumber}
use Rattle.fraction.specs.Literal.{read_of}
use Rattle.gmpl_token.specs.declared.kind.TokenKind.{TokenKind}
use Rattle.gmpl_token.specs.declared.kind.TokenKind.TheVariants as k
use Rattle.gmpl_token.specs.declared.token.LexFaultKind.{LexFaultKind}
use Rattle.gmpl_token.specs.declared.token.LexFaultKind.TheVariants.{BadByte, TooWide}
use Rattle.gmpl_token.specs.Token.{Token, Tokens}
use Rattle.gmpl_lexer.specs.declared.lexeme.LexemeKind.{LexemeKind}
use Rattle.gmpl_lexer.specs.declared.lexeme.LexemeKind.TheVariants as l
use Rattle.gmpl_lexer.specs.Bytes.{is_line_feed, is_before_name}
use Rattle.gmpl_lexer.specs.Lexemes.{lexeme_at}

-- ---- the text of a token, or what is wrong with it

-- a number fits, and no letter follows it at once
abbrev pub number_text : Result Rational ReadFault → List ℕ → List ℕ → Result (List ℕ) LexFaultKind
number_text (Err TooWideNumber) text after = Err TooWide
number_text (Err NotANumber) text after = if is_before_name after then Err BadByte else Ok text
number_text (Ok value) text after = if is_before_name after then Err BadByte else Ok text

abbrev pub text_by_kind : TokenKind → List ℕ → List ℕ → Result (List ℕ) LexFaultKind
text_by_kind k.NumericLiteral text after = number_text (read_of text) text after
text_by_kind kind text after = Ok text

-- of a token of this kind, of these bytes and with these after it; a token is UTF-8
abbrev pub token_text : TokenKind → List ℕ → List ℕ → Result (List ℕ) LexFaultKind
token_text kind bytes after = if is_utf8 bytes then text_by_kind kind bytes after else Err BadByte

-- ---- from left to right

-- a statement may begin behind `;`, and behind the `}` that closes a `for`
abbrev pub begins_behind : TokenKind → Bool
begins_behind k.Semicolon = true
begins_behind k.CloseBrace = true
begins_behind _ = false

-- no more tokens, since none can stand here
abbrev pub stopped : ℕ → ℕ → LexFaultKind → Tokens
stopped at line kind = record { items = []; fault = Some (record { at = at; line = line; kind = kind }) }

-- a token of this text before others
abbrev pub with_text : TokenKind → ℕ → ℕ → Result (List ℕ) LexFaultKind → Tokens → Tokens
with_text kind at line (Err fault) tokens = stopped at line fault
with_text kind at line (Ok text) tokens = record { items = record { kind = kind; at = at; line = line; text = text } ∷ tokens.items; fault = tokens.fault }

-- what a lexeme of these bytes is, with these after it, and then what `go` finds in a line, where a statement may begin or not
abbrev pub with_lexeme : LexemeKind → Bool → ℕ → ℕ → List ℕ → List ℕ → (Bool → ℕ → Tokens) → Tokens
with_lexeme l.Gap begins at line bytes after go = go begins (line + count_by is_line_feed bytes)
with_lexeme (l.Token kind) begins at line bytes after go = with_text kind at line (token_text kind bytes after) (go (begins_behind kind) line)
with_lexeme (l.Bad kind) begins at line bytes after go = stopped at line kind

-- the tokens from a place of a text on: how many bytes stand before it, its line, and whether a statement may begin there; so
-- many bytes more are passed already
unfoldable pub tokens_from : Bool → ℕ → ℕ → ℕ → List ℕ → Tokens
tokens_from begins at line passed [] = record { items = []; fault = None }
tokens_from begins at line (suc passed) (b ∷ bs) = tokens_from begins (at + 1) line passed bs
tokens_from begins at line zero (b ∷ bs) =
    with_lexeme (lexeme_at begins (b ∷ bs)).kind begins at line
    (take (lexeme_at begins (b ∷ bs)).size (b ∷ bs)) (drop (lexeme_at begins (b ∷ bs)).size (b ∷ bs))
    (λ begins_next next_line. tokens_from begins_next (at + 1) next_line ((lexeme_at begins (b ∷ bs)).size - 1) bs)

-- the tokens of a text
abbrev pub tokens_of : List ℕ → Tokens
tokens_of text = tokens_from true 0 1 0 text

-- tokens, then those of the rest
abbrev pub followed_by : List Token → Tokens → Tokens
followed_by items more = record { items = items ++ more.items; fault = more.fault }
