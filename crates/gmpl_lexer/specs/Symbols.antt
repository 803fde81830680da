-- What stands at a place of a data section (GNU MathProg Language Reference, chapter on model data: coding data section).
use Rattle.std.specs.Prelude.{ℕ, ◌+◌, ◌==◌, ◌||◌, Bool, false, not, List, [], ◌∷◌, Option, Some, None, if◌then◌else◌, codes}
use Rattle.std.specs.List.{position_or_len}
use Rattle.std.specs.Char.{is_ascii_alphanumeric}
use Rattle.gmpl_token.specs.declared.kind.TokenKind.{TokenKind}
use Rattle.gmpl_token.specs.declared.kind.TokenKind.TheVariants as k
use Rattle.gmpl_lexer.specs.declared.lexeme.Lexeme.{Lexeme}
use Rattle.gmpl_lexer.specs.Bytes.{byte, carriage_return, begins_with, is_blank, is_quote}
use Rattle.gmpl_lexer.specs.Lexemes.{gap, token, short_at, lexeme_at}

-- blanks, line ends, comments and strings are those of a model
abbrev pub is_as_in_models : ℕ → List ℕ → Bool
is_as_in_models b text = is_blank b || ((b == carriage_return) || ((b == byte (codes "#")) || (is_quote b || begins_with text (codes "/*"))))

-- a letter, a digit or one of `+ - . _`
abbrev pub is_symbol_byte : ℕ → Bool
is_symbol_byte b = is_ascii_alphanumeric b || ((b == byte (codes "+")) || ((b == byte (codes "-")) || ((b == byte (codes ".")) || (b == byte (codes "_")))))

abbrev pub is_no_symbol_byte : ℕ → Bool
is_no_symbol_byte b = not (is_symbol_byte b)

-- a bare symbol is the longest run of such bytes
abbrev pub symbol_at : List ℕ → Lexeme
symbol_at rest = token (1 + position_or_len is_no_symbol_byte rest) k.Name

abbrev pub delimiter : ℕ → Option TokenKind
delimiter b =
    if b == byte (codes ",") then Some k.Comma
    else if b == byte (codes ":") then Some k.Colon
    else if b == byte (codes ";") then Some k.Semicolon
    else if b == byte (codes "(") then Some k.OpenParenthesis
    else if b == byte (codes ")") then Some k.CloseParenthesis
    else if b == byte (codes "[") then Some k.OpenBracket
    else if b == byte (codes "]") then Some k.CloseBracket
    else if b == byte (codes "*") then Some k.Times
    else None

abbrev pub delimiter_at : ℕ → List ℕ → Lexeme
delimiter_at b text = if begins_with text (codes ":=") then token 2 k.Assign else short_at (delimiter b)

-- how many bytes it takes, and what it is
abbrev pub data_lexeme_at : List ℕ → Lexeme
data_lexeme_at [] = gap 1
data_lexeme_at (b ∷ bs) =
    if is_as_in_models b (b ∷ bs) then lexeme_at false (b ∷ bs)
    else if is_symbol_byte b then symbol_at bs
    else delimiter_at b (b ∷ bs)
