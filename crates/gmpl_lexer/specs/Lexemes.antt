-- What stands at a place of a model text (GNU MathProg Language Reference, chapter on coding model description).
use Rattle.std.specs.Prelude.{ℕ, ◌+◌, ◌==◌, ◌&&◌, Bool, List, [], ◌∷◌, take, drop, Some, None, if◌then◌else◌, codes}
use Rattle.std.specs.declared.option.Option.{Option}
use Rattle.std.specs.List.{position_or_len}
use Rattle.std.specs.Str.{is_utf8}
use Rattle.gmpl_token.specs.declared.kind.TokenKind.{TokenKind}
use Rattle.gmpl_token.specs.declared.kind.TokenKind.TheVariants.{SubjectTo, NumericLiteral, StringLiteral}
use Rattle.gmpl_token.specs.declared.token.LexFaultKind.{LexFaultKind}
use Rattle.gmpl_token.specs.declared.token.LexFaultKind.TheVariants.{BadByte, UnendedString, UnendedComment}
use Rattle.gmpl_lexer.specs.declared.lexeme.Lexeme.{Lexeme}
use Rattle.gmpl_lexer.specs.declared.lexeme.LexemeKind.TheVariants.{Gap, Token, Bad}
use Rattle.gmpl_lexer.specs.Bytes.{byte, carriage_return, line_feed, next_is, begins_with, is_blank, is_quote, begins_name, is_no_name_byte}
use Rattle.gmpl_lexer.specs.Words.{long_delimiter, short_delimiter, name_kind}
use Rattle.gmpl_lexer.specs.Numbers.{literal_length}
use Rattle.gmpl_lexer.specs.Strings.{string_length, line_length, closes_comment, comment_length}

-- blanks, a line's end or a comment, of so many bytes
abbrev pub gap : ℕ → Lexeme
gap size = record { size = size; kind = Gap }

abbrev pub token : ℕ → TokenKind → Lexeme
token size kind = record { size = size; kind = Token kind }

-- no token can stand here
abbrev pub bad : LexFaultKind → Lexeme
bad kind = record { size = 1; kind = Bad kind }

-- ---- names

-- a letter or `_`, then letters, digits and `_`
abbrev pub name_at : List ℕ → List ℕ → Lexeme
name_at text rest = token (1 + position_or_len is_no_name_byte rest) (name_kind (take (1 + position_or_len is_no_name_byte rest) text))

-- `s.t.` is one token where a statement begins
abbrev pub word_at : Bool → List ℕ → List ℕ → Lexeme
word_at begins text rest = if begins && begins_with text (codes "s.t.") then token 4 SubjectTo else name_at text rest

-- ---- delimiters, the longer ones first

abbrev pub short_at : Option TokenKind → Lexeme
short_at (Some kind) = token 1 kind
short_at None = bad BadByte

abbrev pub long_at : Option TokenKind → ℕ → Lexeme
long_at (Some kind) first = token 2 kind
long_at None first = short_at (short_delimiter first)

abbrev pub delimiter_at : List ℕ → ℕ → Lexeme
delimiter_at text first = long_at (long_delimiter text) first

-- ---- literals and comments

abbrev pub literal_or_delimiter : List ℕ → ℕ → Lexeme
literal_or_delimiter text first =
    if literal_length text == 0 then delimiter_at text first else token (literal_length text) NumericLiteral

-- behind a quote, before whose fellow so many bytes stand: a string ends on its line
abbrev pub string_of : ℕ → ℕ → List ℕ → Lexeme
string_of quote size text =
    if next_is quote (drop size text) then token (size + 2) StringLiteral
    else if is_utf8 (take size text) then bad UnendedString
    else bad BadByte

abbrev pub string_at : ℕ → List ℕ → Lexeme
string_at quote text = string_of quote (string_length quote text) text

-- behind `/*`, where so many bytes stand before `*/`
abbrev pub comment_of : ℕ → List ℕ → Lexeme
comment_of size text = if closes_comment (drop size text) then gap (size + 4) else bad UnendedComment

abbrev pub comment_or_other : List ℕ → ℕ → Lexeme
comment_or_other text first =
    if begins_with text (codes "/*") then comment_of (comment_length (drop 2 text)) (drop 2 text)
    else literal_or_delimiter text first

-- ---- what stands at the start of a text

-- behind a carriage return, which a line feed must follow
abbrev pub line_end : List ℕ → Lexeme
line_end rest = if next_is line_feed rest then gap 2 else bad BadByte

-- how many bytes it takes, and what it is; `begins` tells whether a statement may begin there
abbrev pub lexeme_at : Bool → List ℕ → Lexeme
lexeme_at begins [] = gap 1
lexeme_at begins (b ∷ bs) =
    if is_blank b then gap 1
    else if b == carriage_return then line_end bs
    else if b == byte (codes "#") then gap (1 + line_length bs)
    else if is_quote b then string_at b bs
    else if begins_name b then word_at begins (b ∷ bs) bs
    else comment_or_other (b ∷ bs) b
