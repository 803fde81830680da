-- Delimiters and reserved names (GNU MathProg Language Reference, chapter on coding model description: delimiters, keywords).
use Rattle.std.specs.Prelude.{ℕ, ◌==◌, List, Option, Some, None, if◌then◌else◌, codes}
use Rattle.std.specs.Str.{bytes_eq}
use Rattle.gmpl_token.specs.declared.kind.TokenKind.{TokenKind}
use Rattle.gmpl_token.specs.declared.kind.TokenKind.TheVariants as k
use Rattle.gmpl_lexer.specs.Bytes.{byte, begins_with}

-- the delimiter of two bytes with which a text begins
abbrev pub long_delimiter : List ℕ → Option TokenKind
long_delimiter text =
    if begins_with text (codes "**") then Some k.Power
    else if begins_with text (codes "..") then Some k.DotDot
    else if begins_with text (codes ":=") then Some k.Assign
    else if begins_with text (codes "<=") then Some k.AtMost
    else if begins_with text (codes ">=") then Some k.AtLeast
    else if begins_with text (codes "<>") then Some k.Unequal
    else if begins_with text (codes "!=") then Some k.Unequal
    else if begins_with text (codes "==") then Some k.Equal
    else if begins_with text (codes "&&") then Some k.And
    else if begins_with text (codes "||") then Some k.Or
    else if begins_with text (codes "<-") then Some k.Arrow
    else None

-- the brackets, and what parts a list
abbrev pub bracket : ℕ → Option TokenKind
bracket b =
    if b == byte (codes "(") then Some k.OpenParenthesis
    else if b == byte (codes ")") then Some k.CloseParenthesis
    else if b == byte (codes "[") then Some k.OpenBracket
    else if b == byte (codes "]") then Some k.CloseBracket
    else if b == byte (codes "{") then Some k.OpenBrace
    else if b == byte (codes "}") then Some k.CloseBrace
    else if b == byte (codes ".") then Some k.Point
    else if b == byte (codes ",") then Some k.Comma
    else if b == byte (codes ":") then Some k.Colon
    else if b == byte (codes ";") then Some k.Semicolon
    else if b == byte (codes "~") then Some k.Tilde
    else None

-- the delimiter of one byte
abbrev pub short_delimiter : ℕ → Option TokenKind
short_delimiter b =
    if b == byte (codes "+") then Some k.Plus
    else if b == byte (codes "-") then Some k.Minus
    else if b == byte (codes "*") then Some k.Times
    else if b == byte (codes "/") then Some k.Over
    else if b == byte (codes "^") then Some k.Power
    else if b == byte (codes "&") then Some k.Join
    else if b == byte (codes "<") then Some k.Below
    else if b == byte (codes ">") then Some k.Above
    else if b == byte (codes "=") then Some k.Equal
    else if b == byte (codes "!") then Some k.Not
    else bracket b

-- the kind of a name, which may be reserved
abbrev pub name_kind : List ℕ → TokenKind
name_kind text =
    if bytes_eq text (codes "and") then k.And
    else if bytes_eq text (codes "by") then k.By
    else if bytes_eq text (codes "cross") then k.Cross
    else if bytes_eq text (codes "diff") then k.Diff
    else if bytes_eq text (codes "div") then k.Div
    else if bytes_eq text (codes "else") then k.Else
    else if bytes_eq text (codes "if") then k.If
    else if bytes_eq text (codes "in") then k.In
    else if bytes_eq text (codes "inter") then k.Inter
    else if bytes_eq text (codes "less") then k.Less
    else if bytes_eq text (codes "mod") then k.Mod
    else if bytes_eq text (codes "not") then k.Not
    else if bytes_eq text (codes "or") then k.Or
    else if bytes_eq text (codes "symdiff") then k.Symdiff
    else if bytes_eq text (codes "then") then k.Then
    else if bytes_eq text (codes "union") then k.Union
    else if bytes_eq text (codes "within") then k.Within
    else k.Name
