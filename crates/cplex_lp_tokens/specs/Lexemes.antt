-- The words and marks of a CPLEX LP text (GLPK Reference Manual, appendix on the CPLEX LP format: names, numbers, relations).
use Rattle.std.specs.Prelude.{ℕ, ◌+◌, ◌==◌, ◌&&◌, ◌||◌, not, Bool, false, List, [], ◌∷◌, codes, drop, Some, None, if◌then◌else◌, true}
use Rattle.std.specs.List.{position_or_len}
use Rattle.std.specs.Char.{is_ascii_digit, is_ascii_alphanumeric}
use Rattle.model_text.specs.Bytes.{is_one_of}
use Rattle.model_text.specs.Literals.{digits, places_length, with_exponent}
use Rattle.cplex_lp_tokens.specs.declared.lexeme.Lexeme.{Lexeme}
use Rattle.cplex_lp_tokens.specs.declared.token.TokenKind.{TokenKind}
use Rattle.cplex_lp_tokens.specs.declared.token.TokenKind.TheVariants.{Word, Literal, Plus, Minus, Colon, Compared, Stray}
use Rattle.cplex_lp_tokens.specs.declared.token.Relation.{Relation}
use Rattle.cplex_lp_tokens.specs.declared.token.Relation.TheVariants.{AtMost, AtLeast, Exactly}

-- ---- bytes

abbrev pub is_blank : ℕ → Bool
is_blank b = is_one_of (codes " \t") b

-- the marks of names
abbrev pub is_name_mark : ℕ → Bool
is_name_mark b = is_one_of (codes "!\"#$%&/(),.;?@_`'{}|~") b

-- letters, digits and marks
abbrev pub is_name_byte : ℕ → Bool
is_name_byte b = is_ascii_alphanumeric b || is_name_mark b

-- a name begins with neither a digit nor a point
abbrev pub begins_name : ℕ → Bool
begins_name b = is_name_byte b && not (is_ascii_digit b || is_one_of (codes ".") b)

-- ---- lengths

abbrev pub is_no_name_byte : ℕ → Bool
is_no_name_byte b = not (is_name_byte b)

-- how many bytes of a name stand at the start
abbrev pub name_bytes : List ℕ → ℕ
name_bytes text = position_or_len is_no_name_byte text

-- the length of the digits and point at the start: digits with a point or none, or a point and digits
abbrev pub mantissa_length : List ℕ → ℕ
mantissa_length text = digits text + places_length (digits text) (drop (digits text) text)

-- the length of the longest number at the start without sign; 0 where there is none
abbrev pub literal_length : List ℕ → ℕ
literal_length text = with_exponent (mantissa_length text) text

-- ---- what stands at the start of a text

abbrev pub next_is : List ℕ → List ℕ → Bool
next_is wanted [] = false
next_is wanted (b ∷ bs) = is_one_of wanted b

abbrev pub mark : ℕ → TokenKind → Lexeme
mark size kind = record { size = size; kind = Some kind }

-- a relation, of one byte or of two
abbrev pub compared : Relation → Bool → Lexeme
compared relation two = mark (if two then 2 else 1) (Compared relation)

-- = and =< and =>
abbrev pub equality_at : List ℕ → Lexeme
equality_at bs =
    if next_is (codes "<") bs then compared AtMost true
    else if next_is (codes ">") bs then compared AtLeast true
    else compared Exactly false

-- < and <=, > and >=, those of =, and a byte that begins nothing
abbrev pub relation_at : ℕ → List ℕ → Lexeme
relation_at b bs =
    if is_one_of (codes "<") b then compared AtMost (next_is (codes "=") bs)
    else if is_one_of (codes ">") b then compared AtLeast (next_is (codes "=") bs)
    else if is_one_of (codes "=") b then equality_at bs
    else mark 1 Stray

abbrev pub mark_at : ℕ → List ℕ → Lexeme
mark_at b bs =
    if is_one_of (codes "+") b then mark 1 Plus
    else if is_one_of (codes "-") b then mark 1 Minus
    else if is_one_of (codes ":") b then mark 1 Colon
    else relation_at b bs

abbrev pub literal_or_mark : List ℕ → ℕ → List ℕ → Lexeme
literal_or_mark text b bs = if literal_length text == 0 then mark_at b bs else mark (literal_length text) Literal

-- how many bytes it takes, and the kind of token; a blank is none
abbrev pub lexeme_at : List ℕ → Lexeme
lexeme_at [] = record { size = 1; kind = None }
lexeme_at (b ∷ bs) =
    if is_blank b then record { size = 1; kind = None }
    else if begins_name b then mark (1 + name_bytes bs) Word
    else literal_or_mark (b ∷ bs) b bs
