-- The tokens of a CPLEX LP text (GLPK Reference Manual, appendix on the CPLEX LP format: comments, section words).
use Rattle.std.specs.Prelude.{ℕ, ◌+◌, ◌-◌, ◌&&◌, ◌||◌, Bool, true, false, zero, suc, List, [], ◌∷◌, ◌++◌, take, codes, Some, None, if◌then◌else◌}
use Rattle.std.specs.declared.option.Option.{Option}
use Rattle.std.specs.List.{position_or_len}
use Rattle.std.specs.Str.{str_eq_ignore_ascii_case, is_utf8}
use Rattle.model_text.specs.Lines.{lines_of}
use Rattle.model_text.specs.Bytes.{is_one_of}
use Rattle.cplex_lp_tokens.specs.declared.token.TokenKind.{TokenKind}
use Rattle.cplex_lp_tokens.specs.declared.token.TokenKind.TheVariants.{SectionWords, Word, Colon, Stray}
use Rattle.cplex_lp_tokens.specs.declared.token.Section.{Section}
use Rattle.cplex_lp_tokens.specs.declared.token.Section.TheVariants.{Minimize, Maximize, Constraints, Bounds, General, Binary, End}
use Rattle.cplex_lp_tokens.specs.Lexemes.{lexeme_at}

-- with the number of its line
pub record Token : Type 0 where
  pub line : ℕ
  pub kind : TokenKind
  pub text : List ℕ

abbrev pub is_comment_mark : ℕ → Bool
is_comment_mark b = is_one_of (codes "\\") b

-- a comment begins with `\` and goes on to the line's end
abbrev pub without_comment : List ℕ → List ℕ
without_comment text = take (position_or_len is_comment_mark text) text

-- a stray byte that isn't UTF-8 is kept without text
abbrev pub kept_text : List ℕ → List ℕ
kept_text text = if is_utf8 text then text else []

-- ---- from left to right

-- a token of these bytes before others; a blank is none
abbrev pub with_lexeme : ℕ → Option TokenKind → List ℕ → List Token → List Token
with_lexeme line None text tokens = tokens
with_lexeme line (Some kind) text tokens = record { line = line; kind = kind; text = kept_text text } ∷ tokens

-- the tokens of a line, of whose first token so many bytes are passed already
abbrev pub tokens_after : ℕ → ℕ → List ℕ → List Token
tokens_after line skipped [] = []
tokens_after line (suc skipped) (b ∷ bs) = tokens_after line skipped bs
tokens_after line zero (b ∷ bs) =
    with_lexeme line (lexeme_at (b ∷ bs)).kind (take (lexeme_at (b ∷ bs)).size (b ∷ bs)) (tokens_after line ((lexeme_at (b ∷ bs)).size - 1) bs)

-- ---- section words, in any case and as first token of a line

abbrev pub is_word : List ℕ → List ℕ → Bool
is_word text word = str_eq_ignore_ascii_case text word

abbrev pub begins_minimum : List ℕ → Bool
begins_minimum text = is_word text (codes "minimize") || (is_word text (codes "minimum") || is_word text (codes "min"))

abbrev pub begins_maximum : List ℕ → Bool
begins_maximum text = is_word text (codes "maximize") || (is_word text (codes "maximum") || is_word text (codes "max"))

abbrev pub begins_rows : List ℕ → Bool
begins_rows text = is_word text (codes "st") || (is_word text (codes "s.t.") || is_word text (codes "st."))

abbrev pub begins_bounds : List ℕ → Bool
begins_bounds text = is_word text (codes "bounds") || is_word text (codes "bound")

abbrev pub begins_general : List ℕ → Bool
begins_general text = is_word text (codes "general") || (is_word text (codes "generals") || is_word text (codes "gen"))

abbrev pub begins_integer : List ℕ → Bool
begins_integer text = is_word text (codes "integer") || (is_word text (codes "integers") || is_word text (codes "int"))

abbrev pub begins_binary : List ℕ → Bool
begins_binary text = is_word text (codes "binary") || (is_word text (codes "binaries") || is_word text (codes "bin"))

-- the section that one word begins
abbrev pub section_of : List ℕ → Option Section
section_of text =
    if begins_minimum text then Some Minimize
    else if begins_maximum text then Some Maximize
    else if begins_rows text then Some Constraints
    else if begins_bounds text then Some Bounds
    else if begins_general text then Some General
    else if begins_integer text then Some General
    else if begins_binary text then Some Binary
    else if is_word text (codes "end") then Some End
    else None

-- `subject to`, `such that`
abbrev pub begins_constraints : List ℕ → List ℕ → Bool
begins_constraints first second =
    (is_word first (codes "subject") && is_word second (codes "to")) || (is_word first (codes "such") && is_word second (codes "that"))

abbrev pub is_name : TokenKind → Bool
is_name Word = true
is_name kind = false

-- a token made the words of a section
abbrev pub as_section : Section → Token → Token
as_section section t = record t { kind = SectionWords section }

abbrev pub begins_with_section : List Token → Option Section
begins_with_section [] = None
begins_with_section (t ∷ ts) = if is_name t.kind then section_of t.text else None

abbrev pub begins_with_two_words : List Token → Bool
begins_with_two_words (t ∷ u ∷ ts) = (is_name t.kind && is_name u.kind) && begins_constraints t.text u.text
begins_with_two_words tokens = false

abbrev pub with_first_as : Section → List Token → List Token
with_first_as section [] = []
with_first_as section (t ∷ ts) = as_section section t ∷ ts

abbrev pub without_second : List Token → List Token
without_second (t ∷ u ∷ ts) = t ∷ ts
without_second tokens = tokens

abbrev pub with_found : Option Section → List Token → List Token
with_found None tokens = tokens
with_found (Some section) tokens = with_first_as section tokens

-- the tokens of a line, of which the first one or two may be the words of a section
abbrev pub with_section : List Token → List Token
with_section tokens =
    if begins_with_two_words tokens then with_first_as Constraints (without_second tokens)
    else with_found (begins_with_section tokens) tokens

-- ---- words of parts that are left out: semicontinuous columns, special ordered sets

abbrev pub is_left_out : List ℕ → Bool
is_left_out text =
    (is_word text (codes "semi") || is_word text (codes "semis"))
    || (is_word text (codes "sos") || (is_word text (codes "sos1") || is_word text (codes "sos2")))

-- of a section after the constraints
abbrev pub is_later_section : Section → Bool
is_later_section Bounds = true
is_later_section General = true
is_later_section Binary = true
is_later_section section = false

abbrev pub is_later : TokenKind → Bool
is_later (SectionWords section) = is_later_section section
is_later kind = false

-- such a section begins with the line of these tokens
abbrev pub begins_later : List Token → Bool
begins_later [] = false
begins_later (t ∷ ts) = is_later t.kind

-- a word that may not stand where it does
abbrev pub as_stray : Token → Token
as_stray t = record t { kind = Stray }

-- behind the constraints no line begins with such a word
abbrev pub without_left_out : Bool → List Token → List Token
without_left_out later [] = []
without_left_out later (t ∷ ts) = if later && (is_name t.kind && is_left_out t.text) then as_stray t ∷ ts else t ∷ ts

-- ---- texts

-- the tokens of a line, where a section after the constraints has begun before it or not
abbrev pub tokens_of_line : Bool → ℕ → List ℕ → List Token
tokens_of_line later line text = without_left_out later (with_section (tokens_after line 0 (without_comment text)))

-- the tokens of lines, of which the first has this number
abbrev pub tokens_of_lines : Bool → ℕ → List (List ℕ) → List Token
tokens_of_lines later line [] = []
tokens_of_lines later line (text ∷ texts) =
    tokens_of_line later line text ++ tokens_of_lines (later || begins_later (tokens_of_line later line text)) (line + 1) texts

abbrev pub tokens_of : List ℕ → List Token
tokens_of text = tokens_of_lines false 1 (lines_of text)

-- ---- the token that comes next

abbrev pub is_colon : TokenKind → Bool
is_colon Colon = true
is_colon kind = false

abbrev pub is_before_colon : List Token → Bool
is_before_colon [] = false
is_before_colon (t ∷ ts) = is_colon t.kind

abbrev pub is_before_name : List Token → Bool
is_before_name [] = false
is_before_name (t ∷ ts) = is_name t.kind
