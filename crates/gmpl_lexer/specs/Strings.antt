-- String literals and comments (GNU MathProg Language Reference, sections on string literals and comments).
use Rattle.std.specs.Prelude.{ℕ, ◌+◌, ◌==◌, ◌||◌, ◌&&◌, Bool, false, List, [], ◌∷◌, codes, if◌then◌else◌}
use Rattle.std.specs.List.{position_or_len}
use Rattle.gmpl_lexer.specs.Bytes.{byte, line_feed, is_line_feed, next_is}

-- how many bytes stand behind an opening quote, before the closing one or the line's end; a quote doubled is two of them
abbrev pub string_length : ℕ → List ℕ → ℕ
string_length quote [] = 0
string_length quote (b ∷ []) = if (b == quote) || (b == line_feed) then 0 else 1
string_length quote (b ∷ c ∷ bs) =
    if b == line_feed then 0
    else if b == quote then (if c == quote then 2 + string_length quote bs else 0)
    else 1 + string_length quote (c ∷ bs)

-- how many bytes stand before the end of the line
abbrev pub line_length : List ℕ → ℕ
line_length text = position_or_len is_line_feed text

-- `*/` comes next
abbrev pub closes_comment : List ℕ → Bool
closes_comment [] = false
closes_comment (b ∷ bs) = (b == byte (codes "*")) && next_is (byte (codes "/")) bs

-- how many bytes stand before the first `*/`
abbrev pub comment_length : List ℕ → ℕ
comment_length [] = 0
comment_length (b ∷ bs) = if closes_comment (b ∷ bs) then 0 else 1 + comment_length bs
