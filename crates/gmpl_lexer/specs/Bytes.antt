-- Bytes of a model text.
use Rattle.std.specs.Prelude.{ℕ, ◌==◌, ◌||◌, nat_eq, not, Bool, false, List, [], ◌∷◌, codes}
use Rattle.std.specs.List.{starts_with}
use Rattle.std.specs.Char.{is_ascii_alphanumeric, is_ascii_alphabetic}

-- the byte of a text of one
abbrev pub byte : List ℕ → ℕ
byte [] = 0
byte (b ∷ bs) = b

abbrev pub line_feed : ℕ
line_feed = byte (codes "\n")

abbrev pub carriage_return : ℕ
carriage_return = byte (codes "\r")

-- the next byte is this one
abbrev pub next_is : ℕ → List ℕ → Bool
next_is wanted [] = false
next_is wanted (b ∷ bs) = b == wanted

-- the text begins with this word
abbrev pub begins_with : List ℕ → List ℕ → Bool
begins_with text word = starts_with nat_eq text word

-- blank, tab, line feed
abbrev pub is_blank : ℕ → Bool
is_blank b = (b == byte (codes " ")) || ((b == byte (codes "\t")) || (b == line_feed))

-- either quote
abbrev pub is_quote : ℕ → Bool
is_quote b = (b == byte (codes "\"")) || (b == byte (codes "'"))

-- a letter or `_`
abbrev pub begins_name : ℕ → Bool
begins_name b = is_ascii_alphabetic b || (b == byte (codes "_"))

-- neither a letter nor a digit nor `_`
abbrev pub is_no_name_byte : ℕ → Bool
is_no_name_byte b = not (is_ascii_alphanumeric b || (b == byte (codes "_")))

-- a letter or `_` comes next
abbrev pub is_before_name : List ℕ → Bool
is_before_name [] = false
is_before_name (b ∷ bs) = begins_name b

abbrev pub is_line_feed : ℕ → Bool
is_line_feed b = b == line_feed
