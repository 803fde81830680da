-- The texts of symbols, and the names of members.
use Rattle.std.specs.Prelude.{ℕ, Bool, false, ◌&&◌, ◌||◌, ◌==◌, codes, List, [], ◌∷◌, ◌++◌, if◌then◌else◌}
use Rattle.std.specs.List.{list_all}
use Rattle.std.specs.Char.{is_ascii_alphabetic, is_ascii_alphanumeric}
use Rattle.fraction.specs.Text.{text_of}
use Rattle.gmpl_value.specs.declared.symbol.Symbol.{Symbol}
use Rattle.gmpl_value.specs.declared.symbol.Symbol.TheVariants.{Number, Word}

abbrev pub byte : List ℕ → ℕ
byte [] = 0
byte (c ∷ cs) = c

abbrev pub is_quote : ℕ → Bool
is_quote c = c == byte (codes "'")

-- a letter or an underscore
abbrev pub begins_bare : ℕ → Bool
begins_bare c = is_ascii_alphabetic c || (c == byte (codes "_"))

-- a letter, a digit, or one of `+-._`
abbrev pub goes_on_bare : ℕ → Bool
goes_on_bare c =
    is_ascii_alphanumeric c || ((c == byte (codes "+")) || ((c == byte (codes "-")) || ((c == byte (codes ".")) || (c == byte (codes "_")))))

-- a letter, a digit or an underscore
abbrev pub is_name_byte : ℕ → Bool
is_name_byte c = is_ascii_alphanumeric c || (c == byte (codes "_"))

-- a string that needs no quotes
abbrev pub is_bare : List ℕ → Bool
is_bare [] = false
is_bare (c ∷ cs) = begins_bare c && list_all goes_on_bare cs

-- each quote twice
abbrev pub doubled : List ℕ → List ℕ
doubled [] = []
doubled (c ∷ cs) = if is_quote c then c ∷ c ∷ doubled cs else c ∷ doubled cs

abbrev pub quoted : List ℕ → List ℕ
quoted text = codes "'" ++ (doubled text ++ codes "'")

abbrev pub word_text : List ℕ → List ℕ
word_text text = if is_bare text then text else quoted text

-- a number as `n` or `n/d`, a string bare or in quotes
abbrev pub symbol_text : Symbol → List ℕ
symbol_text (Number q) = text_of q
symbol_text (Word text) = word_text text

-- what stands behind the first subscript
abbrev pub further : List Symbol → List ℕ
further [] = codes "]"
further (s ∷ ss) = codes "," ++ (symbol_text s ++ further ss)

-- `N`, or `N[s1,s2]`
abbrev pub member_name : List ℕ → List Symbol → List ℕ
member_name name [] = name
member_name name (s ∷ ss) = name ++ (codes "[" ++ (symbol_text s ++ further ss))
