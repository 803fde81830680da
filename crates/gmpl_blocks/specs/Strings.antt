-- What a string says (GNU MathProg Language Reference, section on string literals).
use Rattle.std.specs.Prelude.{ℕ, ◌==◌, Bool, true, false, List, [], ◌∷◌, Some, None, if◌then◌else◌}
use Rattle.std.specs.declared.option.Option.{Option}
use Rattle.std.specs.Str.{is_utf8}

-- behind an opening quote: a quote doubled stands for itself, and one alone ends the string; the second argument tells whether
-- a quote has just been passed that may be the first of two
abbrev pub quoted : ℕ → Bool → List ℕ → List ℕ
quoted quote half [] = []
quoted quote false (b ∷ bs) = if b == quote then quoted quote true bs else b ∷ quoted quote false bs
quoted quote true (b ∷ bs) = if b == quote then b ∷ quoted quote false bs else []

abbrev pub string_bytes : List ℕ → List ℕ
string_bytes [] = []
string_bytes (quote ∷ bs) = quoted quote false bs

abbrev pub utf8_text : List ℕ → Option (List ℕ)
utf8_text bytes = if is_utf8 bytes then Some bytes else None

-- what a string says: UTF-8, as each string among the tokens of a text is
abbrev pub string_text : List ℕ → Option (List ℕ)
string_text text = utf8_text (string_bytes text)
