-- What literals say (GNU MathProg Language Reference, sections on numeric literals and on string literals).
use Rattle.std.specs.Prelude.{ℕ, ◌==◌, Bool, true, false, List, [], ◌∷◌, Some, None, Result, Ok, Err, if◌then◌else◌}
use Rattle.std.specs.declared.option.Option.{Option}
use Rattle.std.specs.Str.{is_utf8}
use Rattle.rational.specs.Rational.{Rational}
use Rattle.fraction.specs.declared.read.ReadFault.{ReadFault}
use Rattle.fraction.specs.Literal.{read_of}
use Rattle.gmpl_input.specs.Rules.{Rule, ◌>>=◌, ◌>>◌, pure, refuse, ahead, take_token, given}

-- ---- numbers

abbrev pub numbered : Result Rational ReadFault → Rule Rational
numbered (Ok value) = take_token >> pure value
numbered (Err fault) = refuse

-- a number that fits, as each number among the tokens of a text does
unfoldable pub number : Rule Rational
number = ahead >>= (λ text. numbered (read_of text))

-- ---- strings

-- behind an opening quote: a quote doubled stands for itself, and one alone ends the string; the second argument tells whether
-- a quote has just been passed that may be the first of two
abbrev pub quoted : ℕ → Bool → List ℕ → List ℕ
quoted quote half [] = []
quoted quote false (b ∷ bs) = if b == quote then quoted quote true bs else b ∷ quoted quote false bs
quoted quote true (b ∷ bs) = if b == quote then b ∷ quoted quote false bs else []

abbrev pub string_bytes : List ℕ → List ℕ
string_bytes [] = []
string_bytes (quote ∷ bs) = quoted quote false bs

abbrev pub utf8_text : List ℕ → Option (List ℕ)
utf8_text bytes = if is_utf8 bytes then Some bytes else None

-- what a string says: UTF-8, as each string among the tokens of a text is
abbrev pub string_text : List ℕ → Option (List ℕ)
string_text text = utf8_text (string_bytes text)

unfoldable pub string : Rule (List ℕ)
string = ahead >>= (λ text. given (string_text text) (λ said. take_token >> pure said) refuse)
