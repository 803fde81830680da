-- The functions on strings.
use Rattle.std.specs.Prelude.{ℕ, ℤ, pos, ◌-◌, ◌+ℤ◌, ◌-ℤ◌, ◌&&◌, cond, int_le, unsigned_abs, Ok, Err, List, ◌++◌, length, take, drop}
use Rattle.std.specs.Str.{chars, encode_utf8_all}
use Rattle.rational.specs.Rational.{Rational, whole}
use Rattle.rational.specs.Compare.{is_whole}
use Rattle.fraction.specs.Text.{text_of}
use Rattle.gmpl_value.specs.declared.symbol.Symbol.{Symbol}
use Rattle.gmpl_value.specs.declared.symbol.Symbol.TheVariants.{Number, Word}
use Rattle.gmpl_value.specs.declared.eval_fault.EvalFault.TheVariants.{NotWhole, OutOfDomain}
use Rattle.gmpl_value.specs.Outcome.{Outcome}

-- a number as `n` or `n/d`, a string as it is
abbrev pub plain_text : Symbol → List ℕ
plain_text (Number q) = text_of q
plain_text (Word text) = text

-- the operator `&`
abbrev pub joined_texts : Symbol → Symbol → Symbol
joined_texts a b = Word (plain_text a ++ plain_text b)

abbrev pub characters : Symbol → List ℕ
characters s = chars (plain_text s)

abbrev pub length_of : Symbol → Rational
length_of s = whole (pos (length (characters s)))

-- so many characters from the place on, where the first has the place 1
abbrev pub characters_from : List ℕ → ℤ → ℤ → Outcome Symbol
characters_from cs place count =
    cond (int_le (pos 1) place && (int_le (pos 0) count && int_le (place +ℤ count -ℤ pos 1) (pos (length cs))))
    (Ok (Word (encode_utf8_all (take (unsigned_abs count) (drop (unsigned_abs place - 1) cs)))))
    (Err OutOfDomain)

abbrev pub substring_of : Symbol → Rational → Rational → Outcome Symbol
substring_of s place count = cond (is_whole place && is_whole count) (characters_from (characters s) place.numerator count.numerator) (Err NotWhole)

-- the characters from the place to the end
abbrev pub rest_of : Symbol → Rational → Outcome Symbol
rest_of s place =
    cond (is_whole place) (characters_from (characters s) place.numerator (pos (length (characters s)) +ℤ pos 1 -ℤ place.numerator)) (Err NotWhole)
