-- How long a number is that stands at the start of a text.
use Rattle.std.specs.Prelude.{ℕ, ◌+◌, ◌==◌, ◌&&◌, not, Bool, List, [], ◌∷◌, drop, codes, if◌then◌else◌}
use Rattle.std.specs.List.{position_or_len}
use Rattle.std.specs.Char.{is_ascii_digit}
use Rattle.model_text.specs.Bytes.{is_one_of}

abbrev pub is_no_digit : ℕ → Bool
is_no_digit b = not (is_ascii_digit b)

-- how many digits stand at the start
abbrev pub digits : List ℕ → ℕ
digits text = position_or_len is_no_digit text

abbrev pub is_sign : ℕ → Bool
is_sign b = is_one_of (codes "+-") b

abbrev pub is_exponent_mark : ℕ → Bool
is_exponent_mark b = is_one_of (codes "eE") b

-- so many digits with what stands before them, where there are digits
abbrev pub raised : ℕ → ℕ → ℕ
raised before count = if count == 0 then 0 else before + count

-- the length of an exponent: a mark, a sign or none, digits
abbrev pub after_mark : List ℕ → ℕ
after_mark [] = 0
after_mark (b ∷ bs) = if is_sign b then raised 2 (digits bs) else raised 1 (digits (b ∷ bs))

abbrev pub exponent_length : List ℕ → ℕ
exponent_length [] = 0
exponent_length (b ∷ bs) = if is_exponent_mark b then after_mark bs else 0

-- the length of a point and so many digits after it, where so many stand before it: one side has a digit
abbrev pub point_length : ℕ → ℕ → ℕ
point_length whole places = if (whole == 0) && (places == 0) then 0 else 1 + places

abbrev pub places_length : ℕ → List ℕ → ℕ
places_length whole [] = 0
places_length whole (b ∷ bs) = if is_one_of (codes ".") b then point_length whole (digits bs) else 0

-- the length with an exponent, where so much of the text is the number before it; 0 where there is none
abbrev pub with_exponent : ℕ → List ℕ → ℕ
with_exponent mantissa text = if mantissa == 0 then 0 else mantissa + exponent_length (drop mantissa text)
