-- Fractions as decimal texts, after `%f` and `%g` of the language C, but of the exact value.
use Rattle.std.specs.Prelude.{ℕ, ℤ, pos, ◌-◌, ◌-ℤ◌, codes, List, ◌++◌, max, nat_lt, int_lt, int_le, unsigned_abs, neg_ℤ, ◌&&◌, Bool, if◌then◌else◌}
use Rattle.std.specs.Fmt.{decimal, sign_text}
use Rattle.rational.specs.Rational.{Rational}
use Rattle.rational.specs.Compare.{is_zero, is_negative}
use Rattle.decimals.specs.Rounding.{rounded}
use Rattle.decimals.specs.Digits.{written, shortened}
use Rattle.decimals.specs.Significand.{leading_digits}

-- so many places behind the point; the sign stays where the value is rounded to 0
abbrev pub fixed : Rational → ℕ → List ℕ
fixed q places = sign_text (is_negative q) ++ written places (rounded (unsigned_abs q.numerator) q.denominator (pos places))

-- at least two digits
abbrev pub two_digits : ℕ → List ℕ
two_digits n = if nat_lt n 10 then codes "0" ++ decimal n else decimal n

abbrev pub exponent_sign : Bool → List ℕ
exponent_sign negative = if negative then codes "-" else codes "+"

-- `e`, the exponent's sign and its digits
abbrev pub exponent_text : ℤ → List ℕ
exponent_text x = codes "e" ++ exponent_sign (int_lt x (pos 0)) ++ two_digits (unsigned_abs x)

-- exponents from -4 on, and below the number of digits, are not written
abbrev pub is_plain : ℕ → ℤ → Bool
is_plain digits x = int_le (neg_ℤ (pos 4)) x && int_lt x (pos digits)

-- the digits with the point in its place, or behind the first digit and with the exponent
unfoldable pub significand_text : ℕ → ℕ → ℤ → List ℕ
significand_text digits number x =
    if is_plain digits x then shortened (unsigned_abs (pos digits -ℤ pos 1 -ℤ x)) number
    else shortened (digits - 1) number ++ exponent_text x

-- so many significant digits, without zeros at the end of the part behind the point; no digits count as one
abbrev pub general : Rational → ℕ → List ℕ
general q digits =
    if is_zero q then codes "0" else
    let s = leading_digits (max 1 digits) (unsigned_abs q.numerator) q.denominator in
    sign_text (is_negative q) ++ significand_text (max 1 digits) s.number s.exponent
