-- The value of a number literal with a sign or none.
use Rattle.std.specs.Prelude.{ℕ, ℤ, pos, negsuc, neg_ℤ, ◌+◌, ◌-◌, ◌*◌, ◌/◌, ◌%◌, ◌^◌, ◌==◌, codes, ◌+ℤ◌, ◌-ℤ◌, ◌*ℤ◌, nat_le, unsigned_abs, ◌&&◌, ◌||◌, Bool, zero, suc, List, [], ◌∷◌, ◌++◌, length, Some, None, Result, Ok, Err, if◌then◌else◌}
use Rattle.std.specs.declared.option.Option.{Option}
use Rattle.std.specs.Option.{option_map, option_and_then}
use Rattle.std.specs.List.{slice_split}
use Rattle.std.specs.Char.{is_ascii_digit}
use Rattle.rational.specs.Rational.{Rational, whole, over}
use Rattle.fraction.specs.Fits.{part_max, fits}
use Rattle.fraction.specs.declared.read.ReadFault.{ReadFault}
use Rattle.fraction.specs.declared.read.ReadFault.TheVariants.{NotANumber, TooWide}

-- the code of a text of one character
abbrev pub code : List ℕ → ℕ
code [] = 0
code (c ∷ cs) = c

abbrev pub is_point : ℕ → Bool
is_point c = c == code (codes ".")

abbrev pub is_exponent_mark : ℕ → Bool
is_exponent_mark c = (c == code (codes "e")) || (c == code (codes "E"))

-- the number whose digits go on after n
abbrev pub digits_on : ℕ → List ℕ → Option ℕ
digits_on n [] = Some n
digits_on n (c ∷ cs) = if is_ascii_digit c then digits_on (10 * n + (c - code (codes "0"))) cs else None

-- the number of at least one digit
abbrev pub digits_of : List ℕ → Option ℕ
digits_of [] = None
digits_of (c ∷ cs) = digits_on 0 (c ∷ cs)

-- the digits of a literal as one number, how many digits there are, and how many of them stand after the point
pub record Mantissa : Type 0 where
  pub number : ℕ
  pub digits : ℕ
  pub places : ℕ

abbrev pub mantissa_with : List ℕ → ℕ → Option Mantissa
mantissa_with digits places = option_map (λ n. record { number = n; digits = length digits; places = places }) (digits_of digits)

-- digits, or digits round a point with at least one on a side of it
abbrev pub mantissa_in : List (List ℕ) → Option Mantissa
mantissa_in (digits ∷ []) = mantissa_with digits 0
mantissa_in (digits ∷ places ∷ []) = mantissa_with (digits ++ places) (length places)
mantissa_in pieces = None

abbrev pub mantissa_of : List ℕ → Option Mantissa
mantissa_of text = mantissa_in (slice_split is_point text)

-- digits with a sign or none
abbrev pub exponent_of : List ℕ → Option ℤ
exponent_of [] = None
exponent_of (c ∷ cs) =
    if c == code (codes "-") then option_map (λ n. neg_ℤ (pos n)) (digits_of cs)
    else if c == code (codes "+") then option_map pos (digits_of cs)
    else option_map pos (digits_of (c ∷ cs))

-- the decimal fraction m * 10^e
pub record Decimal : Type 0 where
  pub m : ℕ
  pub e : ℤ

-- how often 10 divides n, up to `most` times
abbrev pub tens_in : ℕ → ℕ → ℕ
tens_in zero n = 0
tens_in (suc most) n = if n % 10 == 0 then 1 + tens_in most (n / 10) else 0

abbrev pub stripped : ℕ → ℕ → ℤ → Decimal
stripped tens n e = record { m = n / 10 ^ tens; e = e +ℤ pos tens }

-- m doesn't end in 0, and zero is 0 * 10^0
abbrev pub decimal_of : Mantissa → ℤ → Decimal
decimal_of a exponent =
    if a.number == 0 then record { m = 0; e = pos 0 }
    else stripped (tens_in a.digits a.number) a.number (exponent -ℤ pos a.places)

abbrev pub decimal_with : Option ℤ → Mantissa → Option Decimal
decimal_with None a = None
decimal_with (Some exponent) a = Some (decimal_of a exponent)

-- a literal's parts round its exponent mark
abbrev pub decimal_in : List (List ℕ) → Option Decimal
decimal_in (mantissa ∷ []) = option_and_then (decimal_with (Some (pos 0))) (mantissa_of mantissa)
decimal_in (mantissa ∷ exponent ∷ []) = option_and_then (decimal_with (exponent_of exponent)) (mantissa_of mantissa)
decimal_in pieces = None

-- the decimal fraction of a literal without sign
abbrev pub literal_of : List ℕ → Option Decimal
literal_of text = decimal_in (slice_split is_exponent_mark text)

-- n * 10^e
abbrev pub scaled : ℤ → ℤ → Rational
scaled n (pos e) = whole (n *ℤ pos (10 ^ e))
scaled n (negsuc e) = over n (10 ^ suc e)

-- m and 10^|e| are within the limit of a part, and so is the value
abbrev pub decimal_fits : Decimal → Rational → Bool
decimal_fits d value = nat_le d.m part_max && (nat_le (10 ^ unsigned_abs d.e) part_max && fits value)

abbrev pub fitting : Decimal → Rational → Result Rational ReadFault
fitting d value = if decimal_fits d value then Ok value else Err TooWide

-- the value of a literal before which this sign stands
abbrev pub signed_value : (ℤ → ℤ) → Option Decimal → Result Rational ReadFault
signed_value sign None = Err NotANumber
signed_value sign (Some d) = fitting d (scaled (sign (pos d.m)) d.e)

-- the value of a literal with a sign or none
abbrev pub read_of : List ℕ → Result Rational ReadFault
read_of [] = Err NotANumber
read_of (c ∷ cs) =
    if c == code (codes "-") then signed_value neg_ℤ (literal_of cs)
    else if c == code (codes "+") then signed_value (λ n. n) (literal_of cs)
    else signed_value (λ n. n) (literal_of (c ∷ cs))
