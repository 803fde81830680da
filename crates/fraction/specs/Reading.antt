-- What `read` keeps of the parts of a literal, in numbers of limited size.
use Rattle.std.specs.Prelude.{ℕ, ℤ, pos, neg_ℤ, ◌+◌, ◌-◌, ◌*◌, ◌/◌, ◌^◌, ◌==◌, codes, ◌+ℤ◌, ◌-ℤ◌, nat_le, Bool, true, false, min, unsigned_abs, ◌&&◌, List, [], ◌∷◌, Some, None, Result, Ok, Err, if◌then◌else◌}
use Rattle.std.specs.declared.option.Option.{Option}
use Rattle.std.specs.Option.{option_map}
use Rattle.std.specs.Char.{is_ascii_digit}
use Rattle.rational.specs.Rational.{Rational}
use Rattle.fraction.specs.Fits.{part_max, fits}
use Rattle.fraction.specs.Literal.{code, digits_of, tens_in, Decimal}
use Rattle.fraction.specs.Literal.{Mantissa as Written}
use Rattle.fraction.specs.declared.read.ReadFault.{ReadFault}
use Rattle.fraction.specs.declared.read.ReadFault.TheVariants.{NotANumber, TooWide}
use Rattle.fraction.specs.declared.read.Digits.{Digits}
use Rattle.fraction.specs.declared.read.Mantissa.{Mantissa}
use Rattle.fraction.specs.declared.read.Power.{Power}

-- significant digits stop here, one past the largest part
abbrev pub significant_end : ℕ
significant_end = 2 ^ 127

-- exponents stop here, far past what a text's length can make up for
abbrev pub exponent_end : ℕ
exponent_end = 2 ^ 100

-- what is kept of a number that is written with so many digits
abbrev pub kept : ℕ → ℕ → Digits
kept count n =
    if n == 0 then record { significant = 0; zeros = 0 }
    else record { significant = min (n / 10 ^ tens_in count n) significant_end; zeros = tens_in count n }

-- what is kept with one digit more
abbrev pub with_digit : Digits → ℕ → Digits
with_digit k d =
    if d == 0 then record { significant = k.significant; zeros = if k.significant == 0 then 0 else k.zeros + 1 }
    else record { significant = min (k.significant * 10 ^ (k.zeros + 1) + d) significant_end; zeros = 0 }

-- what is kept with more digits
abbrev pub kept_on : Digits → List ℕ → Option Digits
kept_on k [] = Some k
kept_on k (c ∷ cs) = if is_ascii_digit c then kept_on (with_digit k (c - code (codes "0"))) cs else None

abbrev pub clipped : ℕ → ℕ → ℕ
clipped limit n = min n limit

-- the number of digits, up to a limit
abbrev pub clipped_digits_of : ℕ → List ℕ → Option ℕ
clipped_digits_of limit text = option_map (clipped limit) (digits_of text)

-- an exponent up to its limit
abbrev pub clipped_exponent_of : List ℕ → Option ℤ
clipped_exponent_of [] = None
clipped_exponent_of (c ∷ cs) =
    if c == code (codes "-") then option_map (λ n. neg_ℤ (pos n)) (clipped_digits_of exponent_end cs)
    else if c == code (codes "+") then option_map pos (clipped_digits_of exponent_end cs)
    else option_map pos (clipped_digits_of exponent_end (c ∷ cs))

-- what is kept of a mantissa
abbrev pub kept_mantissa : Written → Mantissa
kept_mantissa a = record { digits = kept a.digits a.number; places = a.places }

-- m * 10^e, where m and 10^|e| are within the limit of a part
abbrev pub power_within : ℕ → ℤ → Result Power ReadFault
power_within m e = if nat_le m part_max && nat_le (unsigned_abs e) 38 then Ok (record { number = m; exponent = e }) else Err TooWide

-- the same of what is kept
abbrev pub power_with : Mantissa → ℤ → Result Power ReadFault
power_with a exponent =
    if a.digits.significant == 0 then Ok (record { number = 0; exponent = pos 0 })
    else power_within a.digits.significant (exponent -ℤ pos a.places +ℤ pos a.digits.zeros)

-- the same of a decimal fraction
abbrev pub power_of : Option Decimal → Result Power ReadFault
power_of None = Err NotANumber
power_of (Some d) = power_within d.m d.e

abbrev pub value_of : Rational → Result Rational ReadFault
value_of q = if fits q then Ok q else Err TooWide

abbrev pub sign_of : Bool → ℤ → ℤ
sign_of true z = neg_ℤ z
sign_of false z = z
