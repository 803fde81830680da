-- What stands between a per cent sign and the letter of a conversion.
use Rattle.std.specs.Prelude.{ℕ, ◌+◌, ◌-◌, ◌*◌, ◌==◌, ◌||◌, nat_le, Bool, false, not, Some, None, List, [], ◌∷◌, length, take, drop, codes, if◌then◌else◌}
use Rattle.std.specs.declared.option.Option.{Option}
use Rattle.std.specs.Option.{option_map, option_and_then, unwrap_or}
use Rattle.std.specs.List.{position, list_any}
use Rattle.std.specs.Char.{is_ascii_digit}
use Rattle.fraction.specs.Literal.{code}
use Rattle.gmpl_formats.specs.declared.conversion.Style.{Style}
use Rattle.gmpl_formats.specs.declared.conversion.Style.TheVariants as styles
use Rattle.gmpl_formats.specs.declared.reading.Precision.{Precision}
use Rattle.gmpl_formats.specs.declared.reading.Reading.{Reading}

-- how many characters pass, from the first on
abbrev pub front_count : (ℕ → Bool) → List ℕ → ℕ
front_count passes text = unwrap_or (position (λ c. not (passes c)) text) (length text)

abbrev pub is_minus : ℕ → Bool
is_minus c = c == code (codes "-")

abbrev pub is_zero_digit : ℕ → Bool
is_zero_digit c = c == code (codes "0")

abbrev pub is_flag : ℕ → Bool
is_flag c = is_minus c || is_zero_digit c

-- the number whose digits go on after n, where it is at most `most`
unfoldable pub number_on : ℕ → ℕ → List ℕ → Option ℕ
number_on most n [] = if nat_le n most then Some n else None
number_on most n (c ∷ cs) = if nat_le n most then number_on most (10 * n + (c - 48)) cs else None

-- the number of some digits, 0 where there are none
abbrev pub number_in : ℕ → List ℕ → Option ℕ
number_in most digits = number_on most 0 digits

-- the number of so many digits, at most 60, behind a point
abbrev pub point_precision : ℕ → List ℕ → Option Precision
point_precision digits cs = option_map (λ n. record { value = Some n; count = 1 + digits }) (number_in 60 (take digits cs))

-- a point and digits, or no precision
unfoldable pub precision_of : List ℕ → Option Precision
precision_of [] = Some (record { value = None; count = 0 })
precision_of (c ∷ cs) =
    if c == code (codes ".") then point_precision (front_count is_ascii_digit cs) cs
    else Some (record { value = None; count = 0 })

-- `s`, `d` or `i`, `f`, `g`
abbrev pub style_of : ℕ → Option Style
style_of c =
    if c == code (codes "s") then Some styles.Bare
    else if (c == code (codes "d")) || (c == code (codes "i")) then Some styles.Whole
    else if c == code (codes "f") then Some styles.Fixed
    else if c == code (codes "g") then Some styles.General
    else None

abbrev pub letter_of : List ℕ → Option Style
letter_of [] = None
letter_of (c ∷ cs) = style_of c

-- a precision and a letter
unfoldable pub ending_of : List ℕ → Option Reading
ending_of text = option_and_then (λ p. option_map (λ style. record {
  conversion = record { style = style; left = false; zeros = false; width = 0; precision = p.value };
  count = p.count + 1;
}) (letter_of (drop p.count text)))
    (precision_of text)

abbrev pub with_width : ℕ → ℕ → Reading → Reading
with_width digits width r = record {
  conversion = record { style = r.conversion.style; left = false; zeros = false; width = width; precision = r.conversion.precision };
  count = digits + r.count;
}

-- a width of at most 255, 0 without digits, and what stands behind it
unfoldable pub sized_of : List ℕ → Option Reading
sized_of text = let digits = front_count is_ascii_digit text in option_and_then (λ width. option_map (with_width digits width) (ending_of (drop digits text))) (number_in 255 (take digits text))

abbrev pub with_flags : List ℕ → Reading → Reading
with_flags flags r = record {
  conversion = record { style = r.conversion.style; left = list_any is_minus flags; zeros = list_any is_zero_digit flags; width = r.conversion.width; precision = r.conversion.precision };
  count = length flags + r.count;
}

-- flags, and what stands behind them
unfoldable pub conversion_of : List ℕ → Option Reading
conversion_of text = let flags = front_count is_flag text in option_map (with_flags (take flags text)) (sized_of (drop flags text))
