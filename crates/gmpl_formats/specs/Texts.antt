-- The text of a conversion, after `printf` of the language C, but of exact values and in characters.
use Rattle.std.specs.Prelude.{ℕ, ◌-◌, ◌==◌, ◌&&◌, Bool, not, min, is_none, Some, None, Ok, Err, List, [], ◌++◌, length, take, replicate, unsigned_abs, if◌then◌else◌}
use Rattle.std.specs.declared.option.Option.{Option}
use Rattle.std.specs.Option.{unwrap_or}
use Rattle.std.specs.Fmt.{decimal, sign_text}
use Rattle.std.specs.Str.{encode_utf8_all}
use Rattle.rational.specs.Rational.{Rational, abs_ℚ}
use Rattle.rational.specs.Compare.{is_whole, is_negative}
use Rattle.decimals.specs.Decimals.{fixed, general}
use Rattle.gmpl_value.specs.declared.symbol.Symbol.{Symbol}
use Rattle.gmpl_value.specs.declared.eval_fault.EvalFault.TheVariants.{NotWhole}
use Rattle.gmpl_value.specs.Outcome.{Outcome, then_do}
use Rattle.gmpl_functions.specs.Numbers.{number_of}
use Rattle.gmpl_functions.specs.Strings.{characters}
use Rattle.gmpl_formats.specs.declared.conversion.Style.{Style}
use Rattle.gmpl_formats.specs.declared.conversion.Style.TheVariants as styles
use Rattle.gmpl_formats.specs.declared.conversion.Conversion.{Conversion}

-- a text of so many characters, with blanks up to the width
abbrev pub padded : Conversion → ℕ → List ℕ → List ℕ
padded c count text =
    let blanks = replicate (c.width - count) 32 in
    if c.left then text ++ blanks else blanks ++ text

-- the first characters, as many as the precision says
abbrev pub cut : Option ℕ → List ℕ → List ℕ
cut None cs = cs
cut (Some most) cs = take most cs

abbrev pub bare_text : Conversion → List ℕ → List ℕ
bare_text c cs = let shown = cut c.precision cs in padded c (length shown) (encode_utf8_all shown)

-- a sign and digits, with blanks before them or behind them, or zeros between them
unfoldable pub number_text : Conversion → Bool → Bool → List ℕ → List ℕ
number_text c zeros negative digits =
    let signed = sign_text negative ++ digits in
    if zeros && not c.left then sign_text negative ++ replicate (c.width - length signed) 48 ++ digits
    else padded c (length signed) signed

-- at least as many digits as the precision says; 0 has none where that is 0
abbrev pub whole_digits : Option ℕ → ℕ → List ℕ
whole_digits None n = decimal n
whole_digits (Some least) n = if (n == 0) && (least == 0) then [] else replicate (least - length (decimal n)) 48 ++ decimal n

abbrev pub whole_text : Conversion → Rational → Outcome (List ℕ)
whole_text c q =
    if is_whole q then Ok (number_text c (c.zeros && is_none c.precision) (is_negative q) (whole_digits c.precision (unsigned_abs q.numerator)))
    else Err NotWhole

-- 6 where there is no precision
abbrev pub digits_of : Conversion → ℕ
digits_of c = unwrap_or c.precision 6

abbrev pub fixed_text : Conversion → Rational → List ℕ
fixed_text c q = number_text c c.zeros (is_negative q) (fixed (abs_ℚ q) (min (digits_of c) 60))

abbrev pub general_text : Conversion → Rational → List ℕ
general_text c q = number_text c c.zeros (is_negative q) (general (abs_ℚ q) (min (digits_of c) 60))

abbrev pub styled_text : Style → Conversion → Symbol → Outcome (List ℕ)
styled_text styles.Bare c s = Ok (bare_text c (characters s))
styled_text styles.Whole c s = then_do (whole_text c) (number_of s)
styled_text styles.Fixed c s = then_do (λ q. Ok (fixed_text c q)) (number_of s)
styled_text styles.General c s = then_do (λ q. Ok (general_text c q)) (number_of s)

-- the text that a conversion makes of a symbol
unfoldable pub conversion_text : Conversion → Symbol → Outcome (List ℕ)
conversion_text c s = styled_text c.style c s
