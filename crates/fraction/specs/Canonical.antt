-- The fraction that a text writes in the one form in which fractions are written.
use Rattle.std.specs.Prelude.{ℕ, ℤ, pos, neg_ℤ, ◌==◌, codes, nat_le, ◌&&◌, Bool, true, false, List, [], ◌∷◌, Some, None, Result, Ok, Err, if◌then◌else◌}
use Rattle.std.specs.declared.option.Option.{Option}
use Rattle.std.specs.Option.{option_map, option_and_then}
use Rattle.std.specs.List.{slice_split}
use Rattle.integer.specs.Gcd.{gcd}
use Rattle.rational.specs.Rational.{Rational, over}
use Rattle.fraction.specs.Fits.{part_max}
use Rattle.fraction.specs.Literal.{code, digits_of}
use Rattle.fraction.specs.declared.read.ReadFault.{ReadFault}
use Rattle.fraction.specs.declared.read.ReadFault.TheVariants.{NotANumber, TooWide}

abbrev pub is_slash : ℕ → Bool
is_slash c = c == code (codes "/")

-- the parts of a quotient as they are written
pub record Quotient : Type 0 where
  pub negative : Bool
  pub numerator : ℕ
  pub denominator : ℕ

-- the number of digits with no zero at the front of others
abbrev pub plain_digits_of : List ℕ → Option ℕ
plain_digits_of [] = None
plain_digits_of (c ∷ []) = digits_of (c ∷ [])
plain_digits_of (c ∷ d ∷ cs) = if c == code (codes "0") then None else digits_of (c ∷ d ∷ cs)

-- a number other than 0
abbrev pub nonzero : ℕ → Option ℕ
nonzero n = if n == 0 then None else Some n

-- a number above 1
abbrev pub above_one : ℕ → Option ℕ
above_one n = if nat_le n 1 then None else Some n

abbrev pub quotient_with : Bool → ℕ → ℕ → Quotient
quotient_with negative denominator numerator = record { negative = negative; numerator = numerator; denominator = denominator }

-- a numerator: plain digits, or a minus and plain digits that are not 0
abbrev pub numerator_of : ℕ → List ℕ → Option Quotient
numerator_of denominator [] = None
numerator_of denominator (c ∷ cs) =
    if c == code (codes "-") then option_map (quotient_with true denominator) (option_and_then nonzero (plain_digits_of cs))
    else option_map (quotient_with false denominator) (plain_digits_of (c ∷ cs))

-- a denominator: plain digits of a number above 1
abbrev pub denominator_of : List ℕ → Option ℕ
denominator_of text = option_and_then above_one (plain_digits_of text)

-- a numerator, or a numerator and a denominator round a slash
abbrev pub quotient_in : List (List ℕ) → Option Quotient
quotient_in (numerator ∷ []) = numerator_of 1 numerator
quotient_in (numerator ∷ denominator ∷ []) = option_and_then (λ d. numerator_of d numerator) (denominator_of denominator)
quotient_in pieces = None

abbrev pub quotient_of : List ℕ → Option Quotient
quotient_of text = quotient_in (slice_split is_slash text)

abbrev pub signed : Bool → ℕ → ℤ
signed true n = neg_ℤ (pos n)
signed false n = pos n

-- the fraction of a quotient in lowest terms whose parts fit
abbrev pub fraction_of : Quotient → Result Rational ReadFault
fraction_of q =
    if nat_le q.numerator part_max && nat_le q.denominator part_max then
    if gcd q.numerator q.denominator == 1 then Ok (over (signed q.negative q.numerator) q.denominator) else Err NotANumber
    else Err TooWide

abbrev pub fraction_or_fault : Option Quotient → Result Rational ReadFault
fraction_or_fault None = Err NotANumber
fraction_or_fault (Some q) = fraction_of q

-- the fraction of a text
abbrev pub read_canonical_of : List ℕ → Result Rational ReadFault
read_canonical_of text = fraction_or_fault (quotient_of text)
