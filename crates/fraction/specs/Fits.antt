-- Which rational numbers a fraction of 128 bits holds, and what each operation answers.
use Rattle.std.specs.Prelude.{ℕ, ℤ, pos, ◌^◌, ◌-◌, ◌*◌, ◌/◌, ◌+ℤ◌, ◌*ℤ◌, unsigned_abs, Bool, ◌&&◌, nat_le}
use Rattle.std.specs.Coded.{Coded, code_by, coded×, coded_ℤ, coded_ℕ}
use Rattle.integer.specs.Gcd.{gcd}
use Rattle.rational.specs.Rational.{Rational, over}
use Rattle.rational.proofs.Laws.{over-self}

pub rational_code : Coded Rational
rational_code = code_by (ℤ × ℕ) (coded× coded_ℤ coded_ℕ) (λ q. (q.numerator, q.denominator)) (λ p. over p.0 p.1) over-self

abbrev pub part_max : ℕ
part_max = 2 ^ 127 - 1

abbrev pub num_fits : ℤ → Bool
num_fits z = nat_le (unsigned_abs z) part_max

abbrev pub den_fits : ℕ → Bool
den_fits n = nat_le n part_max

-- both parts are within plus or minus 2^127 - 1
abbrev pub fits : Rational → Bool
fits q = num_fits q.numerator && den_fits q.denominator

-- the scaled parts of a sum
abbrev pub left_scale : Rational → Rational → ℕ
left_scale a b = b.denominator / gcd a.denominator b.denominator

abbrev pub common_den : Rational → Rational → ℕ
common_den a b = a.denominator * left_scale a b

abbrev pub left_num : Rational → Rational → ℤ
left_num a b = a.numerator *ℤ pos (b.denominator / gcd a.denominator b.denominator)

abbrev pub right_num : Rational → Rational → ℤ
right_num a b = b.numerator *ℤ pos (a.denominator / gcd a.denominator b.denominator)

-- the numerators scaled to the least common denominator, that denominator and the scaled sum are within plus or minus 2^127 - 1
abbrev pub sum_fits : Rational → Rational → Bool
sum_fits a b = num_fits (left_num a b) && (num_fits (right_num a b) && (den_fits (common_den a b) && num_fits (left_num a b +ℤ right_num a b)))
