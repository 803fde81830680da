-- The first digits of a quotient, and where they stand.
use Rattle.std.specs.Prelude.{ℕ, ℤ, zero, suc, pos, negsuc, neg_ℤ, ◌+◌, ◌-◌, ◌*◌, ◌^◌, ◌<◌, ◌≤◌, ◌+ℤ◌, ◌-ℤ◌, nat_lt, nat_le, if◌then◌else◌}
use Rattle.decimals.specs.Rounding.{rounded}

-- x is the exponent of n / d: 10 ^ x ≤ n / d < 10 ^ (x + 1)
abbrev pub IsExponent : ℕ → ℕ → ℤ → Type 0
IsExponent n d (pos x) = (d * 10 ^ x ≤ n) × (n < d * 10 ^ suc x)
IsExponent n d (negsuc x) = (d ≤ n * 10 ^ suc x) × (n * 10 ^ x < d)

-- how often a is multiplied by 10 until it is at least b, up to `most` times
unfoldable pub tenfolds : ℕ → ℕ → ℕ → ℕ
tenfolds zero a b = 0
tenfolds (suc most) a b = if nat_le b a then 0 else 1 + tenfolds most (10 * a) b

-- the exponent of n / d, where both are above 0
unfoldable pub exponent : ℕ → ℕ → ℤ
exponent n d = if nat_le d n then pos (tenfolds n d (n + 1) - 1) else neg_ℤ (pos (tenfolds d n d))

-- a number of some digits, of which the first stands for the power of 10 with this exponent
pub record Significand : Type 0 where
  pub number : ℕ
  pub exponent : ℤ

-- a number that has got one digit too many is a power of 10, and its first digit stands one place higher
abbrev pub carried : ℕ → ℤ → ℕ → Significand
carried digits x n =
    if nat_lt n (10 ^ digits) then record { number = n; exponent = x } else record { number = 10 ^ (digits - 1); exponent = x +ℤ pos 1 }

-- n / d rounded to so many digits
unfoldable pub leading_digits : ℕ → ℕ → ℕ → Significand
leading_digits digits n d = let x = exponent n d in carried digits x (rounded n d (pos digits -ℤ pos 1 -ℤ x))
