-- The whole number nearest to a quotient.
use Rattle.std.specs.Prelude.{◌≡◌, ◌≤◌, ℕ, ℤ, pos, negsuc, suc, ◌+◌, ◌-◌, ◌*◌, ◌/◌, ◌%◌, ◌^◌, nat_lt, if◌then◌else◌}

-- what the quotient rounded down lacks to the nearest whole number, where twice the remainder is compared with the divisor
abbrev pub round_up : ℕ → ℕ → ℕ → ℕ
round_up quotient twice divisor = if nat_lt twice divisor then 0 else if nat_lt divisor twice then 1 else quotient % 2

-- the whole number nearest to n / d, and of two that are as near the even one
unfoldable pub nearest : ℕ → ℕ → ℕ
nearest n d = n / d + round_up (n / d) (2 * (n % d)) d

-- how far a and b are apart
abbrev pub distance : ℕ → ℕ → ℕ
distance a b = (a - b) + (b - a)

-- no whole number is nearer to n / d than m, and where another is as near m is even
pub record IsNearest (n d m : ℕ) : Type 0 where
  pub near : 2 * distance (m * d) n ≤ d
  pub even : 2 * distance (m * d) n ≡ d → m % 2 ≡ 0

-- the whole number nearest to n / d times 10 ^ places
unfoldable pub rounded : ℕ → ℕ → ℤ → ℕ
rounded n d (pos places) = nearest (n * 10 ^ places) d
rounded n d (negsuc places) = nearest n (d * 10 ^ suc places)
