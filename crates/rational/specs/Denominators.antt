-- Least common denominators.
use Rattle.std.specs.Prelude.{ℕ, ◌*◌, ◌/◌, List, [], ◌∷◌, take}
use Rattle.integer.specs.Gcd.{gcd}
use Rattle.rational.specs.Rational.{Rational}

-- the least common multiple of m and the denominators of the numbers
abbrev pub common_denominator : ℕ → List Rational → ℕ
common_denominator m [] = m
common_denominator m (a ∷ rest) = common_denominator (m * (a.denominator / gcd m a.denominator)) rest

-- the least common denominator of the first n numbers
abbrev pub prefix_denominator : List Rational → ℕ → ℕ
prefix_denominator numbers n = common_denominator 1 (take n numbers)
