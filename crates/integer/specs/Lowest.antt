-- When a whole number over a positive one is in lowest terms.
use Rattle.std.specs.Prelude.{ℕ, ℤ, ◌<◌, ◌≡◌, unsigned_abs}
use Rattle.integer.specs.Gcd.{gcd}

pub record IsLowest (numerator : ℤ) (denominator : ℕ) : Type 0 where
  pub positive : 0 < denominator
  pub coprime : gcd (unsigned_abs numerator) denominator ≡ 1
