-- Sums of places.
use Rattle.std.proofs.Common.{◌≡◌, ℕ, suc, ◌+◌, arith}

pub place_here : (n : ℕ) → n + 0 ≡ n
place_here n = omega arith

pub place_behind : (i n : ℕ) → suc i + n ≡ i + suc n
place_behind i n = omega arith

pub from_first : (n : ℕ) → 0 + n ≡ n
from_first n = omega arith
