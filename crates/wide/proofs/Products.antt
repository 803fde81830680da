-- Products of sums.
use Rattle.std.proofs.Common.{◌≡◌, ℕ, ◌+◌, ◌*◌, ◌^◌, arith}
use Rattle.wide.specs.Parts.{whole_of, part_end}

mul_sums : (w a b c d : ℕ) → (a + w * b) * (c + w * d) ≡ a * c + w * (b * c) + (w * (a * d) + (w * w) * (b * d))
mul_sums w a b c d = omega arith

-- The four products of the words of x and y
pub words_product : (x y a b c d : ℕ) → x ≡ a + 2 ^ 64 * b → y ≡ c + 2 ^ 64 * d
    → x * y ≡ a * c + 2 ^ 64 * (b * c) + (2 ^ 64 * (a * d) + 2 ^ 128 * (b * d))
words_product x y a b c d p q = rw (p, q) (mul_sums (2 ^ 64) a b c d)

parts_times : (w a b c k : ℕ) → ((c * w + b) * w + a) * k ≡ (c * k * w + b * k) * w + a * k
parts_times w a b c k = omega arith

-- The three products of the parts of n
pub whole_times : (n a b c k : ℕ) → n ≡ whole_of a b c → n * k ≡ whole_of (a * k) (b * k) (c * k)
whole_times n a b c k e = rw e (parts_times part_end a b c k)
