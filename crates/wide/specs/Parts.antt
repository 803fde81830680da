-- The number that three parts of 128 bits make, and its parts.
use Rattle.std.specs.Prelude.{ℕ, ◌^◌, ◌+◌, ◌*◌, ◌/◌, ◌%◌, ◌<◌, ◌≡◌}
use Rattle.std.proofs.lemmas.Nat.{div-mul-add, mod-mul-add}

-- one more than the largest part
abbrev pub part_end : ℕ
part_end = 2 ^ 128

-- one more than the largest number
abbrev pub wide_end : ℕ
wide_end = 2 ^ 384

-- low + 2^128 mid + 2^256 high
abbrev pub whole_of : ℕ → ℕ → ℕ → ℕ
whole_of low mid high = (high * part_end + mid) * part_end + low

abbrev pub low_of : ℕ → ℕ
low_of n = n % part_end

abbrev pub mid_of : ℕ → ℕ
mid_of n = (n / part_end) % part_end

abbrev pub high_of : ℕ → ℕ
high_of n = n / part_end / part_end

pub low_back : (low mid high : ℕ) → low < part_end → low_of (whole_of low mid high) ≡ low
low_back low mid high h = mod-mul-add (high * part_end + mid) part_end low h

pub rest_back : (low mid high : ℕ) → low < part_end → whole_of low mid high / part_end ≡ high * part_end + mid
rest_back low mid high h = div-mul-add (high * part_end + mid) part_end low h

pub mid_back : (low mid high : ℕ) → low < part_end → mid < part_end → mid_of (whole_of low mid high) ≡ mid
mid_back low mid high h k = rw (rest_back low mid high h) (mod-mul-add high part_end mid k)

pub high_back : (low mid high : ℕ) → low < part_end → mid < part_end → high_of (whole_of low mid high) ≡ high
high_back low mid high h k = rw (rest_back low mid high h) (div-mul-add high part_end mid k)
