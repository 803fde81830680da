-- Which quotients can be scaled by a power of 10 in numbers of 384 bits.
use Rattle.std.specs.Prelude.{ℕ, ℤ, pos, negsuc, suc, ◌*◌, ◌^◌, ◌<◌}
use Rattle.wide.specs.Parts.{wide_end}

-- n times the power fits, or d times its inverse
abbrev pub FitsScaled : ℕ → ℕ → ℤ → Type 0
FitsScaled n d (pos places) = n * 10 ^ places < wide_end
FitsScaled n d (negsuc places) = d * 10 ^ suc places < 2 ^ 127
