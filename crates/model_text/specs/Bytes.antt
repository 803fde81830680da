-- Bytes by the characters that they stand for.
use Rattle.std.specs.Prelude.{ℕ, ◌==◌, ◌||◌, Bool, false, List, [], ◌∷◌}

-- the byte is that of one of these characters
abbrev pub is_one_of : List ℕ → ℕ → Bool
is_one_of [] b = false
is_one_of (c ∷ []) b = b == c
is_one_of (c ∷ d ∷ cs) b = (b == c) || is_one_of (d ∷ cs) b
