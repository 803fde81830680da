-- Texts of whole numbers with a point among their digits.
use Rattle.std.specs.Prelude.{ℕ, zero, suc, ◌+◌, ◌/◌, ◌%◌, ◌^◌, ◌==◌, codes, List, [], ◌∷◌, ◌++◌, if◌then◌else◌}
use Rattle.std.specs.Fmt.{decimal}

-- the last `count` digits of n, zeros before its first digit among them
unfoldable pub last_digits : ℕ → ℕ → List ℕ
last_digits zero n = []
last_digits (suc count) n = last_digits count (n / 10) ++ (48 + n % 10) ∷ []

-- n with its last `places` digits behind a point, and without a point where there are none
unfoldable pub written : ℕ → ℕ → List ℕ
written zero n = decimal n
written (suc places) n = decimal (n / 10 ^ suc places) ++ codes "." ++ last_digits (suc places) n

-- the same without zeros at the end of the part behind the point
unfoldable pub shortened : ℕ → ℕ → List ℕ
shortened zero n = written zero n
shortened (suc places) n = if n % 10 == 0 then shortened places (n / 10) else written (suc places) n
