-- Steps along a ray.
use Rattle.std.specs.Prelude.{ℕ, pos, List, [], ◌∷◌}
use Rattle.rational.specs.Rational.{Rational, whole, ◌+ℚ◌, ◌*ℚ◌}

-- x + t * r
abbrev pub moved : List Rational → ℕ → List Rational → List Rational
moved [] t r = []
moved (v ∷ vs) t [] = []
moved (v ∷ vs) t (d ∷ ds) = (v +ℚ whole (pos t) *ℚ d) ∷ moved vs t ds
