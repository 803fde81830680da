-- Fields that are no pairs.
use Rattle.std.proofs.Common.{◌≡◌, ℕ, ◌<◌, ◌≤◌, List, [], ◌∷◌, length, None, refl, arith}
use Rattle.mps_reader.specs.RhsRangesBounds.{pairs_of}

pub too-few : (fields : List (List ℕ)) → length fields < 2 → pairs_of fields ≡ None
too-few [] h = refl
too-few (a ∷ []) h = refl
too-few (a ∷ b ∷ fields) h = absurd (omega arith)

pub too-many : (fields : List (List ℕ)) → 6 ≤ length fields → pairs_of fields ≡ None
too-many [] h = refl
too-many (a ∷ []) h = refl
too-many (a ∷ b ∷ []) h = absurd (omega arith)
too-many (a ∷ b ∷ c ∷ []) h = absurd (omega arith)
too-many (a ∷ b ∷ c ∷ d ∷ []) h = absurd (omega arith)
too-many (a ∷ b ∷ c ∷ d ∷ e ∷ []) h = absurd (omega arith)
too-many (a ∷ b ∷ c ∷ d ∷ e ∷ f ∷ fields) h = refl
