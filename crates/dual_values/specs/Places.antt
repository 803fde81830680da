-- One weight more at a place.
use Rattle.std.specs.Prelude.{ℕ, zero, suc, List, [], ◌∷◌}
use Rattle.rational.specs.Rational.{Rational}
use Rattle.gmpl_solution.specs.declared.dual.Dual.{Dual}
use Rattle.dual_values.specs.Duals.{plus}

abbrev pub with_weight : ℕ → Rational → List Dual → List Dual
with_weight k w [] = []
with_weight zero w (d ∷ ds) = plus d w ∷ ds
with_weight (suc k) w (d ∷ ds) = d ∷ with_weight k w ds
