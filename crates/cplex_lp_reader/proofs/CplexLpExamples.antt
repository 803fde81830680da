-- Worked examples of the definition.
use Rattle.std.specs.Prelude.{◌≡◌, ℕ, refl, pos, Some, None, Ok, Err, codes, true, false, List, [], ◌∷◌, ◌++◌}
use Rattle.std.specs.Str.{is_utf8, chars}
use Rattle.std.specs.Char.{encode_utf8}
use Rattle.rational.specs.Rational.{zero_ℚ, one_ℚ, whole}
use Rattle.milp.specs.declared.Direction.TheVariants.{Min, Max}
use Rattle.cplex_lp_reader.specs.CplexLp.{declared}
use Rattle.model_text.specs.declared.fault.FaultKind.TheVariants.{BadLine, Twice}

lines : List (List ℕ) → List ℕ
lines [] = []
lines (text ∷ texts) = text ++ 10 ∷ lines texts

-- the objective's section must stand
nothing : declared [] ≡ Err (record { line = 1; kind = BadLine })
nothing = refl

-- the name is used on line 4
twice : declared (lines (codes "min" ∷ codes "st" ∷ codes " a: x >= 1" ∷ codes " a: x >= 2" ∷ [])) ≡ Err (record { line = 4; kind = Twice })
unfolding lines is_utf8 chars encode_utf8
twice = refl

-- a sign is needed but before the first term
unsigned : declared (lines (codes "min" ∷ codes " 2 x 3 y" ∷ codes "st" ∷ [])) ≡ Err (record { line = 2; kind = BadLine })
unfolding lines is_utf8 chars encode_utf8
unsigned = refl

-- a general column keeps its bounds, a binary one is from 0 to 1
integers : declared (lines (codes "MIN x" ∷ codes "Subject To" ∷ codes "Generals x" ∷ codes "bin y" ∷ codes "end" ∷ [])) ≡ Ok (record {
  columns =
      record { name = codes "x"; lower = Some zero_ℚ; upper = None; integer = true }
      ∷ record { name = codes "y"; lower = Some zero_ℚ; upper = Some one_ℚ; integer = true } ∷ [];
  rows = [];
  direction = Min;
  objective_name = codes "obj";
  objective = record { column = 0; coefficient = one_ℚ } ∷ [];
  constant = zero_ℚ;
})
unfolding lines is_utf8 chars encode_utf8
integers = refl

-- 2e3x is 2000 x, and `free` and `=` set both bounds
problem : declared (lines (codes "maximize" ∷ codes " profit: 2e3x" ∷ codes "s.t. \\ all rows" ∷ codes " c: 1 <= y" ∷ codes "+ x < 4" ∷ codes "bound" ∷ codes " x free 3 = y" ∷ [])) ≡ Ok (record {
  columns =
      record { name = codes "x"; lower = None; upper = None; integer = false }
      ∷ record { name = codes "y"; lower = Some (whole (pos 3)); upper = Some (whole (pos 3)); integer = false } ∷ [];
  rows = record {
    name = codes "c";
    lower = Some (whole (pos 1));
    upper = Some (whole (pos 4));
    entries = record { column = 0; coefficient = one_ℚ } ∷ record { column = 1; coefficient = one_ℚ } ∷ [];
  } ∷ [];
  direction = Max;
  objective_name = codes "profit";
  objective = record { column = 0; coefficient = whole (pos 2000) } ∷ [];
  constant = zero_ℚ;
})
unfolding lines is_utf8 chars encode_utf8
problem = refl
