-- Worked examples of the definition.
use Rattle.std.specs.Prelude.{◌≡◌, ℕ, refl, pos, Some, None, Ok, Err, codes, true, List, [], ◌∷◌, ◌++◌}
use Rattle.std.specs.Str.{is_utf8, chars}
use Rattle.std.specs.Char.{encode_utf8}
use Rattle.rational.specs.Rational.{zero_ℚ, one_ℚ, whole}
use Rattle.milp.specs.declared.Direction.TheVariants.{Min}
use Rattle.mps_reader.specs.FreeMps.{declared}
use Rattle.model_text.specs.declared.fault.FaultKind.TheVariants.{Twice, NoEnd}

lines : List (List ℕ) → List ℕ
lines [] = []
lines (text ∷ texts) = text ++ 10 ∷ lines texts

no_end : declared [] ≡ Err (record { line = 1; kind = NoEnd })
no_end = refl

twice : declared (lines (codes "ROWS" ∷ codes " N cost" ∷ codes " N cost" ∷ [])) ≡ Err (record { line = 3; kind = Twice })
unfolding lines is_utf8 chars encode_utf8
twice = refl

-- x stands between the markers, and y is made integer by its bound
integers : declared (lines (codes "ROWS" ∷ codes " N z" ∷ codes "COLUMNS" ∷ codes " m 'MARKER' 'INTORG'" ∷ codes " x z 1" ∷ codes " m 'MARKER' 'INTEND'" ∷ codes " y z 2" ∷ codes "BOUNDS" ∷ codes " BV b y" ∷ codes "ENDATA" ∷ [])) ≡ Ok (record {
  columns =
      record { name = codes "x"; lower = Some zero_ℚ; upper = None; integer = true }
      ∷ record { name = codes "y"; lower = Some zero_ℚ; upper = Some one_ℚ; integer = true } ∷ [];
  rows = [];
  direction = Min;
  objective_name = codes "z";
  objective = record { column = 0; coefficient = one_ℚ } ∷ record { column = 1; coefficient = whole (pos 2) } ∷ [];
  constant = zero_ℚ;
})
unfolding lines is_utf8 chars encode_utf8
integers = refl
