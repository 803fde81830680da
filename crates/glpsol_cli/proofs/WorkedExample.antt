-- The worked examples: each text declares its problem, and is short; the most splits that its search makes are fewer than are allowed.
use Rattle.std.proofs.Common.{◌≡◌, ◌∙◌, ℕ, ◌<◌, ◌≤◌, [], ◌∷◌, length, true, Some, Ok, refl, ap, arith}
use Rattle.std.specs.Prelude.{pos}
use Rattle.std.specs.Str.{is_utf8, chars}
use Rattle.std.specs.Char.{encode_utf8}
use Rattle.integer.specs.Gcd.{gcd, gcd_within}
use Rattle.rational.specs.Rational.{Rational, one_ℚ, whole, neg_ℚ, over, ◌+ℚ◌}
use Rattle.rational.proofs.Laws.{over-self}
use Rattle.milp.specs.Problem.{Problem}
use Rattle.mps_reader.specs.FreeMps.{declared}
use Rattle.worked_problems.specs.Problems.{any_whole, endless, least_whole, over_x, parted, pivoted, row_of_x, times_x}
use Rattle.worked_problems.specs.Unhindered.{AreUnhindered}
use Rattle.glpsol_cli.specs.WorkedExample.{Example, AnyWhole, LeastWhole, Endless, Pivoted, Parted, problem_of, text_of}

-- what a text declares whose row has a range from b
abbrev parted_from : Rational → Problem
parted_from b = over_x true (row_of_x (whole (pos 3)) (Some b) (Some (whole (pos 2))) ∷ []) (times_x one_ℚ)

by_range : declared (text_of Parted) ≡ Ok (parted_from (over (pos 1) 1))
unfolding is_utf8 chars encode_utf8 ◌+ℚ◌ neg_ℚ over gcd gcd_within
by_range = refl

declares_parted : declared (text_of Parted) ≡ Ok parted
declares_parted = by_range ∙ ap (λ b. Ok (parted_from b)) (over-self one_ℚ)

pub declares : (e : Example) → declared (text_of e) ≡ Ok (problem_of e)
unfolding is_utf8 chars encode_utf8 ◌+ℚ◌ over gcd gcd_within
declares AnyWhole = refl
declares LeastWhole = refl
declares Endless = refl
declares Pivoted = refl
declares Parted = declares_parted

pub short : (e : Example) → length (text_of e) ≤ 67108864
short AnyWhole = omega arith
short LeastWhole = omega arith
short Endless = omega arith
short Pivoted = omega arith
short Parted = omega arith

abbrev pub most_splits : Example → ℕ
most_splits AnyWhole = 0
most_splits LeastWhole = 0
most_splits Endless = 0
most_splits Pivoted = 0
most_splits Parted = 1

pub few_splits : (e : Example) → most_splits e < 10000
few_splits AnyWhole = omega arith
few_splits LeastWhole = omega arith
few_splits Endless = omega arith
few_splits Pivoted = omega arith
few_splits Parted = omega arith

pub unhindered : AreUnhindered any_whole 0 → AreUnhindered least_whole 0 → AreUnhindered endless 0 → AreUnhindered pivoted 0 → AreUnhindered parted 1 → (e : Example) → AreUnhindered (problem_of e) (most_splits e)
unhindered a b c d f AnyWhole = a
unhindered a b c d f LeastWhole = b
unhindered a b c d f Endless = c
unhindered a b c d f Pivoted = d
unhindered a b c d f Parted = f
