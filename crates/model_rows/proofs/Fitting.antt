-- The values of the rows' forms fit, row by row.
use Rattle.std.proofs.Common.{◌≡◌, ℕ, zero, suc, ◌+◌, ◌<◌, List, [], ◌∷◌, drop, slice_get, length, sym, subst, arith}
use Rattle.std.specs.Prelude.{IsOk}
use Rattle.rational.specs.Rational.{Rational, zero_ℚ}
use Rattle.milp.specs.Problem.{Row}
use Rattle.instance.specs.Sums.{sum_answer, form_of}
use Rattle.gmpl_generate.specs.Solved.{RowsFit}

-- one row more, before those behind it
pub with_row : (x : List Rational) (rows : List Row) (i : ℕ) → i < length rows → IsOk (sum_answer x zero_ℚ (form_of (slice_get rows i))) → RowsFit x (drop (i + 1) rows) → RowsFit x (drop i rows)
with_row x [] i inside fits behind = absurd (omega arith)
with_row x (r ∷ rows) zero inside fits behind = (fits, behind)
with_row x (r ∷ rows) (suc i) inside fits behind =
    let next : suc (i + 1) ≡ suc i + 1 = omega arith in
    with_row x rows i (omega arith) fits (subst (λ n. RowsFit x (drop n (r ∷ rows))) (sym next) behind)
