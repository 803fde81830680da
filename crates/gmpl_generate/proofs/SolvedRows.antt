-- One row after the other, with the member that it comes from, and its dual value.
use Rattle.std.proofs.Common.{◌≡◌, ◌∙◌, ℕ, zero, suc, ◌+◌, ◌<◌, ◌≤◌, List, [], ◌∷◌, drop, get_or, slice_get, length, refl, sym, ap, subst, arith}
use Rattle.std.specs.Prelude.{IsOk}
use Rattle.std.proofs.lemmas.List.{drop_all}
use Rattle.rational.specs.Rational.{Rational, zero_ℚ}
use Rattle.milp.specs.Form.{sum_at}
use Rattle.milp.specs.Problem.{Row}
use Rattle.instance.specs.Sums.{sum_answer, form_of}
use Rattle.gmpl_solution.specs.declared.dual.Dual.{Dual}
use Rattle.gmpl_solution.specs.declared.member.Member.{Member}
use Rattle.gmpl_solution.specs.Solution.{Solution}
use Rattle.gmpl_generate.specs.Solved.{RowsFit, with_rows, with_solved_row}

pub record AtRow (x : List Rational) (rows : List Row) (i : ℕ) (r : Row) : Type 0 where
  pub fits : IsOk (sum_answer x zero_ℚ (form_of (slice_get rows i)))
  pub left : RowsFit x (drop (i + 1) rows)
  pub solved : (m : Member) (ms : List Member) (d : Dual) (ds : List Dual) (s : Solution) → with_rows x (m ∷ ms) (drop i rows) (d ∷ ds) s ≡ with_rows x ms (drop (i + 1) rows) ds (with_solved_row m r (sum_at x (form_of (slice_get rows i))) d s)

at_row : (x : List Rational) (rows : List Row) (i : ℕ) (r : Row) → i < length rows → r ≡ get_or rows i r → RowsFit x (drop i rows) → AtRow x rows i r
at_row x [] i r inside is fit = absurd (omega arith)
at_row x (row ∷ rows) zero r inside is fit = record { fits = fit.0; left = fit.1; solved = λ m ms d ds s. ap (λ (z : Row). with_rows x ms rows ds (with_solved_row m z (sum_at x row.entries) d s)) (sym is) }
at_row x (row ∷ rows) (suc i) r inside is fit =
    let rest = at_row x rows i r (omega arith) is fit in
    let next : suc (i + 1) ≡ suc i + 1 = omega arith in
    record {
      fits = rest.fits;
      left = subst (λ n. RowsFit x (drop n (row ∷ rows))) next rest.left;
      solved = λ m ms d ds s. subst (λ n. with_rows x (m ∷ ms) (drop i rows) (d ∷ ds) s ≡ with_rows x ms (drop n (row ∷ rows)) ds (with_solved_row m r (sum_at x (form_of (slice_get rows i))) d s)) next (rest.solved m ms d ds s);
    }

-- of rows that are read from elsewhere
pub at_row_of : (x : List Rational) (rows others : List Row) (i : ℕ) (r : Row) → others ≡ rows → i < length others → r ≡ get_or others i r → RowsFit x (drop i rows) → AtRow x rows i r
at_row_of x rows others i r same inside is fit = at_row x rows i r (rw (← same) inside) (is ∙ ap (λ (l : List Row). get_or l i r) same) fit

pub next_row : (x : List Rational) (rows : List Row) (i : ℕ) (r : Row) (m : Member) (ms left : List Member) (d : Dual) (ds duals_left : List Dual) (s more all : Solution)
    → AtRow x rows i r → left ≡ m ∷ ms → duals_left ≡ d ∷ ds → with_rows x left (drop i rows) duals_left s ≡ all → more ≡ with_solved_row m r (sum_at x (form_of (slice_get rows i))) d s
    → with_rows x ms (drop (i + 1) rows) ds more ≡ all
next_row x rows i r m ms left d ds duals_left s more all at is dual_is before more_is =
    ap (with_rows x ms (drop (i + 1) rows) ds) more_is ∙ sym (at.solved m ms d ds s) ∙ ap (λ (l : List Member). with_rows x l (drop i rows) (d ∷ ds) s) (sym is)
    ∙ ap (λ (l : List Dual). with_rows x left (drop i rows) l s) (sym dual_is) ∙ before

-- behind the last row
pub all_gone : (x : List Rational) (ms : List Member) (rows others : List Row) (i : ℕ) (ds : List Dual) (s : Solution) → others ≡ rows → length others ≤ i → with_rows x ms (drop i rows) ds s ≡ s
all_gone x ms rows others i ds s same past = gone ms (drop i rows) ds (drop_all i rows (subst (λ (l : List Row). length l ≤ i) same past))
  where
    gone : (ns : List Member) (rs : List Row) (es : List Dual) → rs ≡ [] → with_rows x ns rs es s ≡ s
    gone [] rs es e = refl
    gone (n ∷ ns) rs [] e = refl
    gone (n ∷ ns) [] (d ∷ es) e = refl
    gone (n ∷ ns) (r ∷ rs) (d ∷ es) e = cc
