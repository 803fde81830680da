-- Where all operations fit, the sums of a column's entries are its coefficient in the sum of all variables times their weights.
use Rattle.std.proofs.Common.{◌≡◌, ◌∙◌, ℕ, suc, ◌+◌, ◌<◌, ◌==◌, List, [], ◌∷◌, ◌++◌, length, refl, sym, ap, subst, arith, Bool, true, false, cond, Result, Ok, Err}
use Rattle.std.specs.Prelude.{IfOk, if◌then◌else◌}
use Rattle.rational.specs.Rational.{Rational, zero_ℚ, one_ℚ, floor_ℚ, ◌+ℚ◌, ◌*ℚ◌}
use Rattle.rational.proofs.Laws as Q
use Rattle.rational.proofs.Laws.{field}
use Rattle.milp.specs.Form.{Entry, number_at, sum_at}
use Rattle.milp.specs.Problem.{Row, Problem}
use Rattle.fraction.specs.Fits.{fits}
use Rattle.fraction.specs.declared.frac.NoFit.{NoFit}
use Rattle.fraction.specs.Answers.{mul_add_answer}
use Rattle.instance.specs.Sums.{sum_answer}
use Rattle.instance.specs.declared.by_column.ColumnEntry.{ColumnEntry}
use Rattle.instance.specs.ByColumn.{entries_in_form, entries_in_rows, entries_in_column}
use Rattle.instance.proofs.Laws.{sum_fits_ok}
use Rattle.verdicts.specs.WeightedSums.{coefficient_of}
use Rattle.gomory.specs.Cuts.{rows_coefficient, sum_coefficient}
use Rattle.gomory.specs.Faults.{column_answer, bound_answer, IsCoefficientFault}
use Rattle.gomory.proofs.NumberAnswers.{ok_then, if_fits, changed}

-- the entries times the weights of their rows
abbrev entries_sum : List Rational → ℕ → List ColumnEntry → Rational
entries_sum w n [] = zero_ℚ
entries_sum w n (e ∷ es) = e.coefficient *ℚ number_at w (n + e.row) +ℚ entries_sum w n es

mul_add_fits : (q a b : Rational) → IfOk (mul_add_answer q a b) (λ v. v ≡ q *ℚ a +ℚ b)
mul_add_fits q a b = go (fits (q *ℚ a +ℚ b)) (fits (q *ℚ a)) _ _
  where
    go : (s t : Bool) (d e : NoFit) → IfOk (cond s (Ok (q *ℚ a +ℚ b)) (cond t (Err d) (Err e))) (λ v. v ≡ q *ℚ a +ℚ b)
    go true t d e = refl
    go false true d e = tt
    go false false d e = tt

column_fits : (w : List Rational) (n : ℕ) (total : Rational) (es : List ColumnEntry) → IfOk (column_answer w n total es) (λ s. s ≡ total +ℚ entries_sum w n es)
column_fits w n total [] = sym (Q.add-zero total)
column_fits w n total (e ∷ es) =
    let P : Rational → Type 0 = λ s. s ≡ total +ℚ entries_sum w n (e ∷ es) in
    ok_then (mul_add_answer e.coefficient (number_at w (n + e.row)) total) _ (λ t. t ≡ e.coefficient *ℚ number_at w (n + e.row) +ℚ total) P (mul_add_fits _ _ _) (λ t h.
    changed _ _ _ (column_fits w n t es) (ap (λ t. t +ℚ entries_sum w n es) h ∙ order _ total _))
  where
    order : (c t s : Rational) → (c +ℚ t) +ℚ s ≡ t +ℚ (c +ℚ s)
    order c t s = simp field

in_form : (w : List Rational) (n i j : ℕ) (form : List Entry) (rest : List ColumnEntry) → entries_sum w n (entries_in_form i form j ++ rest) ≡ number_at w (n + i) *ℚ coefficient_of form j +ℚ entries_sum w n rest
in_form w n i j [] rest = sym (ap (λ t. t +ℚ entries_sum w n rest) (Q.mul-zero (number_at w (n + i))) ∙ Q.zero-add _)
in_form w n i j (e ∷ form) rest = go (e.column == j) (in_form w n i j form rest)
  where
    order : (k c a s : Rational) → c *ℚ k +ℚ (k *ℚ a +ℚ s) ≡ k *ℚ (c +ℚ a) +ℚ s
    order k c a s = simp field

    go : (t : Bool) → entries_sum w n (entries_in_form i form j ++ rest) ≡ number_at w (n + i) *ℚ coefficient_of form j +ℚ entries_sum w n rest → entries_sum w n ((if t then record { row = i; coefficient = e.coefficient } ∷ entries_in_form i form j else entries_in_form i form j) ++ rest) ≡ number_at w (n + i) *ℚ (cond t e.coefficient zero_ℚ +ℚ coefficient_of form j) +ℚ entries_sum w n rest
    go true h = ap (λ t. e.coefficient *ℚ number_at w (n + i) +ℚ t) h ∙ order (number_at w (n + i)) e.coefficient (coefficient_of form j) (entries_sum w n rest)
    go false h = h ∙ ap (λ t. number_at w (n + i) *ℚ t +ℚ entries_sum w n rest) (sym (Q.zero-add _))

in_rows : (w : List Rational) (n i j : ℕ) (rows : List Row) → entries_sum w n (entries_in_rows i rows j) ≡ rows_coefficient (number_at w) (n + i) rows j
in_rows w n i j [] = refl
in_rows w n i j (row ∷ rows) =
    let e : n + (i + 1) ≡ suc (n + i) = omega arith in
    in_form w n i j row.entries (entries_in_rows (i + 1) rows j) ∙ ap (λ t. number_at w (n + i) *ℚ coefficient_of row.entries j +ℚ t) (in_rows w n (i + 1) j rows ∙ ap (λ m. rows_coefficient (number_at w) m rows j) e)

pub coefficient_ok : (p : Problem) (w : List Rational) (j : ℕ) → IfOk (column_answer w (length p.columns) (number_at w j) (entries_in_column p.rows j)) (λ c. c ≡ sum_coefficient p (number_at w) j)
coefficient_ok p w j =
    let e : length p.columns + 0 ≡ length p.columns = omega arith in
    changed _ _ _ (column_fits w (length p.columns) (number_at w j) (entries_in_column p.rows j)) (ap (λ t. number_at w j +ℚ t) (in_rows w (length p.columns) 0 j p.rows ∙ ap (λ m. rows_coefficient (number_at w) m p.rows j) e))

-- ---- what a call that answers so gives

given : {A : Type 0} → (s : Result A NoFit) (n : A) (P : A → Type 0) → IfOk s P → s ≡ Ok n → P n
given s n P h e = let T : Result _ NoFit → Type 0 = λ r. IfOk r P in subst T e h

-- entries are those of the column, and own is its weight
pub coefficient_is : (p : Problem) (w : List Rational) (j : ℕ) (own : Rational) (entries : List ColumnEntry) (answer : Result Rational NoFit) (n : Rational) → own ≡ number_at w j → entries ≡ entries_in_column p.rows j
    → answer ≡ column_answer w (length p.columns) own entries → answer ≡ Ok n → n ≡ sum_coefficient p (number_at w) j
coefficient_is p w j own entries answer n eo ee e is = given _ n _ (coefficient_ok p w j) (ap (λ t. column_answer w (length p.columns) t (entries_in_column p.rows j)) (sym eo) ∙ ap (column_answer w (length p.columns) own) (sym ee) ∙ sym e ∙ is)

pub coefficient_fault : (p : Problem) (w : List Rational) (j : ℕ) (own : Rational) (entries : List ColumnEntry) (answer : Result Rational NoFit) (o : NoFit) → j < length p.columns → own ≡ number_at w j → entries ≡ entries_in_column p.rows j
    → answer ≡ column_answer w (length p.columns) own entries → answer ≡ Err o → IsCoefficientFault p w o
coefficient_fault p w j own entries answer o known eo ee e is = record {
  column = j;
  known = known;
  unfit = ap (λ t. column_answer w (length p.columns) t (entries_in_column p.rows j)) (sym eo) ∙ ap (column_answer w (length p.columns) own) (sym ee) ∙ sym e ∙ is;
}

bound_ok : (x : List Rational) (form : List Entry) → IfOk (bound_answer x form) (λ b. b ≡ sum_at x form +ℚ one_ℚ)
bound_ok x form =
    let P : Rational → Type 0 = λ b. b ≡ sum_at x form +ℚ one_ℚ in
    ok_then (sum_answer x zero_ℚ form) _ (λ t. t ≡ sum_at x form) P (sum_fits_ok x form) (λ t h. changed _ _ _ (if_fits _ _ _) (ap (λ t. t +ℚ one_ℚ) h))

pub bound_is : (x : List Rational) (form : List Entry) (answer : Result Rational NoFit) (n : Rational) → answer ≡ bound_answer x form → answer ≡ Ok n → n ≡ sum_at x form +ℚ one_ℚ
bound_is x form answer n e is = given _ n _ (bound_ok x form) (sym e ∙ is)

pub floor_is : (x : List Rational) (form : List Entry) (answer : Result Rational NoFit) (n : Rational) → answer ≡ sum_answer x zero_ℚ form → answer ≡ Ok n → floor_ℚ n ≡ floor_ℚ (sum_at x form)
floor_is x form answer n e is = ap floor_ℚ (given _ n _ (sum_fits_ok x form) (sym e ∙ is))
