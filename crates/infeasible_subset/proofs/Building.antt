-- A problem with fewer bounds is an instance, as the problem is: its names are new, and its forms are over its columns.
use Rattle.std.proofs.Common.{◌≡◌, ◌∙◌, ◌<◌, ◌+◌, ℕ, zero, suc, List, [], ◌∷◌, ◌++◌, length, take, get_or, Bool, true, false, ◌||◌, not, IsTrue, refl, sym, ap, arith}
use Rattle.std.proofs.lemmas.Bool.{and_parts}
use Rattle.std.proofs.lemmas.List.{append-nil, append_assoc}
use Rattle.std.specs.Str.{bytes_eq}
use Rattle.rational.specs.Rational.{Rational, zero_ℚ}
use Rattle.milp.specs.declared.Direction.{Direction}
use Rattle.milp.specs.Form.{Entry}
use Rattle.milp.specs.Problem.{Column, Row, Problem}
use Rattle.instance.specs.WellFormed.{has_column, has_row, are_distinct_columns, are_distinct_rows}
use Rattle.infeasible_subset.specs.Members.{Side, Member, OfRow, OfColumn}
use Rattle.infeasible_subset.specs.Subsets.{sub_row, sub_rows, sub_column, sub_columns, sub}
use Rattle.infeasible_subset.specs.Building.{AreNewColumns, AreNewRows, AreForms}

not_below_zero : (i : ℕ) → i < zero → ⊥
not_below_zero i h = omega arith

not_true : (b : Bool) → not b ≡ true → b ≡ false
not_true true h = cc
not_true false h = refl

-- ---- columns

same_names-column : (keep : ℕ → Side → Bool) (name : List ℕ) (xs : List Column) → has_column name (sub_columns keep xs) ≡ has_column name xs
same_names-column keep name [] = refl
same_names-column keep name (x ∷ xs) = ap (λ b. bytes_eq x.name name || b) (same_names-column (λ k. keep (suc k)) name xs)

taken-column : (keep : ℕ → Side → Bool) (xs : List Column) (i : ℕ) (x : Column) → i < length xs → x ≡ get_or xs i x → sub_columns keep (take (suc i) xs) ≡ sub_columns keep (take i xs) ++ sub_column (keep i) x ∷ []
taken-column keep [] i x lt is = absurd (not_below_zero i lt)
taken-column keep (y ∷ ys) zero x lt is = ap (λ z. sub_column (keep zero) z ∷ []) (sym is)
taken-column keep (y ∷ ys) (suc i) x lt is = ap (λ zs. sub_column (keep zero) y ∷ zs) (taken-column (λ k. keep (suc k)) ys i x (omega arith) is)

new-column : (before xs : List Column) (i : ℕ) (x : Column) → IsTrue (are_distinct_columns before xs) → i < length xs → x ≡ get_or xs i x → has_column x.name (before ++ take i xs) ≡ false
new-column before [] i x h lt is = absurd (not_below_zero i lt)
new-column before (y ∷ ys) zero x h lt is = rw (append-nil before, is) (not_true (has_column y.name before) (and_parts (not (has_column y.name before)) (are_distinct_columns (before ++ y ∷ []) ys) h).0)
new-column before (y ∷ ys) (suc i) x h lt is = ap (has_column x.name) (sym (append_assoc before (y ∷ []) (take i ys))) ∙ new-column (before ++ y ∷ []) ys i x (and_parts (not (has_column y.name before)) (are_distinct_columns (before ++ y ∷ []) ys) h).1 (omega arith) is

module _ (p b : Problem) (keep : ℕ → Side → Bool) (xs : List Column) (i place : ℕ) (x made : Column)
    (lt : i < length xs) (is : x ≡ get_or xs i x) (at : place ≡ i) (so_far : b ≡ record p { columns = sub_columns keep (take i xs) }) (is_made : made ≡ sub_column (keep place) x) where
  pub column_is_new : AreNewColumns xs → has_column made.name b.columns ≡ false
  column_is_new h = rw (so_far, is_made) (same_names-column keep x.name (take i xs) ∙ new-column [] xs i x h lt is)

  pub column_is_next : (a : Problem) → a ≡ record b { columns = b.columns ++ made ∷ [] } → (place + 1 ≡ i + 1) × (a ≡ record p { columns = sub_columns keep (take (i + 1) xs) })
  column_is_next a e =
      let on : i + 1 ≡ suc i = omega arith in
      let more : b.columns ++ made ∷ [] ≡ sub_columns keep (take (i + 1) xs) = rw (so_far, is_made, at, on) (sym (taken-column keep xs i x lt is)) in
      (ap (λ n. n + 1) at, e ∙ rw more (ap (λ (q : Problem). record q { columns = sub_columns keep (take (i + 1) xs) }) so_far))

-- ---- rows

same_names-row : (keep : ℕ → Side → Bool) (name : List ℕ) (xs : List Row) → has_row name (sub_rows keep xs) ≡ has_row name xs
same_names-row keep name [] = refl
same_names-row keep name (x ∷ xs) = ap (λ b. bytes_eq x.name name || b) (same_names-row (λ k. keep (suc k)) name xs)

taken-row : (keep : ℕ → Side → Bool) (xs : List Row) (i : ℕ) (x : Row) → i < length xs → x ≡ get_or xs i x → sub_rows keep (take (suc i) xs) ≡ sub_rows keep (take i xs) ++ sub_row (keep i) x ∷ []
taken-row keep [] i x lt is = absurd (not_below_zero i lt)
taken-row keep (y ∷ ys) zero x lt is = ap (λ z. sub_row (keep zero) z ∷ []) (sym is)
taken-row keep (y ∷ ys) (suc i) x lt is = ap (λ zs. sub_row (keep zero) y ∷ zs) (taken-row (λ k. keep (suc k)) ys i x (omega arith) is)

new-row : (before xs : List Row) (i : ℕ) (x : Row) → IsTrue (are_distinct_rows before xs) → i < length xs → x ≡ get_or xs i x → has_row x.name (before ++ take i xs) ≡ false
new-row before [] i x h lt is = absurd (not_below_zero i lt)
new-row before (y ∷ ys) zero x h lt is = rw (append-nil before, is) (not_true (has_row y.name before) (and_parts (not (has_row y.name before)) (are_distinct_rows (before ++ y ∷ []) ys) h).0)
new-row before (y ∷ ys) (suc i) x h lt is = ap (has_row x.name) (sym (append_assoc before (y ∷ []) (take i ys))) ∙ new-row (before ++ y ∷ []) ys i x (and_parts (not (has_row y.name before)) (are_distinct_rows (before ++ y ∷ []) ys) h).1 (omega arith) is

module _ (p b : Problem) (keep : ℕ → Side → Bool) (xs : List Row) (i place : ℕ) (x made : Row)
    (lt : i < length xs) (is : x ≡ get_or xs i x) (at : place ≡ i) (so_far : b ≡ record p { rows = sub_rows keep (take i xs) }) (is_made : made ≡ sub_row (keep place) x) where
  pub row_is_new : AreNewRows xs → has_row made.name b.rows ≡ false
  row_is_new h = rw (so_far, is_made) (same_names-row keep x.name (take i xs) ∙ new-row [] xs i x h lt is)

  pub row_is_next : (a : Problem) → a ≡ record b { rows = b.rows ++ made ∷ [] } → (place + 1 ≡ i + 1) × (a ≡ record p { rows = sub_rows keep (take (i + 1) xs) })
  row_is_next a e =
      let on : i + 1 ≡ suc i = omega arith in
      let more : b.rows ++ made ∷ [] ≡ sub_rows keep (take (i + 1) xs) = rw (so_far, is_made, at, on) (sym (taken-row keep xs i x lt is)) in
      (ap (λ n. n + 1) at, e ∙ rw more (ap (λ (q : Problem). record q { rows = sub_rows keep (take (i + 1) xs) }) so_far))

-- ---- the whole

column_count : (keep : ℕ → Side → Bool) (cs : List Column) → length (sub_columns keep cs) ≡ length cs
column_count keep [] = refl
column_count keep (c ∷ cs) = ap suc (column_count (λ k. keep (suc k)) cs)

pub forms_kept : (b p : Problem) (keep : ℕ → Side → Bool) (cs ds : List Column) (rs ts : List Row) → b ≡ record p { columns = sub_columns keep ds } → ds ≡ cs → ts ≡ rs → AreForms (length cs) rs → AreForms (length b.columns) ts
forms_kept b p keep cs ds rs ts e same_columns same_rows h =
    let count : length b.columns ≡ length cs = ap (λ (q : Problem). length q.columns) e ∙ column_count keep ds ∙ ap length same_columns in
    rw (count, same_rows) h

pub built : (p b c d e r : Problem) (keep : Member → Bool) (cs : List Column) (rs : List Row) (way : Direction) (name text : List ℕ) (form : List Entry) (number : Rational)
    → c ≡ record b { columns = sub_columns (λ j s. keep (OfColumn j s)) cs } → cs ≡ p.columns
    → d ≡ record c { rows = sub_rows (λ i s. keep (OfRow i s)) rs } → rs ≡ p.rows
    → way ≡ p.direction → name ≡ text → text ≡ p.objective_name → form ≡ [] → number ≡ zero_ℚ
    → e ≡ record d { direction = way; objective_name = name; objective = form; constant = number } → r ≡ e → r ≡ sub p keep
built p b c d e r keep cs rs way name text form number is_c same_columns is_d same_rows is_way is_name is_text is_form is_number is_e is_r =
    is_r ∙ is_e ∙ rw (is_d, is_c, same_columns, same_rows, is_way, is_name, is_text, is_form, is_number) refl
