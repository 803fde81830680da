-- What is added to a problem in the making is what extends the problem.
use Rattle.std.proofs.Common.{◌≡◌, ◌∙◌, ◌<◌, ◌≤◌, ℕ, suc, ◌+◌, ◌^◌, true, List, [], ◌∷◌, ◌++◌, length, drop, map, refl, ap, subst, arith}
use Rattle.std.specs.List.{list_all, AllByRecursion}
use Rattle.std.proofs.lemmas.List.{drop_more}
use Rattle.milp.specs.Form.{Entry}
use Rattle.milp.specs.Problem.{Column, Row, Problem}
use Rattle.verdicts.specs.Proves.{is_whole_form}
use Rattle.instance.specs.WellFormed.{are_entries, are_distinct_columns, are_distinct_rows}
use Rattle.row_columns.specs.Extended.{moved, moved_row, AreFormColumns, AreTyingRows, IsExtended}
use Rattle.row_columns.specs.Extending.{column_names, row_names, AreWithin, form_column, form_columns, tying_rows}
use Rattle.row_columns.proofs.NewNames.{form_columns_apart, columns_apart, moved_rows_apart, tying_rows_apart}
use Rattle.row_columns.proofs.MovedEntries.{moved_entries, moved_rows_entries, tying_rows_entries}

pub form_columns_left : (prefix : List ℕ) (forms : List (List Entry)) (place : ℕ) → place < length forms → form_columns prefix place (drop place forms) ≡ form_column prefix place ∷ form_columns prefix (place + 1) (drop (place + 1) forms)
form_columns_left prefix forms place h = ap (form_columns prefix place) (drop_more forms place [] h)

-- ---- columns

module _ (prefix : List ℕ) (forms : List (List Entry)) (columns there : List Column) (count : ℕ) (is_count : count ≡ length forms) (fits : count < 2 ^ 32) (empty : there ≡ []) where
  few : length forms ≤ 2 ^ 32
  few = omega (arith, is_count, fits)

  pub new_columns_fit : are_distinct_columns there (form_columns prefix 0 forms) ≡ true
  new_columns_fit = ap (λ cs. are_distinct_columns cs (form_columns prefix 0 forms)) empty ∙ form_columns_apart prefix forms few

  pub columns_fit : (now all : List Column) → now ≡ there ++ form_columns prefix 0 forms → all ≡ columns → AreWithin (length prefix) (column_names columns) → are_distinct_columns [] columns ≡ true → are_distinct_columns now all ≡ true
  columns_fit now all added is within apart = ap (λ cs. are_distinct_columns cs all) (added ∙ ap (λ cs. cs ++ form_columns prefix 0 forms) empty) ∙ ap (are_distinct_columns (form_columns prefix 0 forms)) is ∙ columns_apart prefix forms columns few within apart

  pub all_columns : (now then all : List Column) → now ≡ there ++ form_columns prefix 0 forms → then ≡ now ++ all → all ≡ columns → then ≡ form_columns prefix 0 forms ++ columns
  all_columns now then all added more is = more ∙ ap (λ cs. cs ++ all) (added ∙ ap (λ cs. cs ++ form_columns prefix 0 forms) empty) ∙ ap (λ cs. form_columns prefix 0 forms ++ cs) is

-- ---- rows

module _ (p : Problem) (prefix : List ℕ) (forms : List (List Entry)) (old : Problem) (rows : List Row) (count : ℕ) (is_count : count ≡ length forms) (empty : old.rows ≡ []) (size : length old.columns ≡ count + length p.columns) (is : rows ≡ p.rows) where
  pub moved_rows_fit : are_distinct_rows [] p.rows ≡ true → are_distinct_rows old.rows (map (moved_row count) rows) ≡ true
  moved_rows_fit apart = ap (λ rs. are_distinct_rows rs (map (moved_row count) rows)) empty ∙ ap (λ rs. are_distinct_rows [] (map (moved_row count) rs)) is ∙ moved_rows_apart count p.rows apart

  pub moved_rows_within : list_all (λ (r : Row). are_entries (length p.columns) r.entries) p.rows ≡ true → list_all (λ (r : Row). are_entries (length old.columns) r.entries) (map (moved_row count) rows) ≡ true
  moved_rows_within h = ap (λ rs. list_all (λ (r : Row). are_entries (length old.columns) r.entries) (map (moved_row count) rs)) is ∙ moved_rows_entries count (length p.columns) (length old.columns) p.rows size h

  module _ (now : Problem) (added : now ≡ record old { rows = old.rows ++ map (moved_row count) rows }) where
    rows_now : now.rows ≡ map (moved_row count) p.rows
    rows_now = ap (λ (q : Problem). q.rows) added ∙ ap (λ rs. rs ++ map (moved_row count) rows) empty ∙ ap (map (moved_row count)) is

    pub tying_rows_fit : count < 2 ^ 32 → AreWithin (length prefix) (row_names p.rows) → are_distinct_rows now.rows (tying_rows prefix count 0 forms) ≡ true
    tying_rows_fit fits within = ap (λ rs. are_distinct_rows rs (tying_rows prefix count 0 forms)) rows_now ∙ tying_rows_apart prefix count forms p.rows (omega (arith, is_count, fits)) within

    pub tying_rows_within : (n : ℕ) → AllByRecursion (λ form. are_entries n form ≡ true) forms → list_all (is_whole_form p) forms ≡ true → list_all (λ (r : Row). are_entries (length now.columns) r.entries) (tying_rows prefix count 0 forms) ≡ true
    tying_rows_within n ascending whole = tying_rows_entries p prefix count n (length now.columns) 0 forms (omega (arith, is_count)) (ap (λ (q : Problem). length q.columns) added ∙ size) ascending whole

    pub all_rows : (then : Problem) → then ≡ record now { rows = now.rows ++ tying_rows prefix count 0 forms } → then ≡ record old { rows = map (moved_row count) p.rows ++ tying_rows prefix count 0 forms }
    all_rows then more =
        more
        ∙ ap (λ rs. record now { rows = rs ++ tying_rows prefix count 0 forms }) rows_now
        ∙ ap (λ (q : Problem). record q { rows = map (moved_row count) p.rows ++ tying_rows prefix count 0 forms }) added

-- ---- the objective

pub objective_fits : (p old : Problem) (count : ℕ) (form made : List Entry) → length old.columns ≡ count + length p.columns → are_entries (length p.columns) p.objective ≡ true → form ≡ p.objective → made ≡ moved count form → are_entries (length old.columns) made ≡ true
objective_fits p old count form made size h is made_is = ap (are_entries (length old.columns)) (made_is ∙ ap (moved count) is) ∙ moved_entries count (length p.columns) (length old.columns) p.objective size h

-- ---- the whole problem

are_form_columns : (prefix : List ℕ) (j : ℕ) (forms : List (List Entry)) → AreFormColumns forms (form_columns prefix j forms)
are_form_columns prefix j [] = refl
are_form_columns prefix j (form ∷ forms) = (record { lower = refl; upper = refl; integer = refl }, are_form_columns prefix (j + 1) forms)

are_tying_rows : (prefix : List ℕ) (count j : ℕ) (forms : List (List Entry)) → AreTyingRows count j forms (tying_rows prefix count j forms)
are_tying_rows prefix count j [] = refl
are_tying_rows prefix count j (form ∷ forms) =
    let next : j + 1 ≡ suc j = omega arith in
    (record { lower = refl; upper = refl; entries = refl }, subst (λ k. AreTyingRows count k forms (tying_rows prefix count (j + 1) forms)) next (are_tying_rows prefix count (j + 1) forms))

abbrev with_objective : Problem → ℕ → Problem → Problem
with_objective p count q = record q { direction = p.direction; objective_name = p.objective_name; objective = moved count p.objective; constant = p.constant }

pub extension : (p : Problem) (prefix : List ℕ) (forms : List (List Entry)) (count : ℕ) (a b c q : Problem) → count ≡ length forms → a.columns ≡ form_columns prefix 0 forms ++ p.columns → b ≡ record a { rows = map (moved_row count) p.rows ++ tying_rows prefix count 0 forms } → c ≡ with_objective p count b → q ≡ c → IsExtended p forms q
extension p prefix forms count a b c q is columns rows objective done =
    let n = length forms in
    let whole : q ≡ with_objective p count (record a { rows = map (moved_row count) p.rows ++ tying_rows prefix count 0 forms }) = done ∙ objective ∙ ap (with_objective p count) rows in
    record {
      columns = form_columns prefix 0 forms;
      are_columns = are_form_columns prefix 0 forms;
      all_columns = ap (λ (x : Problem). x.columns) whole ∙ columns;
      rows = tying_rows prefix n 0 forms;
      are_rows = are_tying_rows prefix n 0 forms;
      all_rows = ap (λ (x : Problem). x.rows) whole ∙ ap (λ k. map (moved_row k) p.rows ++ tying_rows prefix k 0 forms) is;
      direction = ap (λ (x : Problem). x.direction) whole;
      objective = ap (λ (x : Problem). x.objective) whole ∙ ap (λ k. moved k p.objective) is;
      constant = ap (λ (x : Problem). x.constant) whole;
    }
