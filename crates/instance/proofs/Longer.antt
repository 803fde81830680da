-- A well-formed problem stays so with one more column or row.
use Rattle.std.proofs.Common.{◌≡◌, ◌∙◌, ℕ, ◌+◌, ◌<◌, ◌≤◌, true, false, List, [], ◌∷◌, ◌++◌, length, refl, sym, ap, subst, arith}
use Rattle.std.proofs.lemmas.Bool.{and_parts, and_from, not_from_false, ltb-true, lt-ltb}
use Rattle.std.proofs.lemmas.List.{append-nil, append_assoc}
use Rattle.std.proofs.lemmas.List.Folds.{list_all-append}
use Rattle.std.specs.List.{list_all}
use Rattle.milp.specs.Form.{Entry}
use Rattle.milp.specs.Problem.{Column, Row}
use Rattle.instance.specs.WellFormed.{are_entries_from, are_entries, has_column, has_row, are_distinct_columns, are_distinct_rows, entry_count, IsWellFormed}

pub length-snoc : {A : Type 0} → (xs : List A) (x : A) → length (xs ++ x ∷ []) ≡ length xs + 1
length-snoc [] x = refl
length-snoc (y ∷ ys) x = let rest = length-snoc ys x in omega (arith, rest)

-- entries in places below m are in places below a greater n
pub entries_within : (least m n : ℕ) → m ≤ n → (es : List Entry) → are_entries_from least m es ≡ true → are_entries_from least n es ≡ true
entries_within least m n le [] h = refl
entries_within least m n le (e ∷ es) h =
    let low = and_parts _ _ h in
    let below = and_parts _ _ low.1 in
    let some = and_parts _ _ below.1 in
    let within : e.column < m = ltb-true e.column m below.0 in
    and_from _ _ low.0 (and_from _ _ (lt-ltb e.column n (omega arith)) (and_from _ _ some.0 (entries_within (e.column + 1) m n le es some.1)))

entries_more : (least n : ℕ) (es : List Entry) → are_entries_from least n es ≡ true → are_entries_from least (n + 1) es ≡ true
entries_more least n es h = entries_within least n (n + 1) (omega arith) es h

rows_more : (n : ℕ) (rows : List Row) → list_all (λ (r : Row). are_entries n r.entries) rows ≡ true → list_all (λ (r : Row). are_entries (n + 1) r.entries) rows ≡ true
rows_more n [] h = refl
rows_more n (r ∷ rs) h = let parts = and_parts _ _ h in and_from _ _ (entries_more 0 n r.entries parts.0) (rows_more n rs parts.1)

columns_distinct : (before cs : List Column) (c : Column) → are_distinct_columns before cs ≡ true → has_column c.name (before ++ cs) ≡ false → are_distinct_columns before (cs ++ c ∷ []) ≡ true
columns_distinct before [] c h new = and_from _ _ (not_from_false _ (ap (has_column c.name) (sym (append-nil before)) ∙ new)) refl
columns_distinct before (d ∷ ds) c h new =
    let parts = and_parts _ _ h in
    and_from _ _ parts.0 (columns_distinct (before ++ d ∷ []) ds c parts.1 (ap (has_column c.name) (append_assoc before (d ∷ []) ds) ∙ new))

rows_distinct : (before rs : List Row) (r : Row) → are_distinct_rows before rs ≡ true → has_row r.name (before ++ rs) ≡ false → are_distinct_rows before (rs ++ r ∷ []) ≡ true
rows_distinct before [] r h new = and_from _ _ (not_from_false _ (ap (has_row r.name) (sym (append-nil before)) ∙ new)) refl
rows_distinct before (d ∷ ds) r h new =
    let parts = and_parts _ _ h in
    and_from _ _ parts.0 (rows_distinct (before ++ d ∷ []) ds r parts.1 (ap (has_row r.name) (append_assoc before (d ∷ []) ds) ∙ new))

pub with_column : (columns more : List Column) (rows : List Row) (objective : List Entry) (c : Column) → IsWellFormed columns rows objective → has_column c.name columns ≡ false → more ≡ columns ++ c ∷ [] → IsWellFormed more rows objective
with_column columns more rows objective c old new is =
    let size : length columns + 1 ≡ length more = sym (ap length is ∙ length-snoc columns c) in
    record {
      objective_form = subst (λ n. are_entries n objective ≡ true) size (entries_more 0 (length columns) objective old.objective_form);
      row_forms = subst (λ n. list_all (λ (r : Row). are_entries n r.entries) rows ≡ true) size (rows_more (length columns) rows old.row_forms);
      column_names = subst (λ cs. are_distinct_columns [] cs ≡ true) (sym is) (columns_distinct [] columns c old.column_names new);
      row_names = old.row_names;
    }

pub with_row : (columns : List Column) (rows more : List Row) (objective : List Entry) (r : Row) → IsWellFormed columns rows objective → has_row r.name rows ≡ false → are_entries (length columns) r.entries ≡ true → more ≡ rows ++ r ∷ [] → IsWellFormed columns more objective
with_row columns rows more objective r old new form is =
    record {
      objective_form = old.objective_form;
      row_forms = subst (λ rs. list_all (λ (r : Row). are_entries (length columns) r.entries) rs ≡ true) (sym is) (list_all-append _ rows (r ∷ []) ∙ and_from _ _ old.row_forms (and_from _ _ form refl));
      column_names = old.column_names;
      row_names = subst (λ rs. are_distinct_rows [] rs ≡ true) (sym is) (rows_distinct [] rows r old.row_names new);
    }

pub entry_count-snoc : (rows : List Row) (r : Row) → entry_count (rows ++ r ∷ []) ≡ entry_count rows + length r.entries
entry_count-snoc [] r = omega arith
entry_count-snoc (d ∷ ds) r = let rest = entry_count-snoc ds r in omega (arith, rest)
