-- New names are apart from one another and from those of the problem.
use Rattle.std.proofs.Common.{◌≡◌, ◌∙◌, ◌<◌, ◌≤◌, ◌⊎◌, inl, inr, ℕ, ◌+◌, ◌^◌, ◌&&◌, ◌||◌, not, Bool, true, false, List, [], ◌∷◌, ◌++◌, length, get_or, take, map, refl, sym, ap, subst, arith}
use Rattle.std.specs.Fmt.{decimal}
use Rattle.std.specs.List.{AllByRecursion, list_any}
use Rattle.std.specs.Str.{bytes_eq}
use Rattle.std.proofs.lemmas.Bool.{and_parts, and_from, or_from, not_from_false, not-true, false_from_ne_true}
use Rattle.std.proofs.lemmas.Fmt.{decimal_injective, decimal_nonempty}
use Rattle.std.proofs.lemmas.List.{append-nil, append_assoc, append_cancel_left, length-append, map_push, map_more}
use Rattle.std.proofs.lemmas.List.Folds.{list_any-append}
use Rattle.std.proofs.lemmas.Slice.Eq.{bytes_eq-Decides}
use Rattle.milp.specs.Form.{Entry}
use Rattle.milp.specs.Problem.{Column, Row}
use Rattle.instance.specs.WellFormed.{has_column, has_row, are_distinct_columns, are_distinct_rows}
use Rattle.row_columns.specs.Extended.{moved_row}
use Rattle.row_columns.specs.Extending.{column_names, row_names, AreWithin, new_name, form_columns, tying_rows}

all_append : {X : Type 0} (P : X → Type 0) (xs ys : List X) → AllByRecursion P xs → AllByRecursion P ys → AllByRecursion P (xs ++ ys)
all_append P [] ys a b = b
all_append P (x ∷ xs) ys a b = (a.0, all_append P xs ys a.1 b)

all_weaker : {X : Type 0} (P Q : X → Type 0) → ((x : X) → P x → Q x) → (xs : List X) → AllByRecursion P xs → AllByRecursion Q xs
all_weaker P Q f [] a = tt
all_weaker P Q f (x ∷ xs) a = (f x a.0, all_weaker P Q f xs a.1)

-- ---- the longest name

within_more : (m n : ℕ) (names : List (List ℕ)) → m ≤ n → AreWithin m names → AreWithin n names
within_more m n names h a = all_weaker (λ name. length name ≤ m) (λ name. length name ≤ n) (λ name k. omega (arith, h, k)) names a

pub one_more_name : {X : Type 0} (f : X → List ℕ) (xs : List X) (i : ℕ) (x : X) (m n : ℕ) → i < length xs → x ≡ get_or xs i x → m ≤ n → length (f x) ≤ n → AreWithin m (map f (take i xs)) → AreWithin n (map f (take (i + 1) xs))
one_more_name f xs i x m n h is le new a =
    let last : map f (take (i + 1) xs) ≡ map f (take i xs) ++ f x ∷ [] = map_more f xs i x h ∙ ap (λ y. map f (take i xs) ++ f y ∷ []) (sym is) in
    subst (AreWithin n) (sym last) (all_append (λ name. length name ≤ n) (map f (take i xs)) (f x ∷ []) (within_more m n (map f (take i xs)) le a) (new, tt))

-- ---- lists of names

abbrev has_name : List ℕ → List (List ℕ) → Bool
has_name name names = list_any (λ n. bytes_eq n name) names

abbrev are_distinct : List (List ℕ) → List (List ℕ) → Bool
are_distinct before [] = true
are_distinct before (n ∷ ns) = not (has_name n before) && are_distinct (before ++ n ∷ []) ns

columns_by_name : (name : List ℕ) (cs : List Column) → has_column name cs ≡ has_name name (column_names cs)
columns_by_name name [] = refl
columns_by_name name (c ∷ cs) = ap (λ b. bytes_eq c.name name || b) (columns_by_name name cs)

distinct_columns : (before cs : List Column) → are_distinct_columns before cs ≡ are_distinct (column_names before) (column_names cs)
distinct_columns before [] = refl
distinct_columns before (c ∷ cs) =
    ap (λ b. not b && are_distinct_columns (before ++ c ∷ []) cs) (columns_by_name c.name before)
    ∙ ap (λ b. not (has_name c.name (column_names before)) && b) (distinct_columns (before ++ c ∷ []) cs ∙ ap (λ ns. are_distinct ns (column_names cs)) (map_push (λ (c : Column). c.name) before c))

rows_by_name : (name : List ℕ) (rs : List Row) → has_row name rs ≡ has_name name (row_names rs)
rows_by_name name [] = refl
rows_by_name name (r ∷ rs) = ap (λ b. bytes_eq r.name name || b) (rows_by_name name rs)

distinct_rows : (before rs : List Row) → are_distinct_rows before rs ≡ are_distinct (row_names before) (row_names rs)
distinct_rows before [] = refl
distinct_rows before (r ∷ rs) =
    ap (λ b. not b && are_distinct_rows (before ++ r ∷ []) rs) (rows_by_name r.name before)
    ∙ ap (λ b. not (has_name r.name (row_names before)) && b) (distinct_rows (before ++ r ∷ []) rs ∙ ap (λ ns. are_distinct ns (row_names rs)) (map_push (λ (r : Row). r.name) before r))

distinct_behind : (new before ys : List (List ℕ)) → AllByRecursion (λ y. has_name y new ≡ false) ys → are_distinct before ys ≡ true → are_distinct (new ++ before) ys ≡ true
distinct_behind new before [] a h = refl
distinct_behind new before (y ∷ ys) a h =
    let parts = and_parts (not (has_name y before)) (are_distinct (before ++ y ∷ []) ys) h in
    let free : has_name y (new ++ before) ≡ false = list_any-append (λ n. bytes_eq n y) new before ∙ or_from (has_name y new) (has_name y before) a.0 (not-true (has_name y before) parts.0) in
    and_from _ _ (not_from_false (has_name y (new ++ before)) free) (ap (λ ns. are_distinct ns ys) (append_assoc new before (y ∷ [])) ∙ distinct_behind new (before ++ y ∷ []) ys a.1 parts.1)

-- ---- new names

-- the name is none longer than the prefix, or that of a place before the j-th
abbrev IsTaken : List ℕ → ℕ → List ℕ → Type 0
IsTaken prefix j name = (length name ≤ length prefix) ⊎ ((k : ℕ) × (k < j) × (name ≡ new_name prefix k))

longer : (prefix : List ℕ) (j : ℕ) → j < 2 ^ 32 → length prefix < length (new_name prefix j)
longer prefix j h =
    let some : 0 < length (decimal j) = decimal_nonempty j (omega arith) in
    let both : length (prefix ++ decimal j) ≡ length prefix + length (decimal j) = length-append prefix (decimal j) in
    omega (arith, some, both)

not_taken : (prefix : List ℕ) (j : ℕ) (name : List ℕ) → j < 2 ^ 32 → IsTaken prefix j name → ¬ (name ≡ new_name prefix j)
not_taken prefix j name h (inl short) e = let l = longer prefix j h in let same : length name ≡ length (new_name prefix j) = ap length e in omega (arith, l, short, same)
not_taken prefix j name h (inr (k, lt, is)) e =
    let same : decimal k ≡ decimal j = append_cancel_left prefix (decimal k) (decimal j) (sym is ∙ e) in
    let place : k ≡ j = decimal_injective k j (omega arith) (omega arith) same in
    omega (arith, lt, place)

free : (prefix : List ℕ) (j : ℕ) (names : List (List ℕ)) → j < 2 ^ 32 → AllByRecursion (IsTaken prefix j) names → has_name (new_name prefix j) names ≡ false
free prefix j [] h a = refl
free prefix j (n ∷ ns) h a = or_from (bytes_eq n (new_name prefix j)) (has_name (new_name prefix j) ns) (false_from_ne_true _ (λ t. not_taken prefix j n h a.0 ((bytes_eq-Decides n (new_name prefix j)).0 t))) (free prefix j ns h a.1)

taken_later : (prefix : List ℕ) (j : ℕ) (name : List ℕ) → IsTaken prefix j name → IsTaken prefix (j + 1) name
taken_later prefix j name (inl short) = inl short
taken_later prefix j name (inr (k, lt, is)) = inr (k, omega arith, is)

abbrev pub new_names : List ℕ → ℕ → List (List Entry) → List (List ℕ)
new_names prefix j [] = []
new_names prefix j (form ∷ forms) = new_name prefix j ∷ new_names prefix (j + 1) forms

new_distinct : (prefix : List ℕ) (j : ℕ) (forms : List (List Entry)) (before : List (List ℕ)) → j + length forms ≤ 2 ^ 32 → AllByRecursion (IsTaken prefix j) before → are_distinct before (new_names prefix j forms) ≡ true
new_distinct prefix j [] before h a = refl
new_distinct prefix j (form ∷ forms) before h a =
    let behind : AllByRecursion (IsTaken prefix (j + 1)) (before ++ new_name prefix j ∷ []) = all_append (IsTaken prefix (j + 1)) before (new_name prefix j ∷ []) (all_weaker (IsTaken prefix j) (IsTaken prefix (j + 1)) (taken_later prefix j) before a) (inr (j, omega arith, refl), tt) in
    and_from _ _ (not_from_false _ (free prefix j before (omega arith) a)) (new_distinct prefix (j + 1) forms (before ++ new_name prefix j ∷ []) (omega arith) behind)

-- a name no longer than the prefix is none of the new ones
old_is_free : (prefix name : List ℕ) (j : ℕ) (forms : List (List Entry)) → j + length forms ≤ 2 ^ 32 → length name ≤ length prefix → has_name name (new_names prefix j forms) ≡ false
old_is_free prefix name j [] h short = refl
old_is_free prefix name j (form ∷ forms) h short =
    or_from (bytes_eq (new_name prefix j) name) (has_name name (new_names prefix (j + 1) forms)) (false_from_ne_true _ (λ t. not_taken prefix j name (omega arith) (inl short) (sym ((bytes_eq-Decides (new_name prefix j) name).0 t))))
    (old_is_free prefix name (j + 1) forms (omega arith) short)

columns_named : (prefix : List ℕ) (j : ℕ) (forms : List (List Entry)) → column_names (form_columns prefix j forms) ≡ new_names prefix j forms
columns_named prefix j [] = refl
columns_named prefix j (form ∷ forms) = ap (λ ns. new_name prefix j ∷ ns) (columns_named prefix (j + 1) forms)

rows_named : (prefix : List ℕ) (count j : ℕ) (forms : List (List Entry)) → row_names (tying_rows prefix count j forms) ≡ new_names prefix j forms
rows_named prefix count j [] = refl
rows_named prefix count j (form ∷ forms) = ap (λ ns. new_name prefix j ∷ ns) (rows_named prefix count (j + 1) forms)

moved_named : (count : ℕ) (rows : List Row) → row_names (map (moved_row count) rows) ≡ row_names rows
moved_named count [] = refl
moved_named count (r ∷ rows) = ap (λ ns. r.name ∷ ns) (moved_named count rows)

-- ---- the columns and rows of the extended problem

pub form_columns_apart : (prefix : List ℕ) (forms : List (List Entry)) → length forms ≤ 2 ^ 32 → are_distinct_columns [] (form_columns prefix 0 forms) ≡ true
form_columns_apart prefix forms h = distinct_columns [] (form_columns prefix 0 forms) ∙ ap (are_distinct []) (columns_named prefix 0 forms) ∙ new_distinct prefix 0 forms [] (omega arith) tt

pub columns_apart : (prefix : List ℕ) (forms : List (List Entry)) (columns : List Column) → length forms ≤ 2 ^ 32 → AreWithin (length prefix) (column_names columns) → are_distinct_columns [] columns ≡ true → are_distinct_columns (form_columns prefix 0 forms) columns ≡ true
columns_apart prefix forms columns h within apart =
    let new = new_names prefix 0 forms in
    let old = column_names columns in
    let free_of : AllByRecursion (λ y. has_name y new ≡ false) old = all_weaker (λ name. length name ≤ length prefix) (λ y. has_name y new ≡ false) (λ y short. old_is_free prefix y 0 forms (omega arith) short) old within in
    distinct_columns (form_columns prefix 0 forms) columns ∙ ap (λ ns. are_distinct ns old) (columns_named prefix 0 forms ∙ sym (append-nil new)) ∙ distinct_behind new [] old free_of (sym (distinct_columns [] columns) ∙ apart)

pub moved_rows_apart : (count : ℕ) (rows : List Row) → are_distinct_rows [] rows ≡ true → are_distinct_rows [] (map (moved_row count) rows) ≡ true
moved_rows_apart count rows h = distinct_rows [] (map (moved_row count) rows) ∙ ap (are_distinct []) (moved_named count rows) ∙ sym (distinct_rows [] rows) ∙ h

-- rows with new names are apart from those whose names are no longer than the prefix
pub new_rows_apart : (prefix : List ℕ) (forms : List (List Entry)) (rows new : List Row) → length forms ≤ 2 ^ 32 → row_names new ≡ new_names prefix 0 forms → AreWithin (length prefix) (row_names rows) → are_distinct_rows rows new ≡ true
new_rows_apart prefix forms rows new h named within =
    distinct_rows rows new
    ∙ ap (are_distinct (row_names rows)) named
    ∙ new_distinct prefix 0 forms (row_names rows) (omega arith) (all_weaker (λ name. length name ≤ length prefix) (IsTaken prefix 0) (λ name short. inl short) (row_names rows) within)

pub tying_rows_apart : (prefix : List ℕ) (count : ℕ) (forms : List (List Entry)) (rows : List Row) → length forms ≤ 2 ^ 32 → AreWithin (length prefix) (row_names rows) → are_distinct_rows (map (moved_row count) rows) (tying_rows prefix count 0 forms) ≡ true
tying_rows_apart prefix count forms rows h within = new_rows_apart prefix forms (map (moved_row count) rows) (tying_rows prefix count 0 forms) h (rows_named prefix count 0 forms) (subst (AreWithin (length prefix)) (sym (moved_named count rows)) within)
