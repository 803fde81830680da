-- Lists of entries by column: one more entry, one more row, and the lists of all rows.
use Rattle.std.proofs.Common.{◌≡◌, ◌∙◌, ◌<◌, ◌≢◌, ℕ, zero, suc, ◌+◌, ◌==◌, Bool, true, false, List, [], ◌∷◌, ◌++◌, length, take, map, get_or, set, refl, sym, ap, subst, zero-add, arith, if◌then◌else◌}
use Rattle.std.specs.List.{All, list_all}
use Rattle.std.proofs.lemmas.Bool.Decides.{nat_tests}
use Rattle.std.proofs.lemmas.List.{map-set, get_or-map, length-map, get_or-set_same, get_or-set_other, append-nil, append_assoc, length-append, length-take-le, take_more}
use Rattle.std.proofs.lemmas.List.Sums.{AllPass-from_list_all}
use Rattle.std.proofs.Math.ListN.{length-set}
use Rattle.milp.specs.Form.{Entry}
use Rattle.milp.specs.Problem.{Column, Row}
use Rattle.instance.specs.WellFormed.{are_entries}
use Rattle.instance.specs.ByColumn.{ColumnEntry, entries_in_form, entries_in_rows, entries_in_column, AreByColumn, with_entry, with_form}
use Rattle.instance.proofs.Sums.{form_in_range}

-- ---- a list that is changed in its place

pub changed : {X : Type 0} (f : X → List ColumnEntry) (g : List ColumnEntry → List ColumnEntry) (xs : List X) (all : List (List ColumnEntry)) (i : ℕ) (x y : X) → map f xs ≡ all → i < length all → x ≡ get_or xs i x → f y ≡ g (f x) → map f (set xs i y) ≡ set all i (g (get_or all i []))
changed {X} f g xs all i x y view lt is e =
    let size : length all ≡ length xs = sym (ap length view) ∙ length-map xs f in
    let there : i < length xs = omega (arith, size, lt) in
    let old : f x ≡ get_or (map f xs) i [] = ap f is ∙ sym (get_or-map f xs i x [] there) in
    let P : List (List ColumnEntry) → Type 0 = λ l. map f (set xs i y) ≡ set l i (g (get_or l i [])) in
    subst P view (map-set f xs i y ∙ ap (set (map f xs) i) (e ∙ ap g old))

-- ---- one more row

length-with_form : (i : ℕ) (es : List Entry) (lists : List (List ColumnEntry)) → length (with_form i es lists) ≡ length lists
length-with_form i [] lists = refl
length-with_form i (e ∷ es) lists = length-with_form i es (with_entry i e lists) ∙ length-set lists e.column _

with_form-snoc : (i : ℕ) (es : List Entry) (e : Entry) (lists : List (List ColumnEntry)) → with_form i (es ++ e ∷ []) lists ≡ with_entry i e (with_form i es lists)
with_form-snoc i [] e lists = refl
with_form-snoc i (d ∷ es) e lists = with_form-snoc i es e (with_entry i d lists)

first : (n : ℕ) (e : Entry) (es : List Entry) → All (λ (d : Entry). d.column < n) (e ∷ es) → e.column < n
first n e es h = h 0 e (omega arith)

rest : (n m : ℕ) (e : Entry) (es : List Entry) → m ≡ n → All (λ (d : Entry). d.column < n) (e ∷ es) → All (λ (d : Entry). d.column < m) es
rest n m e es is h = λ k d lt. let there : (get_or es k d).column < n = h (suc k) d (omega arith) in omega (arith, there, is)

-- ---- the loop over a row's entries

pub next_in_range : (i k : ℕ) (es : List Entry) (e : Entry) (old lists : List (List ColumnEntry)) → All (λ (d : Entry). d.column < length old) es → k < length es → e ≡ get_or es k e → lists ≡ with_form i (take k es) old → e.column < length lists
next_in_range i k es e old lists range lt is now =
    let size : length lists ≡ length old = ap length now ∙ length-with_form i (take k es) old in
    let P : Entry → Type 0 = λ x. x.column < length old in
    let there : e.column < length old = subst P (sym is) (range k e lt) in
    omega (arith, there, size)

pub one_more : (i k : ℕ) (es : List Entry) (e : Entry) (old lists now : List (List ColumnEntry)) → k < length es → e ≡ get_or es k e → lists ≡ with_form i (take k es) old → now ≡ with_entry i e lists → now ≡ with_form i (take (k + 1) es) old
one_more i k es e old lists now lt is so more =
    let last : take (k + 1) es ≡ take k es ++ e ∷ [] = take_more es k e lt ∙ ap (λ (x : Entry). take k es ++ x ∷ []) (sym is) in
    more ∙ ap (with_entry i e) so ∙ sym (with_form-snoc i (take k es) e old) ∙ sym (ap (λ (ds : List Entry). with_form i ds old) last)

-- ---- what the lists hold

equal : (a b : ℕ) → (a == b) ≡ true → b ≡ a
equal a b h = grind (arith, nat_tests)

unequal : (a b : ℕ) → (a == b) ≡ false → b ≢ a
unequal a b h = grind (arith, nat_tests)

entry_at : (k : ℕ) (x : ColumnEntry) (lists : List (List ColumnEntry)) (j : ℕ) (t : Bool) → (k == j) ≡ t → k < length lists → get_or (set lists k (get_or lists k [] ++ x ∷ [])) j [] ≡ get_or lists j [] ++ (if t then x ∷ [] else [])
entry_at k x lists j true is lt =
    let P : ℕ → Type 0 = λ n. get_or (set lists k (get_or lists k [] ++ x ∷ [])) n [] ≡ get_or lists n [] ++ x ∷ [] in
    subst P (sym (equal k j is)) (get_or-set_same lists k (get_or lists k [] ++ x ∷ []) [] lt)
entry_at k x lists j false is lt = get_or-set_other lists k j (get_or lists k [] ++ x ∷ []) [] (unequal k j is) ∙ sym (append-nil (get_or lists j []))

first_then : (t : Bool) (old more : List ColumnEntry) (x : ColumnEntry) → (old ++ (if t then x ∷ [] else [])) ++ more ≡ old ++ (if t then x ∷ more else more)
first_then true old more x = append_assoc old (x ∷ []) more
first_then false old more x = ap (λ (l : List ColumnEntry). l ++ more) (append-nil old)

get_or-with_form : (i : ℕ) (es : List Entry) (lists : List (List ColumnEntry)) (j : ℕ) → All (λ (e : Entry). e.column < length lists) es → get_or (with_form i es lists) j [] ≡ get_or lists j [] ++ entries_in_form i es j
get_or-with_form i [] lists j h = sym (append-nil (get_or lists j []))
get_or-with_form i (e ∷ es) lists j h =
    let more = with_entry i e lists in
    let x : ColumnEntry = record { row = i; coefficient = e.coefficient } in
    let others = get_or-with_form i es more j (rest (length lists) (length more) e es (length-set lists e.column _) h) in
    let one = entry_at e.column x lists j (e.column == j) refl (first (length lists) e es h) in
    others ∙ ap (λ (l : List ColumnEntry). l ++ entries_in_form i es j) one ∙ first_then (e.column == j) (get_or lists j []) (entries_in_form i es j) x

entries_in_rows-snoc : (i : ℕ) (rows : List Row) (r : Row) (j : ℕ) → entries_in_rows i (rows ++ r ∷ []) j ≡ entries_in_rows i rows j ++ entries_in_form (i + length rows) r.entries j
entries_in_rows-snoc i [] r j =
    let here : i + 0 ≡ i = omega arith in
    rw here (append-nil (entries_in_form i r.entries j))
entries_in_rows-snoc i (d ∷ ds) r j =
    let next : i + 1 + length ds ≡ i + length (d ∷ ds) = omega arith in
    let others : entries_in_rows (i + 1) (ds ++ r ∷ []) j ≡ entries_in_rows (i + 1) ds j ++ entries_in_form (i + length (d ∷ ds)) r.entries j = subst (λ (n : ℕ). entries_in_rows (i + 1) (ds ++ r ∷ []) j ≡ entries_in_rows (i + 1) ds j ++ entries_in_form n r.entries j) next (entries_in_rows-snoc (i + 1) ds r j) in
    ap (λ (l : List ColumnEntry). entries_in_form i d.entries j ++ l) others ∙ sym (append_assoc (entries_in_form i d.entries j) (entries_in_rows (i + 1) ds j) (entries_in_form (i + length (d ∷ ds)) r.entries j))

entries_in_column-snoc : (rows : List Row) (r : Row) (j : ℕ) → entries_in_column (rows ++ r ∷ []) j ≡ entries_in_column rows j ++ entries_in_form (length rows) r.entries j
entries_in_column-snoc rows r j =
    let P : ℕ → Type 0 = λ n. entries_in_column (rows ++ r ∷ []) j ≡ entries_in_column rows j ++ entries_in_form n r.entries j in
    subst P (zero-add (length rows)) (entries_in_rows-snoc 0 rows r j)

-- ---- one more column or row

get_or-with_empty : (lists : List (List ColumnEntry)) (j : ℕ) → get_or (lists ++ [] ∷ []) j [] ≡ get_or lists j []
get_or-with_empty [] zero = refl
get_or-with_empty [] (suc j) = refl
get_or-with_empty (l ∷ lists) zero = refl
get_or-with_empty (l ∷ lists) (suc j) = get_or-with_empty lists j

length-snoc : {A : Type 0} (xs : List A) (x : A) → length (xs ++ x ∷ []) ≡ length xs + 1
length-snoc xs x = length-append xs (x ∷ [])

by_column_with_column : (lists : List (List ColumnEntry)) (columns : List Column) (c : Column) → AreByColumn lists columns [] → AreByColumn (lists ++ [] ∷ []) (columns ++ c ∷ []) []
by_column_with_column lists columns c old = record {
  size = length-snoc lists [] ∙ ap (λ (n : ℕ). n + 1) old.size ∙ sym (length-snoc columns c);
  entries = λ j. get_or-with_empty lists j ∙ old.entries j;
}

by_column_with_row : (lists : List (List ColumnEntry)) (columns : List Column) (rows : List Row) (r : Row) → AreByColumn lists columns rows → All (λ (e : Entry). e.column < length lists) r.entries → AreByColumn (with_form (length rows) r.entries lists) columns (rows ++ r ∷ [])
by_column_with_row lists columns rows r old range = record {
  size = length-with_form (length rows) r.entries lists ∙ old.size;
  entries = λ j.
      get_or-with_form (length rows) r.entries lists j range
      ∙ ap (λ (l : List ColumnEntry). l ++ entries_in_form (length rows) r.entries j) (old.entries j)
      ∙ sym (entries_in_column-snoc rows r j);
}

-- ---- the loops over the columns and the rows

pub column_added : (i : ℕ) (columns : List Column) (lists more : List (List ColumnEntry)) → i < length columns → AreByColumn lists (take i columns) [] → more ≡ lists ++ [] ∷ [] → AreByColumn more (take (i + 1) columns) []
column_added i [] lists more lt old is = absurd (omega arith)
column_added i (d ∷ ds) lists more lt old is =
    let columns = d ∷ ds in
    let P : List (List ColumnEntry) → List Column → Type 0 = λ ls cs. AreByColumn ls cs [] in
    subst (λ ls. P ls (take (i + 1) columns)) (sym is) (subst (P (lists ++ [] ∷ [])) (sym (take_more columns i d lt)) (by_column_with_column lists (take i columns) (get_or columns i d) old))

pub row_in_range : (i : ℕ) (columns : List Column) (rows done : List Row) (r : Row) (lists : List (List ColumnEntry)) → i < length rows → r ≡ get_or rows i r → list_all (λ (r : Row). are_entries (length columns) r.entries) rows ≡ true → AreByColumn lists columns done → All (λ (e : Entry). e.column < length lists) r.entries
row_in_range i columns rows done r lists lt is formed old =
    let form : are_entries (length columns) r.entries ≡ true = subst (λ (s : Row). are_entries (length columns) s.entries ≡ true) (sym is) (AllPass-from_list_all _ rows formed i r lt) in
    form_in_range (length columns) (length lists) r.entries old.size form

pub row_added : (i : ℕ) (columns : List Column) (rows : List Row) (r : Row) (lists more : List (List ColumnEntry)) → i < length rows → r ≡ get_or rows i r → list_all (λ (r : Row). are_entries (length columns) r.entries) rows ≡ true → AreByColumn lists columns (take i rows) → more ≡ with_form i r.entries lists → AreByColumn more columns (take (i + 1) rows)
row_added i columns rows r lists more lt is formed old added =
    let place : length (take i rows) ≡ i = length-take-le i rows (omega arith) in
    let longer : more ≡ with_form (length (take i rows)) r.entries lists = added ∙ ap (λ (n : ℕ). with_form n r.entries lists) (sym place) in
    let taken : take (i + 1) rows ≡ take i rows ++ r ∷ [] = take_more rows i r lt ∙ ap (λ (s : Row). take i rows ++ s ∷ []) (sym is) in
    let range = row_in_range i columns rows (take i rows) r lists lt is formed old in
    subst (λ ls. AreByColumn ls columns (take (i + 1) rows)) (sym longer) (subst (λ rs. AreByColumn (with_form (length (take i rows)) r.entries lists) columns rs) (sym taken) (by_column_with_row lists columns (take i rows) r old range))
