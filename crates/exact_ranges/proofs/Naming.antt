-- Columns and rows that are named by their places are added one by one: each name is new.
use Rattle.std.proofs.Common.{◌≡◌, ◌∙◌, ◌+◌, ◌^◌, ◌<◌, ◌≤◌, ◌||◌, nat_lt, ℕ, zero, suc, Bool, true, false, List, [], ◌∷◌, ◌++◌, length, take, get_or, refl, sym, ap, IsTrue, arith}
use Rattle.std.specs.List.{list_all}
use Rattle.std.specs.Str.{bytes_eq}
use Rattle.std.proofs.lemmas.Bool.{and_parts, or_from, false_from_ne_true}
use Rattle.std.proofs.lemmas.Slice.Eq.{bytes_eq-Decides}
use Rattle.std.proofs.lemmas.Bool.Decides.{nat_tests}
use Rattle.rational.specs.Rational.{Rational, zero_ℚ, one_ℚ}
use Rattle.milp.specs.declared.Direction.{Direction}
use Rattle.milp.specs.Form.{Entry}
use Rattle.milp.specs.Problem.{Column, Row, Problem}
use Rattle.instance.specs.WellFormed.{has_column, has_row, are_entries, entry_count}
use Rattle.ranging.specs.PlaceNames.{column_name, row_name, named_columns, named_rows}
use Rattle.exact_ranges.specs.Faults.{is_too_large}
use Rattle.exact_ranges.specs.Reached.{unit_form}
use Rattle.exact_ranges.specs.Parts.{AreForms, problem_of}
use Rattle.exact_ranges.proofs.Entries.{one_before}

-- names of different places differ
abbrev pub Differ : (ℕ → List ℕ) → Type 0
Differ name = (i j : ℕ) → i < 2 ^ 32 → j < 2 ^ 32 → name i ≡ name j → i ≡ j

apart : (name : ℕ → List ℕ) → Differ name → (k i : ℕ) → k < i → i ≤ 1000000 → bytes_eq (name k) (name i) ≡ false
apart name differ k i lt le = false_from_ne_true _ (λ t. let same : k ≡ i = differ k i (omega arith) (omega arith) ((bytes_eq-Decides (name k) (name i)).0 t) in omega (arith, lt, same))

-- ---- columns

new-column : Differ column_name → (k : ℕ) (cs : List Column) (i n : ℕ) → n ≤ length cs → k + n ≤ i → i ≤ 1000000 → has_column (column_name i) (named_columns k (take n cs)) ≡ false
new-column differ k [] i zero le lt most = refl
new-column differ k [] i (suc n) le lt most = absurd (omega arith)
new-column differ k (c ∷ cs) i zero le lt most = refl
new-column differ k (c ∷ cs) i (suc n) le lt most = or_from (bytes_eq (column_name k) (column_name i)) (has_column (column_name i) (named_columns (suc k) (take n cs))) (apart column_name differ k i (omega arith) most) (new-column differ (suc k) cs i n (omega arith) (omega arith) most)

taken-column : (k : ℕ) (cs : List Column) (i : ℕ) (c : Column) → i < length cs → c ≡ get_or cs i c → named_columns k (take (suc i) cs) ≡ named_columns k (take i cs) ++ record c { name = column_name (k + i) } ∷ []
taken-column k [] i c lt is = absurd (omega arith)
taken-column k (d ∷ cs) zero c lt is = let at : k ≡ k + 0 = omega arith in ap (λ (e : Column). record e { name = column_name k } ∷ []) (sym is) ∙ ap (λ n. record c { name = column_name n } ∷ []) at
taken-column k (d ∷ cs) (suc i) c lt is =
    let at : suc k + i ≡ k + suc i = omega arith in
    ap (λ ds. record d { name = column_name k } ∷ ds) (taken-column (suc k) cs i c (omega arith) is ∙ ap (λ n. named_columns (suc k) (take i cs) ++ record c { name = column_name n } ∷ []) at)

module _ (p b : Problem) (cs : List Column) (i place : ℕ) (c made : Column)
    (lt : i < length cs) (is : c ≡ get_or cs i c) (at : place ≡ i) (so_far : b ≡ record p { columns = named_columns 0 (take i cs) }) (is_made : made ≡ record c { name = column_name place }) where
  pub column_is_new : Differ column_name → length cs ≤ 1000000 → has_column made.name b.columns ≡ false
  column_is_new differ few = rw (so_far, is_made, at) (new-column differ 0 cs i i (omega arith) (omega arith) (omega arith))

  pub column_is_next : (a : Problem) → a ≡ record b { columns = b.columns ++ made ∷ [] } → (place + 1 ≡ i + 1) × (a ≡ record p { columns = named_columns 0 (take (i + 1) cs) })
  column_is_next a e =
      let on : i + 1 ≡ suc i = omega arith in
      let from_zero : 0 + i ≡ i = omega arith in
      let taken : named_columns 0 (take (i + 1) cs) ≡ named_columns 0 (take i cs) ++ record c { name = column_name i } ∷ [] = ap (λ n. named_columns 0 (take n cs)) on ∙ taken-column 0 cs i c lt is ∙ ap (λ n. named_columns 0 (take i cs) ++ record c { name = column_name n } ∷ []) from_zero in
      let more : b.columns ++ made ∷ [] ≡ named_columns 0 (take (i + 1) cs) = rw (so_far, is_made, at) (sym taken) in
      (ap (λ n. n + 1) at, e ∙ rw more (ap (λ (q : Problem). record q { columns = named_columns 0 (take (i + 1) cs) }) so_far))

-- ---- rows

new-row : Differ row_name → (k : ℕ) (rs : List Row) (i n : ℕ) → n ≤ length rs → k + n ≤ i → i ≤ 1000000 → has_row (row_name i) (named_rows k (take n rs)) ≡ false
new-row differ k [] i zero le lt most = refl
new-row differ k [] i (suc n) le lt most = absurd (omega arith)
new-row differ k (r ∷ rs) i zero le lt most = refl
new-row differ k (r ∷ rs) i (suc n) le lt most = or_from (bytes_eq (row_name k) (row_name i)) (has_row (row_name i) (named_rows (suc k) (take n rs))) (apart row_name differ k i (omega arith) most) (new-row differ (suc k) rs i n (omega arith) (omega arith) most)

taken-row : (k : ℕ) (rs : List Row) (i : ℕ) (r : Row) → i < length rs → r ≡ get_or rs i r → named_rows k (take (suc i) rs) ≡ named_rows k (take i rs) ++ record r { name = row_name (k + i) } ∷ []
taken-row k [] i r lt is = absurd (omega arith)
taken-row k (d ∷ rs) zero r lt is = let at : k ≡ k + 0 = omega arith in ap (λ (e : Row). record e { name = row_name k } ∷ []) (sym is) ∙ ap (λ n. record r { name = row_name n } ∷ []) at
taken-row k (d ∷ rs) (suc i) r lt is =
    let at : suc k + i ≡ k + suc i = omega arith in
    ap (λ ds. record d { name = row_name k } ∷ ds) (taken-row (suc k) rs i r (omega arith) is ∙ ap (λ n. named_rows (suc k) (take i rs) ++ record r { name = row_name n } ∷ []) at)

form_at : (n : ℕ) (rs : List Row) (i : ℕ) (r : Row) → AreForms n rs → i < length rs → r ≡ get_or rs i r → IsTrue (are_entries n r.entries)
form_at n [] i r h lt is = absurd (omega arith)
form_at n (d ∷ rs) zero r h lt is = ap (λ (e : Row). are_entries n e.entries) is ∙ (and_parts (are_entries n d.entries) (list_all (λ (e : Row). are_entries n e.entries) rs) h).0
form_at n (d ∷ rs) (suc i) r h lt is = form_at n rs i r (and_parts (are_entries n d.entries) (list_all (λ (e : Row). are_entries n e.entries) rs) h).1 (omega arith) is

module _ (p b : Problem) (rs : List Row) (i place : ℕ) (r made : Row)
    (lt : i < length rs) (is : r ≡ get_or rs i r) (at : place ≡ i) (so_far : b ≡ record p { rows = named_rows 0 (take i rs) }) (is_made : made ≡ record r { name = row_name place }) where
  pub row_is_new : Differ row_name → length rs ≤ 1000000 → has_row made.name b.rows ≡ false
  row_is_new differ few = rw (so_far, is_made, at) (new-row differ 0 rs i i (omega arith) (omega arith) (omega arith))

  pub row_is_form : AreForms (length p.columns) rs → IsTrue (are_entries (length b.columns) made.entries)
  row_is_form forms = rw (so_far, is_made) (form_at (length p.columns) rs i r forms lt is)

  pub row_is_next : (a : Problem) → a ≡ record b { rows = b.rows ++ made ∷ [] } → (place + 1 ≡ i + 1) × (a ≡ record p { rows = named_rows 0 (take (i + 1) rs) })
  row_is_next a e =
      let on : i + 1 ≡ suc i = omega arith in
      let from_zero : 0 + i ≡ i = omega arith in
      let taken : named_rows 0 (take (i + 1) rs) ≡ named_rows 0 (take i rs) ++ record r { name = row_name i } ∷ [] = ap (λ n. named_rows 0 (take n rs)) on ∙ taken-row 0 rs i r lt is ∙ ap (λ n. named_rows 0 (take i rs) ++ record r { name = row_name n } ∷ []) from_zero in
      let more : b.rows ++ made ∷ [] ≡ named_rows 0 (take (i + 1) rs) = rw (so_far, is_made, at) (sym taken) in
      (ap (λ n. n + 1) at, e ∙ rw more (ap (λ (q : Problem). record q { rows = named_rows 0 (take (i + 1) rs) }) so_far))

-- ---- the whole

named_count : (k : ℕ) (cs : List Column) → length (named_columns k cs) ≡ length cs
named_count k [] = refl
named_count k (c ∷ cs) = ap suc (named_count (suc k) cs)

pub columns_count : (b p : Problem) (cs : List Column) → b ≡ record p { columns = named_columns 0 cs } → length b.columns ≡ length cs
columns_count b p cs e = ap (λ (q : Problem). length q.columns) e ∙ named_count 0 cs

pub row_columns_count : (b c p : Problem) (cs : List Column) (rs : List Row) → c ≡ record b { rows = rs } → b ≡ record p { columns = named_columns 0 cs } → length c.columns ≡ length cs
row_columns_count b c p cs rs is e = ap (λ (q : Problem). length q.columns) is ∙ columns_count b p cs e

pub built_is : (b c d e r : Problem) (cs : List Column) (rs : List Row) (wanted : Direction) (j : ℕ) (name : List ℕ) (form : List Entry) (number : Rational)
    → c ≡ record b { columns = named_columns 0 cs } → d ≡ record c { rows = named_rows 0 rs } → name ≡ [] → form ≡ unit_form j → number ≡ zero_ℚ
    → e ≡ record d { direction = wanted; objective_name = name; objective = form; constant = number } → r ≡ e → r ≡ problem_of cs rs wanted j
built_is b c d e r cs rs wanted j name form number is_c is_d is_name is_form is_number is_e is_r = is_r ∙ is_e ∙ rw (is_d, is_c, is_name, is_form, is_number) refl

-- the form of one column
pub unit_is_form : (j n m : ℕ) (form : List Entry) → form ≡ unit_form j → m ≡ n → j < n → IsTrue (are_entries m form)
unit_is_form j n m form is same lt = rw (is, same) (one_before 0 n j one_ℚ [] (omega arith) lt refl refl)

-- what is not too large is within the limits of columns and of rows
neither : (a b : Bool) → (a || b) ≡ false → (a ≡ false) × (b ≡ false)
neither true b h = cc
neither false b h = (refl, h)

at_most : (a b : ℕ) → nat_lt a b ≡ false → b ≤ a
at_most a b h = grind (arith, nat_tests)

pub within_limits : (cs : List Column) (rs : List Row) → is_too_large cs rs ≡ false → (length cs ≤ 1000000) × (length rs ≤ 1000000)
within_limits cs rs h =
    let first = neither (nat_lt 1000000 (length cs)) (nat_lt 1000000 (length rs) || nat_lt 20000000 (entry_count rs)) h in
    let second = neither (nat_lt 1000000 (length rs)) (nat_lt 20000000 (entry_count rs)) first.1 in
    (at_most 1000000 (length cs) first.0, at_most 1000000 (length rs) second.0)

named_rows_count : (k : ℕ) (rs : List Row) → length (named_rows k rs) ≡ length rs
named_rows_count k [] = refl
named_rows_count k (r ∷ rs) = ap suc (named_rows_count (suc k) rs)

named_entries : (k : ℕ) (rs : List Row) → entry_count (named_rows k rs) ≡ entry_count rs
named_entries k [] = refl
named_entries k (r ∷ rs) = ap (λ n. length r.entries + n) (named_entries (suc k) rs)

pub named_too_large : (cs : List Column) (rs : List Row) → IsTrue (is_too_large cs rs) → IsTrue (is_too_large (named_columns 0 cs) (named_rows 0 rs))
named_too_large cs rs h = rw (named_count 0 cs, named_rows_count 0 rs, named_entries 0 rs) h
