-- Members that differ have names that differ.
use Rattle.std.proofs.Common.{◌≡◌, ◌++◌, ℕ, Bool, true, false, List, [], ◌∷◌, map, refl, sym, ap, subst}
use Rattle.std.specs.List.{AllByRecursion}
use Rattle.std.specs.Str.{bytes_eq}
use Rattle.std.specs.Cmp.Lexicographic.{same_text}
use Rattle.milp.specs.Problem.{Column, Row}
use Rattle.instance.specs.WellFormed.{has_column, has_row, are_distinct_columns, are_distinct_rows}
use Rattle.gmpl_value.specs.declared.symbol.Symbol.{Symbol}
use Rattle.gmpl_member_names.specs.Names.{member_name}
use Rattle.gmpl_member_names.specs.Narrow.{AreNarrow}
use Rattle.gmpl_member_names.proofs.NamesDiffer.{same_member}
use Rattle.gmpl_rows.specs.Premises.{AreDifferent, IsName}

-- ---- members with the names of their objects

-- an object's name, and subscripts
abbrev pub Member : Type 0
Member = List ℕ × List Symbol

abbrev pub full_name : Member → List ℕ
full_name m = member_name m.0 m.1

abbrev pub IsGood : Member → Type 0
IsGood m = IsName m.0 × AreNarrow m.1

abbrev pub Apart : Member → Member → Type 0
Apart a b = a ≡ b → ⊥

names_apart : (a b : Member) → IsGood a → IsGood b → Apart a b → full_name a ≡ full_name b → ⊥
names_apart a b ga gb apart e =
    let same = same_member a.0 b.0 a.1 b.1 ga.0 gb.0 ga.1 gb.1 e in
    apart (λ j. (same.0 j, same.1 j))

all_names_apart : (a : Member) (ms : List Member) → IsGood a → AllByRecursion IsGood ms → AllByRecursion (Apart a) ms → AllByRecursion (λ n. full_name a ≡ n → ⊥) (map full_name ms)
all_names_apart a [] ga gs apart = tt
all_names_apart a (m ∷ ms) ga gs apart = (names_apart a m ga gs.0 apart.0, all_names_apart a ms ga gs.1 apart.1)

pub names_differ : (ms : List Member) → AllByRecursion IsGood ms → AreDifferent ms → AreDifferent (map full_name ms)
names_differ [] gs d = tt
names_differ (m ∷ ms) gs d = (all_names_apart m ms gs.0 gs.1 d.0, names_differ ms gs.1 d.1)

-- ---- names that differ, as an instance tests it

different_text : (a b : List ℕ) → (a ≡ b → ⊥) → bytes_eq a b ≡ false
different_text a b apart = by (bytes_eq a b) refl
  where
    by : (t : Bool) → bytes_eq a b ≡ t → bytes_eq a b ≡ false
    by true h = absurd (apart (same_text a b (sym h)))
    by false h = h

abbrev pub column_name : Column → List ℕ
column_name c = c.name

abbrev pub row_name : Row → List ℕ
row_name r = r.name

abbrev pub IsOther : List ℕ → List ℕ → Type 0
IsOther n m = m ≡ n → ⊥

fresh_column : (n : List ℕ) (cs : List Column) → AllByRecursion (IsOther n) (map column_name cs) → has_column n cs ≡ false
fresh_column n [] h = refl
fresh_column n (c ∷ cs) h = rw (different_text c.name n h.0) (fresh_column n cs h.1)

fresh_row : (n : List ℕ) (rs : List Row) → AllByRecursion (IsOther n) (map row_name rs) → has_row n rs ≡ false
fresh_row n [] h = refl
fresh_row n (r ∷ rs) h = rw (different_text r.name n h.0) (fresh_row n rs h.1)

-- none of the names before is among those to come
abbrev pub AreFresh : List (List ℕ) → List (List ℕ) → Type 0
AreFresh before ns = AllByRecursion (λ n. AllByRecursion (IsOther n) before) ns

other_more : (n m : List ℕ) (before : List (List ℕ)) → AllByRecursion (IsOther n) before → IsOther n m → AllByRecursion (IsOther n) (before ++ m ∷ [])
other_more n m [] h o = (o, tt)
other_more n m (b ∷ before) h o = (h.0, other_more n m before h.1 o)

fresh_more : (m : List ℕ) (before ns : List (List ℕ)) → AreFresh before ns → AllByRecursion (λ n. m ≡ n → ⊥) ns → AreFresh (before ++ m ∷ []) ns
fresh_more m before [] f a = tt
fresh_more m before (n ∷ ns) f a = (other_more n m before f.0 a.0, fresh_more m before ns f.1 a.1)

columns_map : (cs : List Column) (c : Column) → map column_name (cs ++ c ∷ []) ≡ map column_name cs ++ c.name ∷ []
columns_map [] c = refl
columns_map (d ∷ cs) c = ap (λ ns. d.name ∷ ns) (columns_map cs c)

rows_map : (rs : List Row) (r : Row) → map row_name (rs ++ r ∷ []) ≡ map row_name rs ++ r.name ∷ []
rows_map [] r = refl
rows_map (s ∷ rs) r = ap (λ ns. s.name ∷ ns) (rows_map rs r)

columns_new : (before cs : List Column) → AreFresh (map column_name before) (map column_name cs) → AreDifferent (map column_name cs) → are_distinct_columns before cs ≡ true
columns_new before [] f d = refl
columns_new before (c ∷ cs) f d =
    let fresh = fresh_column c.name before f.0 in
    let later = subst (λ ns. AreFresh ns (map column_name cs)) (sym (columns_map before c)) (fresh_more c.name (map column_name before) (map column_name cs) f.1 d.0) in
    rw fresh (columns_new (before ++ c ∷ []) cs later d.1)

rows_new : (before rs : List Row) → AreFresh (map row_name before) (map row_name rs) → AreDifferent (map row_name rs) → are_distinct_rows before rs ≡ true
rows_new before [] f d = refl
rows_new before (r ∷ rs) f d =
    let fresh = fresh_row r.name before f.0 in
    let later = subst (λ ns. AreFresh ns (map row_name rs)) (sym (rows_map before r)) (fresh_more r.name (map row_name before) (map row_name rs) f.1 d.0) in
    rw fresh (rows_new (before ++ r ∷ []) rs later d.1)

none_before : (ns : List (List ℕ)) → AreFresh [] ns
none_before [] = tt
none_before (n ∷ ns) = (tt, none_before ns)

pub distinct_columns : (cs : List Column) → AreDifferent (map column_name cs) → are_distinct_columns [] cs ≡ true
distinct_columns cs d = columns_new [] cs (none_before (map column_name cs)) d

pub distinct_rows : (rs : List Row) → AreDifferent (map row_name rs) → are_distinct_rows [] rs ≡ true
distinct_rows rs d = rows_new [] rs (none_before (map row_name rs)) d
