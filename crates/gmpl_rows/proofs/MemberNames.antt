-- Columns and rows have the names of the members that they come from, and columns their bounds.
use Rattle.std.proofs.Common.{◌≡◌, ◌∙◌, ℕ, zero, suc, ◌+◌, Bool, true, false, cond, get_or, drop, List, [], ◌∷◌, ◌++◌, length, map, slice_get, Option, Some, None, refl, sym, ap, arith}
use Rattle.std.proofs.lemmas.List.{append_assoc}
use Rattle.milp.specs.Problem.{Problem, Row}
use Rattle.gmpl_value.specs.declared.symbol.Symbol.{Symbol}
use Rattle.gmpl_member_names.specs.Names.{member_name}
use Rattle.gmpl_rows.specs.Demanded.{Demanded}
use Rattle.gmpl_rows.specs.Draft.{Draft, row_member}
use Rattle.gmpl_rows.specs.MemberColumn.{MemberColumn, is_used}
use Rattle.gmpl_rows.specs.Problem.{LaidColumn, laid_member, laid_in, laid_out, column_of, rows_from, rows_of, columns_of, objective_of, aimed_at, plain, problem_of, name_of, nothing_declared, used_member, used_members, members_from, column_members, row_members, named_among, column_named, own_bounds, column_name, column_bounds, row_name}
use Rattle.gmpl_rows.specs.declared.declared.Declared.{Declared}
use Rattle.gmpl_rows.specs.declared.draft.ObjectiveRow.{ObjectiveRow}
use Rattle.gmpl_rows.specs.declared.draft.RowHead.{RowHead}
use Rattle.gmpl_rows.specs.declared.members.ColumnMember.{ColumnMember}
use Rattle.gmpl_rows.specs.declared.term.Bounds.{Bounds}

map_append : {X Y : Type 0} (f : X → Y) (xs ys : List X) → map f (xs ++ ys) ≡ map f xs ++ map f ys
map_append f [] ys = refl
map_append f (x ∷ xs) ys = ap (λ l. f x ∷ l) (map_append f xs ys)

map_length : {X Y : Type 0} (f : X → Y) (xs : List X) → length (map f xs) ≡ length xs
map_length f [] = refl
map_length f (x ∷ xs) = ap suc (map_length f xs)

-- ---- what the objective leaves as it is

columns_stay : (o : Option ObjectiveRow) (rows : List Row) (p : Problem) → (aimed_at o rows p).columns ≡ p.columns
columns_stay None rows p = refl
columns_stay (Some a) rows p = by (slice_get rows a.row)
  where
    by : (r : Option Row) → (objective_of a r p).columns ≡ p.columns
    by None = refl
    by (Some r) = refl

rows_stay : (o : Option ObjectiveRow) (rows : List Row) (p : Problem) → (aimed_at o rows p).rows ≡ p.rows
rows_stay None rows p = refl
rows_stay (Some a) rows p = by (slice_get rows a.row)
  where
    by : (r : Option Row) → (objective_of a r p).rows ≡ p.rows
    by None = refl
    by (Some r) = refl

-- ---- columns

at_head : (all : List Declared) (i : ℕ) (v : Declared) (vs : List Declared) → drop i all ≡ v ∷ vs → get_or all i nothing_declared ≡ v
at_head [] zero v vs is = cc
at_head [] (suc i) v vs is = cc
at_head (w ∷ all) zero v vs is = cc
at_head (w ∷ all) (suc i) v vs is = at_head all i v vs is

behind : (all : List Declared) (i : ℕ) (v : Declared) (vs : List Declared) → drop i all ≡ v ∷ vs → drop (i + 1) all ≡ vs
behind [] zero v vs is = cc
behind [] (suc i) v vs is = cc
behind (w ∷ all) zero v vs is = cc
behind (w ∷ all) (suc i) v vs is = let e : suc i + 1 ≡ suc (i + 1) = omega arith in rw e (behind all i v vs is)

abbrev name_of_laid : LaidColumn → List ℕ
name_of_laid l = column_name (column_of l)

names_in : (all : List Declared) (i : ℕ) (v : Declared) (ms : List (List Symbol)) (ks : List MemberColumn) → get_or all i nothing_declared ≡ v → map name_of_laid (laid_in v ms ks) ≡ map (column_named all) (used_members i ms ks)
names_in all i v [] ks is = refl
names_in all i v (m ∷ ms) [] is = refl
names_in all i v (m ∷ ms) (k ∷ ks) is = by (is_used k) (names_in all i v ms ks is)
  where
    by : (t : Bool) → map name_of_laid (laid_in v ms ks) ≡ map (column_named all) (used_members i ms ks)
        → map name_of_laid (cond t (laid_member v m k ∷ laid_in v ms ks) (laid_in v ms ks)) ≡ map (column_named all) (cond t (record { member = record { statement = i; subscripts = m }; bounds = k.bounds } ∷ []) [] ++ used_members i ms ks)
    by true rest = ap (λ n. n ∷ map name_of_laid (laid_in v ms ks)) (ap (λ (o : Declared). member_name o.name m) (sym is)) ∙ ap (λ ns. member_name (name_of all i) m ∷ ns) rest
    by false rest = rest

names_out : (all : List Declared) (i : ℕ) (vs : List Declared) (ds : List Demanded) → drop i all ≡ vs → map name_of_laid (laid_out vs ds) ≡ map (column_named all) (members_from i vs ds)
names_out all i [] ds is = refl
names_out all i (v ∷ vs) [] is = refl
names_out all i (v ∷ vs) (d ∷ ds) is =
    map_append name_of_laid (laid_in v d.members d.columns) (laid_out vs ds)
    ∙ ap (λ ns. ns ++ map name_of_laid (laid_out vs ds)) (names_in all i v d.members d.columns (at_head all i v vs is))
    ∙ ap (λ ns. map (column_named all) (used_members i d.members d.columns) ++ ns) (names_out all (i + 1) vs ds (behind all i v vs is))
    ∙ sym (map_append (column_named all) (used_members i d.members d.columns) (members_from (i + 1) vs ds))

map_map : (ls : List LaidColumn) → map column_name (map column_of ls) ≡ map name_of_laid ls
map_map [] = refl
map_map (l ∷ ls) = ap (λ ns. name_of_laid l ∷ ns) (map_map ls)

pub columns_are : (d : Draft) → map column_name (problem_of d).columns ≡ map (column_named d.objects) (column_members d)
columns_are d =
    ap (map column_name) (columns_stay d.objective (rows_of d) (plain (columns_of d) (rows_of d)))
    ∙ map_map (laid_out d.objects d.variables) ∙ names_out d.objects 0 d.objects d.variables refl

-- ---- the columns' bounds

abbrev bounds_of_laid : LaidColumn → Bounds
bounds_of_laid l = column_bounds (column_of l)

bounds_in : (i : ℕ) (v : Declared) (ms : List (List Symbol)) (ks : List MemberColumn) → map bounds_of_laid (laid_in v ms ks) ≡ map own_bounds (used_members i ms ks)
bounds_in i v [] ks = refl
bounds_in i v (m ∷ ms) [] = refl
bounds_in i v (m ∷ ms) (k ∷ ks) = by (is_used k) (bounds_in i v ms ks)
  where
    by : (t : Bool) → map bounds_of_laid (laid_in v ms ks) ≡ map own_bounds (used_members i ms ks)
        → map bounds_of_laid (cond t (laid_member v m k ∷ laid_in v ms ks) (laid_in v ms ks)) ≡ map own_bounds (cond t (record { member = record { statement = i; subscripts = m }; bounds = k.bounds } ∷ []) [] ++ used_members i ms ks)
    by true rest = ap (λ bs. k.bounds ∷ bs) rest
    by false rest = rest

bounds_out : (i : ℕ) (vs : List Declared) (ds : List Demanded) → map bounds_of_laid (laid_out vs ds) ≡ map own_bounds (members_from i vs ds)
bounds_out i [] ds = refl
bounds_out i (v ∷ vs) [] = refl
bounds_out i (v ∷ vs) (d ∷ ds) =
    map_append bounds_of_laid (laid_in v d.members d.columns) (laid_out vs ds)
    ∙ ap (λ bs. bs ++ map bounds_of_laid (laid_out vs ds)) (bounds_in i v d.members d.columns)
    ∙ ap (λ bs. map own_bounds (used_members i d.members d.columns) ++ bs) (bounds_out (i + 1) vs ds)
    ∙ sym (map_append own_bounds (used_members i d.members d.columns) (members_from (i + 1) vs ds))

map_bounds : (ls : List LaidColumn) → map column_bounds (map column_of ls) ≡ map bounds_of_laid ls
map_bounds [] = refl
map_bounds (l ∷ ls) = ap (λ bs. bounds_of_laid l ∷ bs) (map_bounds ls)

pub bounds_are : (d : Draft) → map column_bounds (problem_of d).columns ≡ map own_bounds (column_members d)
bounds_are d =
    ap (map column_bounds) (columns_stay d.objective (rows_of d) (plain (columns_of d) (rows_of d)))
    ∙ map_bounds (laid_out d.objects d.variables) ∙ bounds_out 0 d.objects d.variables

-- ---- rows

names_rows : (vs : List Declared) (ls : List LaidColumn) (i : ℕ) (hs : List RowHead) → map row_name (rows_from vs ls i hs) ≡ map (named_among vs) (map row_member hs)
names_rows vs ls i [] = refl
names_rows vs ls i (h ∷ hs) = ap (λ ns. named_among vs (row_member h) ∷ ns) (names_rows vs ls (i + 1) hs)

pub rows_are : (d : Draft) → map row_name (problem_of d).rows ≡ map (named_among d.objects) (row_members d)
rows_are d =
    ap (map row_name) (rows_stay d.objective (rows_of d) (plain (columns_of d) (rows_of d)))
    ∙ names_rows d.objects (laid_out d.objects d.variables) 0 d.rows

-- ---- how many there are

pub columns_count : (d : Draft) → length (problem_of d).columns ≡ length (column_members d)
columns_count d =
    sym (map_length column_name (problem_of d).columns) ∙ ap (λ (ns : List (List ℕ)). length ns) (columns_are d) ∙ map_length (column_named d.objects) (column_members d)

pub rows_count : (d : Draft) → length (problem_of d).rows ≡ length (row_members d)
rows_count d =
    sym (map_length row_name (problem_of d).rows) ∙ ap (λ (ns : List (List ℕ)). length ns) (rows_are d) ∙ map_length (named_among d.objects) (row_members d)

-- ---- the members of one variable, place by place

head : {X : Type 0} (x y : X) (xs : List X) → slice_get (x ∷ xs) 0 ≡ Some y → x ≡ y
head x y xs e = cc

next : (s : ℕ) (ms : List (List Symbol)) (ks : List MemberColumn) (j : ℕ) (m : List Symbol) (k : MemberColumn) → slice_get ms j ≡ Some m → slice_get ks j ≡ Some k → used_members s (drop j ms) (drop j ks) ≡ used_member s m k ++ used_members s (drop (j + 1) ms) (drop (j + 1) ks)
next s [] ks j m k a b = cc
next s (n ∷ ms) [] j m k a b = cc
next s (n ∷ ms) (l ∷ ks) zero m k a b = rw (head n m ms a, head l k ks b) refl
next s (n ∷ ms) (l ∷ ks) (suc j) m k a b = let e : suc j + 1 ≡ suc (j + 1) = omega arith in rw e (next s ms ks j m k a b)

pub used-more : (s : ℕ) (ms : List (List Symbol)) (ks : List MemberColumn) (j : ℕ) (m : List Symbol) (k : MemberColumn) (found more all : List ColumnMember) → slice_get ms j ≡ Some m → slice_get ks j ≡ Some k → more ≡ found ++ used_member s m k → found ++ used_members s (drop j ms) (drop j ks) ≡ all → more ++ used_members s (drop (j + 1) ms) (drop (j + 1) ks) ≡ all
used-more s ms ks j m k found more all a b is e =
    ap (λ (l : List ColumnMember). l ++ used_members s (drop (j + 1) ms) (drop (j + 1) ks)) is
    ∙ append_assoc found (used_member s m k) (used_members s (drop (j + 1) ms) (drop (j + 1) ks))
    ∙ ap (λ (l : List ColumnMember). found ++ l) (sym (next s ms ks j m k a b)) ∙ e
