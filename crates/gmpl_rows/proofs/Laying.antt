-- LaidColumn down column by column, each row has its entries.
use Rattle.std.proofs.Common.{◌≡◌, ◌∙◌, ◌<◌, ◌≤◌, ◌+◌, ◌==◌, ◌&&◌, ◌||◌, not, nat_lt, nat_le, ℕ, zero, suc, Bool, true, false, cond, Option, Some, None, List, [], ◌∷◌, ◌++◌, length, map, get_or, refl, sym, ap, arith, IsTrue}
use Rattle.std.specs.List.{list_all}
use Rattle.std.proofs.lemmas.Bool.Decides.{nat_tests}
use Rattle.std.proofs.Math.Dec.{eqb-zero-suc, eqb-suc-zero, eqb-suc-suc}
use Rattle.std.proofs.lemmas.List.{append_assoc, append-nil, length-append}
use Rattle.rational.specs.Rational.{Rational}
use Rattle.rational.specs.Compare.{is_zero}
use Rattle.milp.specs.Form.{Entry}
use Rattle.milp.specs.Problem.{Row}
use Rattle.instance.specs.WellFormed.{are_entries_from, are_entries, entry_count}
use Rattle.gmpl_value.specs.declared.symbol.Symbol.{Symbol}
use Rattle.gmpl_rows.specs.declared.member_column.Cell.{Cell}
use Rattle.gmpl_rows.specs.MemberColumn.{MemberColumn, is_used, one_if, cells_of, used_of}
use Rattle.gmpl_rows.specs.Demanded.{Demanded, changed_at, cell_count, used_count}
use Rattle.gmpl_rows.specs.declared.draft.RowHead.{RowHead}
use Rattle.gmpl_rows.specs.Problem.{LaidColumn, laid_member, laid_in, laid_out, cell_in, with_entry, entries_of, rows_from, column_of}
use Rattle.gmpl_rows.specs.Laying.{RowEntries, nothing_begun, lay, lay_cell, lay_cells, lay_all, all_begun, rows_with, laid_cells}
use Rattle.gmpl_rows.specs.declared.declared.Declared.{Declared}

-- ---- one row of all

pub changed-row : {X : Type 0} (f : X → X) (xs : List X) (j i : ℕ) (d : X) → i < length xs → get_or (changed_at j f xs) i d ≡ cond (j == i) (f (get_or xs i d)) (get_or xs i d)
changed-row f [] j i d lt = absurd (omega (arith, lt))
changed-row f (x ∷ xs) zero zero d lt = refl
changed-row f (x ∷ xs) zero (suc i) d lt = rw (eqb-zero-suc i) refl
changed-row f (x ∷ xs) (suc j) zero d lt = rw (eqb-suc-zero j) refl
changed-row f (x ∷ xs) (suc j) (suc i) d lt = rw (eqb-suc-suc j i) (changed-row f xs j i d (omega (arith, lt)))

pub length-changed : {X : Type 0} (f : X → X) (xs : List X) (j : ℕ) → length (changed_at j f xs) ≡ length xs
length-changed f [] j = refl
length-changed f (x ∷ xs) zero = refl
length-changed f (x ∷ xs) (suc j) = omega (arith, length-changed f xs j)

-- the cells of a column that are in row i
abbrev pub own : ℕ → ℕ → List Cell → RowEntries → RowEntries
own i k [] r = r
own i k (c ∷ cs) r = own i k cs (cond (c.row == i) (lay k c.coefficient r) r)

cells-own : (i k : ℕ) (cs : List Cell) (rs : List RowEntries) (d : RowEntries) → i < length rs → get_or (lay_cells k cs rs) i d ≡ own i k cs (get_or rs i d)
cells-own i k [] rs d lt = refl
cells-own i k (c ∷ cs) rs d lt =
    cells-own i k cs (lay_cell k c rs) d (omega (arith, length-changed (lay k c.coefficient) rs c.row, lt))
    ∙ ap (own i k cs) (changed-row (lay k c.coefficient) rs c.row i d lt)

length-cells : (k : ℕ) (cs : List Cell) (rs : List RowEntries) → length (lay_cells k cs rs) ≡ length rs
length-cells k [] rs = refl
length-cells k (c ∷ cs) rs = length-cells k cs (lay_cell k c rs) ∙ length-changed (lay k c.coefficient) rs c.row

pub length-all : (k : ℕ) (ls : List LaidColumn) (rs : List RowEntries) → length (lay_all k ls rs) ≡ length rs
length-all k [] rs = refl
length-all k (l ∷ ls) rs = length-all (k + 1) ls (lay_cells k l.cells rs) ∙ length-cells k l.cells rs

-- ---- its entry in a column

lt-true : (a b : ℕ) → a < b → nat_lt a b ≡ true
lt-true a b h = grind (arith, nat_tests)

lt-false : (a b : ℕ) → b ≤ a → nat_lt a b ≡ false
lt-false a b h = grind (arith, nat_tests)

or-second : (a b : Bool) → b ≡ true → (a || b) ≡ true
or-second true b h = refl
or-second false b h = h

same-either : {X : Type 0} (t : Bool) (x y z : X) → x ≡ z → y ≡ z → cond t x y ≡ z
same-either true x y z a b = a
same-either false x y z a b = b

lay-late : (k : ℕ) (c : Rational) (r : RowEntries) → k < r.next → lay k c r ≡ r
lay-late k c r late = rw (or-second (is_zero c) (nat_lt k r.next) (lt-true k r.next late)) refl

own-late : (i k : ℕ) (cs : List Cell) (r : RowEntries) → k < r.next → own i k cs r ≡ r
own-late i k [] r late = refl
own-late i k (c ∷ cs) r late =
    ap (own i k cs) (same-either (c.row == i) (lay k c.coefficient r) r r (lay-late k c.coefficient r late) refl) ∙ own-late i k cs r late

abbrev pub ended : ℕ → Option Rational → RowEntries → RowEntries
ended k None r = r
ended k (Some c) r = record { entries = r.entries ++ record { column = k; coefficient = c } ∷ []; next = k + 1 }

-- by its tests: the cell is in the row, and its coefficient is 0
own-step : (i k : ℕ) (c : Rational) (cs : List Cell) (r : RowEntries) (here nil : Bool) → is_zero c ≡ nil → r.next ≤ k → own i k cs r ≡ ended k (cell_in i cs) r
    → own i k cs (cond here (lay k c r) r) ≡ ended k (cond (here && not (is_zero c)) (Some c) (cell_in i cs)) r
own-step i k c cs r false nil z early rest = rest
own-step i k c cs r true true z early rest = rw z rest
own-step i k c cs r true false z early rest = rw (z, lt-false k r.next early) (own-late i k cs (ended k (Some c) r) (omega arith))

own-ended : (i k : ℕ) (cs : List Cell) (r : RowEntries) → r.next ≤ k → own i k cs r ≡ ended k (cell_in i cs) r
own-ended i k [] r early = refl
own-ended i k (c ∷ cs) r early = own-step i k c.coefficient cs r (c.row == i) (is_zero c.coefficient) refl early (own-ended i k cs r early)

next-ended : (k : ℕ) (c : Option Rational) (r : RowEntries) → r.next ≤ k → (ended k c r).next ≤ k + 1
next-ended k None r early = omega (arith, early)
next-ended k (Some c) r early = omega arith

entries-ended : (k : ℕ) (c : Option Rational) (r : RowEntries) (es : List Entry) → (ended k c r).entries ++ es ≡ r.entries ++ with_entry k c es
entries-ended k None r es = refl
entries-ended k (Some c) r es = append_assoc r.entries (record { column = k; coefficient = c } ∷ []) es

pub entries-all : (i k : ℕ) (ls : List LaidColumn) (rs : List RowEntries) (d : RowEntries) → i < length rs → (get_or rs i d).next ≤ k → (get_or (lay_all k ls rs) i d).entries ≡ (get_or rs i d).entries ++ entries_of i k ls
entries-all i k [] rs d lt early = sym (append-nil (get_or rs i d).entries)
entries-all i k (l ∷ ls) rs d lt early =
    let now : get_or (lay_cells k l.cells rs) i d ≡ ended k (cell_in i l.cells) (get_or rs i d) = cells-own i k l.cells rs d lt ∙ own-ended i k l.cells (get_or rs i d) early in
    let rest = entries-all i (k + 1) ls (lay_cells k l.cells rs) d (omega (arith, length-cells k l.cells rs, lt)) (omega (arith, ap (λ (r : RowEntries). r.next) now, next-ended k (cell_in i l.cells) (get_or rs i d) early)) in
    rest ∙ ap (λ (r : RowEntries). r.entries ++ entries_of i (k + 1) ls) now ∙ entries-ended k (cell_in i l.cells) (get_or rs i d) (entries_of i (k + 1) ls)

-- ---- the form of a row

and-both : (a b : Bool) → a ≡ true → b ≡ true → (a && b) ≡ true
and-both a b h i = rw (h, i) refl

le-true : (a b : ℕ) → a ≤ b → nat_le a b ≡ true
le-true a b h = grind (arith, nat_tests)

entry-found : (i : ℕ) (cs : List Cell) (v : Rational) (here nil : Bool) (c : Rational) → is_zero c ≡ nil → cond (here && not nil) (Some c) (cell_in i cs) ≡ Some v → (cell_in i cs ≡ Some v → is_zero v ≡ false) → is_zero v ≡ false
entry-found i cs v false nil c z e rest = rest e
entry-found i cs v true true c z e rest = rest e
entry-found i cs v true false c z e rest = let same : c ≡ v = cc in ap is_zero (sym same) ∙ z

cell-nonzero : (i : ℕ) (cs : List Cell) (v : Rational) → cell_in i cs ≡ Some v → is_zero v ≡ false
cell-nonzero i [] v e = cc
cell-nonzero i (c ∷ cs) v e = entry-found i cs v (c.row == i) (is_zero c.coefficient) c.coefficient refl e (cell-nonzero i cs v)

least-more : (least m count : ℕ) → least ≤ m → (es : List Entry) → are_entries_from m count es ≡ true → are_entries_from least count es ≡ true
least-more least m count h [] t = refl
least-more least m count h (e ∷ es) t = both (nat_le m e.column) (nat_le least e.column) _ (λ q. grind (arith, nat_tests)) t
  where
    both : (a b c : Bool) → (a ≡ true → b ≡ true) → (a && c) ≡ true → (b && c) ≡ true
    both true b c f g = rw (f refl) g
    both false b c f g = cc

with-form : (k count : ℕ) (c : Option Rational) (es : List Entry) → k < count → ((v : Rational) → c ≡ Some v → is_zero v ≡ false) → are_entries_from (k + 1) count es ≡ true → are_entries_from k count (with_entry k c es) ≡ true
with-form k count None es lt z t = least-more k (k + 1) count (omega arith) es t
with-form k count (Some v) es lt z t = and-both _ _ (le-true k k (omega arith)) (and-both _ _ (lt-true k count lt) (and-both _ _ (ap not (z v refl)) t))

pub form-of : (i k count : ℕ) (ls : List LaidColumn) → k + length ls ≤ count → are_entries_from k count (entries_of i k ls) ≡ true
form-of i k count [] few = refl
form-of i k count (l ∷ ls) few = with-form k count (cell_in i l.cells) (entries_of i (k + 1) ls) (omega (arith, few)) (cell-nonzero i l.cells) (form-of i (k + 1) count ls (omega (arith, few)))

-- ---- how many

abbrev pub total : List RowEntries → ℕ
total [] = 0
total (r ∷ rs) = length r.entries + total rs

lay-one : (t : Bool) (k : ℕ) (c : Rational) (r : RowEntries) → length (cond t r (record { entries = r.entries ++ record { column = k; coefficient = c } ∷ []; next = k + 1 })).entries ≤ length r.entries + 1
lay-one true k c r = omega arith
lay-one false k c r = omega (arith, length-append r.entries (record { column = k; coefficient = c } ∷ []))

total-cell : (k : ℕ) (c : Rational) (j : ℕ) (rs : List RowEntries) → total (changed_at j (lay k c) rs) ≤ total rs + 1
total-cell k c j [] = omega arith
total-cell k c zero (r ∷ rs) = let h : length (lay k c r).entries ≤ length r.entries + 1 = lay-one (is_zero c || nat_lt k r.next) k c r in omega (arith, h)
total-cell k c (suc j) (r ∷ rs) = omega (arith, total-cell k c j rs)

total-cells : (k : ℕ) (cs : List Cell) (rs : List RowEntries) → total (lay_cells k cs rs) ≤ total rs + length cs
total-cells k [] rs = omega arith
total-cells k (c ∷ cs) rs = omega (arith, total-cells k cs (lay_cell k c rs), total-cell k c.coefficient c.row rs)

total-all : (k : ℕ) (ls : List LaidColumn) (rs : List RowEntries) → total (lay_all k ls rs) ≤ total rs + laid_cells ls
total-all k [] rs = omega arith
total-all k (l ∷ ls) rs = omega (arith, total-all (k + 1) ls (lay_cells k l.cells rs), total-cells k l.cells rs)

total-begun : (n : ℕ) → total (all_begun n) ≡ 0
total-begun zero = refl
total-begun (suc n) = omega (arith, total-begun n)

length-begun : (n : ℕ) → length (all_begun n) ≡ n
length-begun zero = refl
length-begun (suc n) = omega (arith, length-begun n)

pub length-laid : (ls : List LaidColumn) (n : ℕ) → length (lay_all 0 ls (all_begun n)) ≡ n
length-laid ls n = length-all 0 ls (all_begun n) ∙ length-begun n

pub begun-more : (n : ℕ) → all_begun n ++ nothing_begun ∷ [] ≡ all_begun (n + 1)
begun-more zero = refl
begun-more (suc n) = let e : suc n + 1 ≡ suc (n + 1) = omega arith in ap (λ rs. nothing_begun ∷ rs) (begun-more n) ∙ ap all_begun (sym e)

begun-at : (n i : ℕ) → get_or (all_begun n) i nothing_begun ≡ nothing_begun
begun-at zero i = refl
begun-at (suc n) zero = refl
begun-at (suc n) (suc i) = begun-at n i

laid_in-cells : (v : Declared) (ms : List (List Symbol)) (ks : List MemberColumn) → (laid_cells (laid_in v ms ks) ≤ cells_of ks) × (length (laid_in v ms ks) ≤ used_of ks)
laid_in-cells v [] ks = (omega arith, omega arith)
laid_in-cells v (m ∷ ms) [] = (omega arith, omega arith)
laid_in-cells v (m ∷ ms) (k ∷ ks) = one (is_used k) (laid_in-cells v ms ks)
  where
    one : (t : Bool) → (laid_cells (laid_in v ms ks) ≤ cells_of ks) × (length (laid_in v ms ks) ≤ used_of ks)
        → (laid_cells (cond t (laid_member v m k ∷ laid_in v ms ks) (laid_in v ms ks)) ≤ length k.cells + cells_of ks) × (length (cond t (laid_member v m k ∷ laid_in v ms ks) (laid_in v ms ks)) ≤ one_if t + used_of ks)
    one true h = (omega (arith, h.0), omega (arith, h.1))
    one false h = (omega (arith, h.0), omega (arith, h.1))

append-cells : (xs ys : List LaidColumn) → laid_cells (xs ++ ys) ≡ laid_cells xs + laid_cells ys
append-cells [] ys = omega arith
append-cells (x ∷ xs) ys = omega (arith, append-cells xs ys)

pub laid_out-cells : (vs : List Declared) (ds : List Demanded) → (laid_cells (laid_out vs ds) ≤ cell_count ds) × (length (laid_out vs ds) ≤ used_count ds)
laid_out-cells [] ds = (omega arith, omega arith)
laid_out-cells (v ∷ vs) [] = (omega arith, omega arith)
laid_out-cells (v ∷ vs) (d ∷ ds) =
    let here = laid_in-cells v d.members d.columns in
    let rest = laid_out-cells vs ds in
    (omega (arith, append-cells (laid_in v d.members d.columns) (laid_out vs ds), here.0, rest.0), omega (arith, length-append (laid_in v d.members d.columns) (laid_out vs ds), here.1, rest.1))

-- ---- all rows

rows-same : (vs : List Declared) (ls : List LaidColumn) (i : ℕ) (hs : List RowHead) (rs : List RowEntries) → length rs ≡ length hs → ((j : ℕ) → j < length rs → (get_or rs j nothing_begun).entries ≡ entries_of (i + j) 0 ls) → rows_with vs hs rs ≡ rows_from vs ls i hs
rows-same vs ls i [] rs size each = refl
rows-same vs ls i (h ∷ hs) [] size each = absurd (omega (arith, size))
rows-same vs ls i (h ∷ hs) (r ∷ rs) size each =
    let here : r.entries ≡ entries_of (i + 0) 0 ls = each 0 (omega arith) in
    let start : i + 0 ≡ i = omega arith in
    let rest : rows_with vs hs rs ≡ rows_from vs ls (i + 1) hs = rows-same vs ls (i + 1) hs rs (omega (arith, size)) (λ j lt. let e : i + 1 + j ≡ i + suc j = omega arith in each (suc j) (omega (arith, lt)) ∙ ap (λ n. entries_of n 0 ls) (sym e)) in
    rw (here, start, rest) refl

pub rows-laid : (vs : List Declared) (ls : List LaidColumn) (hs : List RowHead) → rows_with vs hs (lay_all 0 ls (all_begun (length hs))) ≡ rows_from vs ls 0 hs
rows-laid vs ls hs =
    let rs = lay_all 0 ls (all_begun (length hs)) in
    let size : length rs ≡ length hs = length-all 0 ls (all_begun (length hs)) ∙ length-begun (length hs) in
    rows-same vs ls 0 hs rs size (λ j lt.
    let begun = begun-at (length hs) j in
    let z : 0 + j ≡ j = omega arith in
    entries-all j 0 ls (all_begun (length hs)) nothing_begun (omega (arith, length-begun (length hs), size, lt)) (omega (arith, ap (λ (r : RowEntries). r.next) begun)) ∙ ap (λ (r : RowEntries). r.entries ++ entries_of j 0 ls) begun ∙ ap (λ n. entries_of n 0 ls) (sym z))

rows-total : (vs : List Declared) (hs : List RowHead) (rs : List RowEntries) → entry_count (rows_with vs hs rs) ≤ total rs
rows-total vs [] rs = omega arith
rows-total vs (h ∷ hs) [] = omega arith
rows-total vs (h ∷ hs) (r ∷ rs) = omega (arith, rows-total vs hs rs)

pub rows-few : (vs : List Declared) (ls : List LaidColumn) (hs : List RowHead) → laid_cells ls ≤ 20000000 → entry_count (rows_from vs ls 0 hs) ≤ 20000000
rows-few vs ls hs few =
    let rs = lay_all 0 ls (all_begun (length hs)) in
    omega (arith, ap entry_count (rows-laid vs ls hs), rows-total vs hs rs, total-all 0 ls (all_begun (length hs)), total-begun (length hs), few)

pub rows-length : (vs : List Declared) (ls : List LaidColumn) (i : ℕ) (hs : List RowHead) → length (rows_from vs ls i hs) ≡ length hs
rows-length vs ls i [] = refl
rows-length vs ls i (h ∷ hs) = omega (arith, rows-length vs ls (i + 1) hs)

pub rows-forms : (vs : List Declared) (ls : List LaidColumn) (i : ℕ) (hs : List RowHead) (count : ℕ) → length ls ≤ count → IsTrue (list_all (λ (r : Row). are_entries count r.entries) (rows_from vs ls i hs))
rows-forms vs ls i [] count few = refl
rows-forms vs ls i (h ∷ hs) count few = and-both _ _ (form-of i 0 count ls (omega (arith, few))) (rows-forms vs ls (i + 1) hs count few)

pub length-columns : (ls : List LaidColumn) → length (map column_of ls) ≡ length ls
length-columns [] = refl
length-columns (l ∷ ls) = omega (arith, length-columns ls)

-- what is made of the heads, given as it is lent
pub rows-made : (vs : List Declared) (ls : List LaidColumn) (hs lent : List RowHead) (begun : List RowEntries) (count : ℕ) (rows : List Row) → lent ≡ hs → count ≡ length lent → begun ≡ lay_all 0 ls (all_begun count) → rows ≡ rows_with vs lent begun → rows ≡ rows_from vs ls 0 hs
rows-made vs ls hs lent begun count rows a b c d =
    d ∙ ap (rows_with vs lent) (c ∙ ap (λ n. lay_all 0 ls (all_begun n)) b) ∙ rows-laid vs ls lent ∙ ap (rows_from vs ls 0) a
