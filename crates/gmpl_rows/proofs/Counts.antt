-- Entries and columns are counted.
use Rattle.std.proofs.Common.{◌≡◌, ◌∙◌, ◌<◌, ◌≤◌, ◌+◌, ◌++◌, ◌&&◌, ℕ, zero, suc, Bool, true, false, cond, List, [], ◌∷◌, length, get_or, set, Ok, Err, refl, sym, ap, subst, nat_le, arith}
use Rattle.std.proofs.lemmas.Bool.Decides.{nat_tests}
use Rattle.std.proofs.lemmas.List.{length-append}
use Rattle.gmpl_value.specs.declared.symbol.Symbol.{Symbol}
use Rattle.gmpl_rows.specs.declared.member_column.Cell.{Cell}
use Rattle.gmpl_rows.specs.declared.term.Bounds.{Bounds}
use Rattle.gmpl_rows.specs.MemberColumn.{MemberColumn, new_column, with_cell, some_cell, is_used, one_if, cells_of, used_of, no_column}
use Rattle.gmpl_rows.specs.Demanded.{Demanded, none_demanded, all_none, demand, give, is_demanded, changed_at, noted_in, noted, note, cell_count, used_count, within_limits, AreCounted, IsMore}
use Rattle.gmpl_rows.specs.declared.demanded.More.{More}
use Rattle.gmpl_rows.specs.declared.term.Term.{Term}
use Rattle.gmpl_rows.specs.declared.fault.DraftFault.TheVariants.{TooMany}
use Rattle.gmpl_rows.proofs.Places.{set-changed, changed-past}

-- ---- one variable

cells-push : (ks : List MemberColumn) (b : Bounds) → cells_of (ks ++ new_column b ∷ []) ≡ cells_of ks
cells-push [] b = refl
cells-push (k ∷ ks) b = ap (λ n. length k.cells + n) (cells-push ks b)

used-push : (ks : List MemberColumn) (b : Bounds) → used_of (ks ++ new_column b ∷ []) ≡ used_of ks
used-push [] b = refl
used-push (k ∷ ks) b = ap (λ n. one_if (is_used k) + n) (used-push ks b)

cells-demand : (t : Bool) (s : List Symbol) (b : Bounds) (d : Demanded) → cells_of (cond t d (record { members = d.members ++ s ∷ []; columns = d.columns ++ new_column b ∷ [] })).columns ≡ cells_of d.columns
cells-demand true s b d = refl
cells-demand false s b d = cells-push d.columns b

used-demand : (t : Bool) (s : List Symbol) (b : Bounds) (d : Demanded) → used_of (cond t d (record { members = d.members ++ s ∷ []; columns = d.columns ++ new_column b ∷ [] })).columns ≡ used_of d.columns
used-demand true s b d = refl
used-demand false s b d = used-push d.columns b

cells-changed : (cell : Cell) (ks : List MemberColumn) (i : ℕ) → i < length ks → cells_of (changed_at i (with_cell cell) ks) ≡ cells_of ks + 1
cells-changed cell [] i lt = absurd (omega (arith, lt))
cells-changed cell (k ∷ ks) zero lt = omega (arith, length-append k.cells (cell ∷ []))
cells-changed cell (k ∷ ks) (suc i) lt = omega (arith, cells-changed cell ks i (omega (arith, lt)))

some-push : (cells : List Cell) (cell : Cell) → some_cell (cells ++ cell ∷ []) ≡ true
some-push [] cell = refl
some-push (c ∷ cs) cell = refl

one-push : (k : MemberColumn) (cell : Cell) → one_if (is_used (with_cell cell k)) ≡ 1
one-push k cell = ap one_if (some-push k.cells cell)

used-changed : (cell : Cell) (ks : List MemberColumn) (i : ℕ) → i < length ks → used_of (changed_at i (with_cell cell) ks) + one_if (is_used (get_or ks i no_column)) ≡ used_of ks + 1
used-changed cell [] i lt = absurd (omega (arith, lt))
used-changed cell (k ∷ ks) zero lt = omega (arith, one-push k cell)
used-changed cell (k ∷ ks) (suc i) lt = omega (arith, used-changed cell ks i (omega (arith, lt)))

pub demanded-more : (old new : Demanded) (s : List Symbol) (b : Bounds) → new ≡ demand s b old → IsMore (record { entries = 0; columns = 0 }) old new
demanded-more old new s b is = record {
  entries_are = omega (arith, ap (λ (d : Demanded). cells_of d.columns) is, cells-demand (is_demanded s old) s b old);
  columns_are = omega (arith, ap (λ (d : Demanded). used_of d.columns) is, used-demand (is_demanded s old) s b old);
  one_entry = omega arith;
  one_column = omega arith;
}

pub given-more : (old middle new : Demanded) (s : List Symbol) (b : Bounds) (place : ℕ) (cell : Cell) (columns : ℕ) → middle ≡ demand s b old → new ≡ give place cell middle → place < length middle.columns → columns + one_if (is_used (get_or middle.columns place no_column)) ≡ 1 → IsMore (record { entries = 1; columns = columns }) old new
given-more old middle new s b place cell columns is then_is lt count =
    let before = demanded-more old middle s b is in
    record {
      entries_are = omega (arith, ap (λ (d : Demanded). cells_of d.columns) then_is, cells-changed cell middle.columns place lt, before.entries_are);
      columns_are = omega (arith, ap (λ (d : Demanded). used_of d.columns) then_is, used-changed cell middle.columns place lt, before.columns_are, count);
      one_entry = omega arith;
      one_column = omega (arith, count);
    }

-- ---- all variables

cell_count-changed : (f : Demanded → Demanded) (n : ℕ) (ds : List Demanded) (i : ℕ) (x : Demanded) → i < length ds → x ≡ get_or ds i x → cells_of (f x).columns ≡ cells_of x.columns + n → cell_count (changed_at i f ds) ≡ cell_count ds + n
cell_count-changed f n [] i x lt is more = absurd (omega (arith, lt))
cell_count-changed f n (d ∷ ds) zero x lt is more =
    let P : Demanded → Type 0 = λ y. cells_of (f y).columns ≡ cells_of y.columns + n in
    omega (arith, subst P is more)
cell_count-changed f n (d ∷ ds) (suc i) x lt is more = omega (arith, cell_count-changed f n ds i x (omega (arith, lt)) is more)

used_count-changed : (f : Demanded → Demanded) (n : ℕ) (ds : List Demanded) (i : ℕ) (x : Demanded) → i < length ds → x ≡ get_or ds i x → used_of (f x).columns ≡ used_of x.columns + n → used_count (changed_at i f ds) ≡ used_count ds + n
used_count-changed f n [] i x lt is more = absurd (omega (arith, lt))
used_count-changed f n (d ∷ ds) zero x lt is more =
    let P : Demanded → Type 0 = λ y. used_of (f y).columns ≡ used_of y.columns + n in
    omega (arith, subst P is more)
used_count-changed f n (d ∷ ds) (suc i) x lt is more = omega (arith, used_count-changed f n ds i x (omega (arith, lt)) is more)

both-true : (a b c d : ℕ) → a ≤ b → c ≤ d → (nat_le a b && nat_le c d) ≡ true
both-true a b c d h k = grind (arith, nat_tests)

first-false : (a b : ℕ) (t : Bool) → b < a → (nat_le a b && t) ≡ false
first-false a b t h = grind (arith, nat_tests)

second-false : (a b c d : ℕ) → a ≤ b → d < c → (nat_le a b && nat_le c d) ≡ false
second-false a b c d h k = grind (arith, nat_tests)

noted-ok : (row : ℕ) (t : Term) (ds : List Demanded) → within_limits (noted row t ds) ≡ true → note row t ds ≡ Ok (noted row t ds)
noted-ok row t ds h = rw h refl

noted-many : (row : ℕ) (t : Term) (ds : List Demanded) → within_limits (noted row t ds) ≡ false → note row t ds ≡ Err TooMany
noted-many row t ds h = rw h refl

pub note-past : (row : ℕ) (t : Term) (ds all : List Demanded) (entries columns : ℕ) → ds ≡ all → AreCounted ds entries columns → length ds ≤ t.variable.statement → note row t all ≡ Ok ds
note-past row t ds all entries columns same counted past =
    let P : List Demanded → Type 0 = λ l. note row t l ≡ Ok ds in
    let unchanged = changed-past (noted_in row t) ds t.variable.statement past in
    let within = both-true (cell_count ds) 20000000 (used_count ds) 1000000 (omega (arith, counted.entries_are, counted.few_entries)) (omega (arith, counted.columns_are, counted.few_columns)) in
    subst P same (noted-ok row t ds (ap within_limits unchanged ∙ within) ∙ ap Ok unchanged)

module _ (row : ℕ) (t : Term) (ds all : List Demanded) (entries columns : ℕ) (x y : Demanded) (more : More) (same : ds ≡ all) (counted : AreCounted ds entries columns)
    (lt : t.variable.statement < length ds) (is : x ≡ get_or ds t.variable.statement x) (then_is : y ≡ noted_in row t x) (count : IsMore more x y) where
  entries-now : cell_count (noted row t ds) ≡ entries + more.entries
  entries-now =
      let here : cells_of (noted_in row t x).columns ≡ cells_of x.columns + more.entries = ap (λ (d : Demanded). cells_of d.columns) (sym then_is) ∙ count.entries_are in
      cell_count-changed (noted_in row t) more.entries ds t.variable.statement x lt is here ∙ ap (λ n. n + more.entries) (sym counted.entries_are)

  columns-now : used_count (noted row t ds) ≡ columns + more.columns
  columns-now =
      let here : used_of (noted_in row t x).columns ≡ used_of x.columns + more.columns = ap (λ (d : Demanded). used_of d.columns) (sym then_is) ∙ count.columns_are in
      used_count-changed (noted_in row t) more.columns ds t.variable.statement x lt is here ∙ ap (λ n. n + more.columns) (sym counted.columns_are)

  set-noted : set ds t.variable.statement y ≡ noted row t ds
  set-noted = set-changed (noted_in row t) ds t.variable.statement x y lt is then_is

  pub note-entries : 20000000 < entries + more.entries → note row t all ≡ Err TooMany
  note-entries many =
      let P : List Demanded → Type 0 = λ l. note row t l ≡ Err TooMany in
      subst P same (noted-many row t ds (first-false (cell_count (noted row t ds)) 20000000 _ (omega (arith, entries-now, many))))

  pub note-columns : entries + more.entries ≤ 20000000 → 1000000 < columns + more.columns → note row t all ≡ Err TooMany
  note-columns few many =
      let P : List Demanded → Type 0 = λ l. note row t l ≡ Err TooMany in
      subst P same (noted-many row t ds (second-false (cell_count (noted row t ds)) 20000000 (used_count (noted row t ds)) 1000000 (omega (arith, entries-now, few)) (omega (arith, columns-now, many))))

  pub note-counted : entries + more.entries ≤ 20000000 → columns + more.columns ≤ 1000000 → AreCounted (set ds t.variable.statement y) (entries + more.entries) (columns + more.columns)
  note-counted few few_columns = record {
    entries_are = sym (ap cell_count set-noted ∙ entries-now);
    columns_are = sym (ap used_count set-noted ∙ columns-now);
    few_entries = few;
    few_columns = few_columns;
  }

  pub note-ok : entries + more.entries ≤ 20000000 → columns + more.columns ≤ 1000000 → note row t all ≡ Ok (set ds t.variable.statement y)
  note-ok few few_columns =
      let P : List Demanded → Type 0 = λ l. note row t l ≡ Ok (set ds t.variable.statement y) in
      let within = both-true (cell_count (noted row t ds)) 20000000 (used_count (noted row t ds)) 1000000 (omega (arith, entries-now, few)) (omega (arith, columns-now, few_columns)) in
      subst P same (noted-ok row t ds within ∙ ap Ok (sym set-noted))

-- ---- the start

pub none-more : (n : ℕ) → all_none n ++ none_demanded ∷ [] ≡ all_none (n + 1)
none-more zero = refl
none-more (suc n) = let e : suc n + 1 ≡ suc (n + 1) = omega arith in ap (λ ds. none_demanded ∷ ds) (none-more n) ∙ ap all_none (sym e)

no-cells : (n : ℕ) → (cell_count (all_none n) ≡ 0) × (used_count (all_none n) ≡ 0)
no-cells zero = (refl, refl)
no-cells (suc n) = let h = no-cells n in (omega (arith, h.0), omega (arith, h.1))

pub none-counted : (n : ℕ) (ds : List Demanded) → ds ≡ all_none n → AreCounted ds 0 0
none-counted n ds is = record {
  entries_are = sym (ap cell_count is ∙ (no-cells n).0);
  columns_are = sym (ap used_count is ∙ (no-cells n).1);
  few_entries = omega arith;
  few_columns = omega arith;
}
