-- The coefficients of a member after one more term.
use Rattle.std.proofs.Common.{◌≡◌, ◌∙◌, ◌&&◌, ◌||◌, ◌++◌, not, ℕ, zero, suc, Bool, true, false, cond, List, [], ◌∷◌, length, refl, sym, ap, arith}
use Rattle.std.proofs.lemmas.List.{length-append}
use Rattle.std.specs.List.{list_any, position_or_len}
use Rattle.rational.specs.Compare.{is_zero}
use Rattle.gmpl_value.specs.SymbolEquality.{tuple_eq}
use Rattle.gmpl_value.specs.declared.symbol.Symbol.{Symbol}
use Rattle.gmpl_value.proofs.Distinct.{tuple_laws}
use Rattle.gmpl_rows.specs.MemberColumn.{MemberColumn, new_column, with_cell}
use Rattle.gmpl_rows.specs.Demanded.{Demanded, changed_at, demand, is_demanded, place_of, give, noted_in, cell_of}
use Rattle.gmpl_rows.specs.Terms.{cells_among, IsAligned}
use Rattle.gmpl_rows.specs.declared.member_column.Cell.{Cell}
use Rattle.gmpl_rows.specs.declared.term.Bounds.{Bounds}
use Rattle.gmpl_rows.specs.declared.term.Term.{Term}

abbrev pub Tuples : Type 0
Tuples = List (List Symbol)

-- ---- equal tuples

other_as : (m n x : List Symbol) → tuple_eq n x ≡ true → tuple_eq m x ≡ tuple_eq m n
other_as m n x h = tuple_laws.symm m x ∙ sym (tuple_laws.congr n x m h) ∙ tuple_laws.symm n m

apart_from : (m n x : List Symbol) → tuple_eq n x ≡ false → tuple_eq m x ≡ true → tuple_eq m n ≡ false
apart_from m n x f t = tuple_laws.congr m x n t ∙ tuple_laws.symm x n ∙ f

any_later : (a b : Bool) → a ≡ false → (a || b) ≡ true → b ≡ true
any_later false b f h = h
any_later true b f h = absurd cc

place_later : (n x : List Symbol) (ms : Tuples) → tuple_eq n x ≡ false → position_or_len (tuple_eq n) (x ∷ ms) ≡ suc (position_or_len (tuple_eq n) ms)
place_later n x ms e = rw e (omega arith)

-- ---- a member is demanded

cells_demanded : (m n : List Symbol) (b : Bounds) (ms : Tuples) (ks : List MemberColumn) → length ks ≡ length ms → cells_among m (ms ++ n ∷ []) (ks ++ new_column b ∷ []) ≡ cells_among m ms ks
cells_demanded m n b [] [] l = either (tuple_eq m n)
  where
    either : (t : Bool) → cond t (new_column b).cells [] ≡ []
    either true = refl
    either false = refl
cells_demanded m n b [] (k ∷ ks) l = absurd (omega (arith, l))
cells_demanded m n b (x ∷ ms) [] l = absurd (omega (arith, l))
cells_demanded m n b (x ∷ ms) (k ∷ ks) l = ap (cond (tuple_eq m x) k.cells) (cells_demanded m n b ms ks (omega (arith, l)))

-- ---- one more coefficient

here_given : (cell : Cell) (t u : Bool) (cells rest : List Cell) → t ≡ u → cond t (cells ++ cell ∷ []) rest ≡ cond u (cond t cells rest ++ cell ∷ []) (cond t cells rest)
here_given cell true true cells rest e = refl
here_given cell true false cells rest e = absurd cc
here_given cell false true cells rest e = absurd cc
here_given cell false false cells rest e = refl

later_given : (cell : Cell) (t u : Bool) (cells new old : List Cell) → (t ≡ true → u ≡ false) → new ≡ cond u (old ++ cell ∷ []) old → cond t cells new ≡ cond u (cond t cells old ++ cell ∷ []) (cond t cells old)
later_given cell true u cells new old f e = rw (f refl) refl
later_given cell false u cells new old f e = e

pub cells_given : (m n : List Symbol) (cell : Cell) (ms : Tuples) (ks : List MemberColumn) → length ks ≡ length ms → list_any (tuple_eq n) ms ≡ true
    → cells_among m ms (changed_at (position_or_len (tuple_eq n) ms) (with_cell cell) ks) ≡ cond (tuple_eq m n) (cells_among m ms ks ++ cell ∷ []) (cells_among m ms ks)
cells_given m n cell [] ks l h = absurd cc
cells_given m n cell (x ∷ ms) [] l h = absurd (omega (arith, l))
cells_given m n cell (x ∷ ms) (k ∷ ks) l h = by (tuple_eq n x) refl (cells_given m n cell ms ks (omega (arith, l)))
  where
    by : (t : Bool) → tuple_eq n x ≡ t → (list_any (tuple_eq n) ms ≡ true → cells_among m ms (changed_at (position_or_len (tuple_eq n) ms) (with_cell cell) ks) ≡ cond (tuple_eq m n) (cells_among m ms ks ++ cell ∷ []) (cells_among m ms ks))
        → cells_among m (x ∷ ms) (changed_at (position_or_len (tuple_eq n) (x ∷ ms)) (with_cell cell) (k ∷ ks)) ≡ cond (tuple_eq m n) (cells_among m (x ∷ ms) (k ∷ ks) ++ cell ∷ []) (cells_among m (x ∷ ms) (k ∷ ks))
    by true e rest = rw e (here_given cell (tuple_eq m x) (tuple_eq m n) k.cells (cells_among m ms ks) (other_as m n x e))
    by false e rest = ap (λ p. cells_among m (x ∷ ms) (changed_at p (with_cell cell) (k ∷ ks))) (place_later n x ms e)
        ∙ later_given cell (tuple_eq m x) (tuple_eq m n) k.cells _ (cells_among m ms ks) (apart_from m n x e) (rest (any_later (tuple_eq n x) (list_any (tuple_eq n) ms) e h))

-- ---- a term is noted

any_last : (n : List Symbol) (ms : Tuples) → list_any (tuple_eq n) (ms ++ n ∷ []) ≡ true
any_last n [] = rw (tuple_laws.refl n) refl
any_last n (x ∷ ms) = by (tuple_eq n x) (any_last n ms)
  where
    by : (t : Bool) → list_any (tuple_eq n) (ms ++ n ∷ []) ≡ true → (t || list_any (tuple_eq n) (ms ++ n ∷ [])) ≡ true
    by true h = refl
    by false h = h

place_last : (n : List Symbol) (ms : Tuples) → position_or_len (tuple_eq n) (ms ++ n ∷ []) ≡ position_or_len (tuple_eq n) ms
place_last n [] = rw (tuple_laws.refl n) refl
place_last n (x ∷ ms) = by (tuple_eq n x) refl (place_last n ms)
  where
    by : (t : Bool) → tuple_eq n x ≡ t → position_or_len (tuple_eq n) (ms ++ n ∷ []) ≡ position_or_len (tuple_eq n) ms → position_or_len (tuple_eq n) (x ∷ ms ++ n ∷ []) ≡ position_or_len (tuple_eq n) (x ∷ ms)
    by true e h = rw e refl
    by false e h = place_later n x (ms ++ n ∷ []) e ∙ ap (λ k. suc k) h ∙ sym (place_later n x ms e)

-- the member is there, at the same place as before or as the last, and the coefficients are as before
record IsDemanded (m n : List Symbol) (old new : Demanded) : Type 0 where
  aligned : IsAligned new
  there : list_any (tuple_eq n) new.members ≡ true
  place : position_or_len (tuple_eq n) new.members ≡ place_of n old
  cells : cells_among m new.members new.columns ≡ cells_among m old.members old.columns

demanded : (m n : List Symbol) (b : Bounds) (d : Demanded) → IsAligned d → IsDemanded m n d (demand n b d)
demanded m n b d l = by (is_demanded n d) refl
  where
    by : (t : Bool) → is_demanded n d ≡ t → IsDemanded m n d (cond t d (record { members = d.members ++ n ∷ []; columns = d.columns ++ new_column b ∷ [] }))
    by true e = record { aligned = l; there = e; place = refl; cells = refl }
    by false e = record {
      aligned = omega (arith, length-append d.columns (new_column b ∷ []), length-append d.members (n ∷ []), l);
      there = any_last n d.members;
      place = place_last n d.members;
      cells = cells_demanded m n b d.members d.columns l;
    }

length_changed : {X : Type 0} (f : X → X) (xs : List X) (i : ℕ) → length (changed_at i f xs) ≡ length xs
length_changed f [] i = refl
length_changed f (x ∷ xs) zero = refl
length_changed f (x ∷ xs) (suc i) = omega (arith, length_changed f xs i)

pub noted_aligned : (row : ℕ) (t : Term) (d : Demanded) → IsAligned d → IsAligned (noted_in row t d)
noted_aligned row t d l = by (is_zero t.coefficient)
  where
    new : IsDemanded t.variable.subscripts t.variable.subscripts d (demand t.variable.subscripts t.bounds d)
    new = demanded t.variable.subscripts t.variable.subscripts t.bounds d l

    by : (z : Bool) → IsAligned (cond z (demand t.variable.subscripts t.bounds d) (give (place_of t.variable.subscripts d) (cell_of row t) (demand t.variable.subscripts t.bounds d)))
    by true = new.aligned
    by false = length_changed (with_cell (cell_of row t)) (demand t.variable.subscripts t.bounds d).columns (place_of t.variable.subscripts d) ∙ new.aligned

pub noted_cells : (m : List Symbol) (row : ℕ) (t : Term) (d : Demanded) → IsAligned d
    → cells_among m (noted_in row t d).members (noted_in row t d).columns
    ≡ cond (tuple_eq m t.variable.subscripts && not (is_zero t.coefficient)) (cells_among m d.members d.columns ++ cell_of row t ∷ []) (cells_among m d.members d.columns)
noted_cells m row t d l = by (is_zero t.coefficient)
  where
    new : IsDemanded m t.variable.subscripts d (demand t.variable.subscripts t.bounds d)
    new = demanded m t.variable.subscripts t.bounds d l

    given : cells_among m (demand t.variable.subscripts t.bounds d).members (changed_at (place_of t.variable.subscripts d) (with_cell (cell_of row t)) (demand t.variable.subscripts t.bounds d).columns)
        ≡ cond (tuple_eq m t.variable.subscripts) (cells_among m d.members d.columns ++ cell_of row t ∷ []) (cells_among m d.members d.columns)
    given =
        let after = demand t.variable.subscripts t.bounds d in
        ap (λ p. cells_among m after.members (changed_at p (with_cell (cell_of row t)) after.columns)) (sym new.place)
        ∙ cells_given m t.variable.subscripts (cell_of row t) after.members after.columns new.aligned new.there
        ∙ ap (λ (cs : List Cell). cond (tuple_eq m t.variable.subscripts) (cs ++ cell_of row t ∷ []) cs) new.cells

    never : (u : Bool) (x y : List Cell) → cond (u && false) x y ≡ y
    never true x y = refl
    never false x y = refl

    always : (u : Bool) → (u && true) ≡ u
    always true = refl
    always false = refl

    by : (z : Bool) → cells_among m (cond z (demand t.variable.subscripts t.bounds d) (give (place_of t.variable.subscripts d) (cell_of row t) (demand t.variable.subscripts t.bounds d))).members
        (cond z (demand t.variable.subscripts t.bounds d) (give (place_of t.variable.subscripts d) (cell_of row t) (demand t.variable.subscripts t.bounds d))).columns
        ≡ cond (tuple_eq m t.variable.subscripts && not z) (cells_among m d.members d.columns ++ cell_of row t ∷ []) (cells_among m d.members d.columns)
    by true = new.cells ∙ sym (never (tuple_eq m t.variable.subscripts) (cells_among m d.members d.columns ++ cell_of row t ∷ []) (cells_among m d.members d.columns))
    by false = given ∙ ap (λ u. cond u (cells_among m d.members d.columns ++ cell_of row t ∷ []) (cells_among m d.members d.columns)) (sym (always (tuple_eq m t.variable.subscripts)))
