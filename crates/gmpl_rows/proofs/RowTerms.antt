-- A row has the coefficients of its terms.
use Rattle.std.proofs.Common.{◌≡◌, ◌∙◌, ◌<◌, ◌≤◌, ◌==◌, ◌&&◌, ◌++◌, not, ℕ, zero, suc, Bool, true, false, cond, Option, Some, None, List, [], ◌∷◌, length, get_or, Result, Ok, Err, refl, sym, ap, subst, arith}
use Rattle.std.specs.Prelude.{nat_lt}
use Rattle.std.specs.List.{AllByRecursion}
use Rattle.std.proofs.lemmas.Bool.Decides.{nat_tests}
use Rattle.std.proofs.lemmas.List.{length-append}
use Rattle.rational.specs.Rational.{Rational}
use Rattle.rational.specs.Compare.{is_zero}
use Rattle.milp.specs.declared.Direction.{Direction}
use Rattle.gmpl_value.specs.SymbolEquality.{tuple_eq}
use Rattle.gmpl_value.specs.declared.symbol.Symbol.{Symbol}
use Rattle.gmpl_rows.specs.Demanded.{Demanded, all_none, changed_at, none_demanded, note_all, noted, noted_in, cell_of, within_limits}
use Rattle.gmpl_rows.specs.Draft.{Draft, is_new, no_rows, with_new_row, with_objective, with_row}
use Rattle.gmpl_rows.specs.Follows.{then_do}
use Rattle.gmpl_rows.specs.Problem.{cell_in}
use Rattle.gmpl_rows.specs.Terms.{IsAligned, IsDraft, cells_among, coefficient_at, coefficient_in, is_of}
use Rattle.gmpl_rows.specs.declared.declared.Declared.{Declared}
use Rattle.gmpl_rows.specs.declared.draft.RowHead.{RowHead}
use Rattle.gmpl_rows.specs.declared.fault.DraftFault.{DraftFault}
use Rattle.gmpl_rows.specs.declared.fault.DraftFault.TheVariants.{TooMany}
use Rattle.gmpl_rows.specs.declared.member_column.Cell.{Cell}
use Rattle.gmpl_rows.specs.declared.term.Term.{Term}
use Rattle.gmpl_rows.proofs.Laying.{changed-row, length-changed}
use Rattle.gmpl_rows.proofs.MemberCells.{noted_aligned, noted_cells}

-- the first of two
abbrev pub or_else : Option Rational → Option Rational → Option Rational
or_else (Some a) b = Some a
or_else None b = b

-- ---- one cell more

cell_last : (i : ℕ) (cs : List Cell) (c : Cell) → cell_in i (cs ++ c ∷ []) ≡ or_else (cell_in i cs) (cell_in i (c ∷ []))
cell_last i [] c = refl
cell_last i (x ∷ cs) c = by (x.row == i && not (is_zero x.coefficient)) (cell_last i cs c)
  where
    by : (t : Bool) → cell_in i (cs ++ c ∷ []) ≡ or_else (cell_in i cs) (cell_in i (c ∷ [])) → cond t (Some x.coefficient) (cell_in i (cs ++ c ∷ [])) ≡ or_else (cond t (Some x.coefficient) (cell_in i cs)) (cell_in i (c ∷ []))
    by true h = refl
    by false h = h

nothing_else : (o : Option Rational) → or_else o None ≡ o
nothing_else (Some a) = refl
nothing_else None = refl

-- ---- one term more

-- what a term gives to row i of member m of statement s
abbrev pub given_by : ℕ → ℕ → ℕ → List Symbol → Term → Option Rational
given_by row i s m t = cond (row == i && (is_of s m t && not (is_zero t.coefficient))) (Some t.coefficient) None

abbrev pub AreAligned : List Demanded → Type 0
AreAligned ds = AllByRecursion IsAligned ds

aligned_at : (ds : List Demanded) (s : ℕ) → s < length ds → AreAligned ds → IsAligned (get_or ds s none_demanded)
aligned_at [] s lt h = absurd (omega (arith, lt))
aligned_at (d ∷ ds) zero lt h = h.0
aligned_at (d ∷ ds) (suc s) lt h = aligned_at ds s (omega (arith, lt)) h.1

aligned_changed : (row : ℕ) (t : Term) (ds : List Demanded) (s : ℕ) → AreAligned ds → AreAligned (changed_at s (noted_in row t) ds)
aligned_changed row t [] s h = tt
aligned_changed row t (d ∷ ds) zero h = (noted_aligned row t d h.0, h.1)
aligned_changed row t (d ∷ ds) (suc s) h = (h.0, aligned_changed row t ds s h.1)

one_term : (row i : ℕ) (m : List Symbol) (t : Term) (d : Demanded) → IsAligned d
    → cell_in i (cells_among m (noted_in row t d).members (noted_in row t d).columns)
    ≡ or_else (cell_in i (cells_among m d.members d.columns)) (cond (row == i && (tuple_eq m t.variable.subscripts && not (is_zero t.coefficient))) (Some t.coefficient) None)
one_term row i m t d l = ap (cell_in i) (noted_cells m row t d l) ∙ by (tuple_eq m t.variable.subscripts) (is_zero t.coefficient) refl
  where
    old : List Cell
    old = cells_among m d.members d.columns

    with : (z : Bool) → is_zero t.coefficient ≡ z → (r : Bool) → cond (r && not (is_zero t.coefficient)) (Some t.coefficient) None ≡ cond (r && not z) (Some t.coefficient) None
    with z e r = ap (λ u. cond (r && not u) (Some t.coefficient) None) e

    never : (r : Bool) (x : Option Rational) → cond (r && false) x None ≡ None
    never true x = refl
    never false x = refl

    by : (u z : Bool) → is_zero t.coefficient ≡ z → cell_in i (cond (u && not z) (cells_among m d.members d.columns ++ cell_of row t ∷ []) (cells_among m d.members d.columns))
        ≡ or_else (cell_in i (cells_among m d.members d.columns)) (cond (row == i && (u && not z)) (Some t.coefficient) None)
    by true true e = sym (ap (or_else (cell_in i (cells_among m d.members d.columns))) (never (row == i) (Some t.coefficient)) ∙ nothing_else (cell_in i (cells_among m d.members d.columns)))
    by true false e = cell_last i (cells_among m d.members d.columns) (cell_of row t) ∙ ap (or_else (cell_in i (cells_among m d.members d.columns))) (with false e (row == i))
    by false z e = sym (ap (or_else (cell_in i (cells_among m d.members d.columns))) (never (row == i) (Some t.coefficient)) ∙ nothing_else (cell_in i (cells_among m d.members d.columns)))

noted_at : (row i s : ℕ) (m : List Symbol) (t : Term) (ds : List Demanded) → s < length ds → AreAligned ds → coefficient_at i s m (noted row t ds) ≡ or_else (coefficient_at i s m ds) (given_by row i s m t)
noted_at row i s m t ds lt h = ap (λ (d : Demanded). cell_in i (cells_among m d.members d.columns)) (changed-row (noted_in row t) ds t.variable.statement s none_demanded lt) ∙ by (t.variable.statement == s)
  where
    never : (r : Bool) (x : Option Rational) → cond (r && false) x None ≡ None
    never true x = refl
    never false x = refl

    by : (u : Bool) → cell_in i (cells_among m (cond u (noted_in row t (get_or ds s none_demanded)) (get_or ds s none_demanded)).members (cond u (noted_in row t (get_or ds s none_demanded)) (get_or ds s none_demanded)).columns)
        ≡ or_else (coefficient_at i s m ds) (cond (row == i && ((u && tuple_eq m t.variable.subscripts) && not (is_zero t.coefficient))) (Some t.coefficient) None)
    by true = one_term row i m t (get_or ds s none_demanded) (aligned_at ds s lt h)
    by false = sym (ap (or_else (coefficient_at i s m ds)) (never (row == i) (Some t.coefficient)) ∙ nothing_else (coefficient_at i s m ds))

-- ---- all terms of a row

abbrev pub all_given : ℕ → ℕ → ℕ → List Symbol → List Term → Option Rational
all_given row i s m ts = cond (row == i) (coefficient_in s m ts) None

else_assoc : (a b c : Option Rational) → or_else (or_else a b) c ≡ or_else a (or_else b c)
else_assoc (Some a) b c = refl
else_assoc None b c = refl

given_more : (row i s : ℕ) (m : List Symbol) (t : Term) (ts : List Term) → or_else (given_by row i s m t) (all_given row i s m ts) ≡ all_given row i s m (t ∷ ts)
given_more row i s m t ts = by (row == i) (is_of s m t && not (is_zero t.coefficient))
  where
    by : (r u : Bool) → or_else (cond (r && u) (Some t.coefficient) None) (cond r (coefficient_in s m ts) None) ≡ cond r (cond u (Some t.coefficient) (coefficient_in s m ts)) None
    by true true = refl
    by true false = refl
    by false u = refl

pub record AreNoted (row : ℕ) (ts : List Term) (ds es : List Demanded) : Type 0 where
  pub aligned : AreAligned es
  pub size : length es ≡ length ds
  pub coefficients : (i s : ℕ) (m : List Symbol) → s < length ds → coefficient_at i s m es ≡ or_else (coefficient_at i s m ds) (all_given row i s m ts)

first_ok : (t : Bool) (row : ℕ) (ts : List Term) (ds es : List Demanded) → then_do (note_all row ts) (cond t (Ok ds) (Err TooMany)) ≡ Ok es → note_all row ts ds ≡ Ok es
first_ok true row ts ds es h = h
first_ok false row ts ds es h = absurd cc

none_given : (row i s : ℕ) (m : List Symbol) → all_given row i s m [] ≡ None
none_given row i s m = by (row == i)
  where
    none : Option Rational
    none = None

    by : (r : Bool) → cond r None None ≡ none
    by true = refl
    by false = refl

pub all_noted : (row : ℕ) (ts : List Term) (ds es : List Demanded) → AreAligned ds → note_all row ts ds ≡ Ok es → AreNoted row ts ds es
all_noted row [] ds es h is =
    let same : ds ≡ es = cc in
    subst (AreNoted row [] ds) same (record { aligned = h; size = refl; coefficients = λ i s m lt. sym (ap (or_else (coefficient_at i s m ds)) (none_given row i s m) ∙ nothing_else (coefficient_at i s m ds)) })
all_noted row (t ∷ ts) ds es h is =
    let more = noted row t ds in
    let size : length more ≡ length ds = length-changed (noted_in row t) ds t.variable.statement in
    let rest = all_noted row ts more es (aligned_changed row t ds t.variable.statement h) (first_ok (within_limits more) row ts more es is) in
    record {
      aligned = rest.aligned;
      size = rest.size ∙ size;
      coefficients = λ i s m lt. rest.coefficients i s m (omega (arith, size, lt))
          ∙ ap (λ o. or_else o (all_given row i s m ts)) (noted_at row i s m t ds lt h)
          ∙ else_assoc (coefficient_at i s m ds) (given_by row i s m t) (all_given row i s m ts)
          ∙ ap (or_else (coefficient_at i s m ds)) (given_more row i s m t ts);
    }

-- ---- drafts

none_at : (n i s : ℕ) (m : List Symbol) → coefficient_at i s m (all_none n) ≡ None
none_at zero i s m = refl
none_at (suc n) i zero m = refl
none_at (suc n) i (suc s) m = none_at n i s m

none_aligned : (n : ℕ) → AreAligned (all_none n)
none_aligned zero = tt
none_aligned (suc n) = (refl, none_aligned n)

pub start : (objects : List Declared) → IsDraft (no_rows objects)
start vs = record { aligned = none_aligned (length vs); earlier = λ i s m h. none_at (length vs) i s m }

pub aimed : (direction : Direction) (constant : Rational) (d : Draft) → IsDraft d → IsDraft (with_objective direction constant d)
aimed direction constant d h = record { aligned = h.aligned; earlier = h.earlier }

-- the parts of a draft with one more row
record IsMade (head : RowHead) (terms : List Term) (d e : Draft) : Type 0 where
  rows : e.rows ≡ d.rows ++ head ∷ []
  noted : note_all (length d.rows) terms d.variables ≡ Ok e.variables

made_of : (head : RowHead) (terms : List Term) (d e : Draft) → with_new_row head terms d ≡ Ok e → IsMade head terms d e
made_of head terms d e is = few (nat_lt (length d.rows) 1000000) is
  where
    put : List Demanded → Result Draft DraftFault
    put vs = Ok (record d { rows = d.rows ++ head ∷ []; variables = vs })

    taken : (r : Result (List Demanded) DraftFault) → note_all (length d.rows) terms d.variables ≡ r → then_do (λ vs. Ok (record d { rows = d.rows ++ head ∷ []; variables = vs })) r ≡ Ok e → IsMade head terms d e
    taken (Err f) was h = absurd cc
    taken (Ok vs) was h =
        let same : record d { rows = d.rows ++ head ∷ []; variables = vs } ≡ e = cc in
        record { rows = sym (ap (λ (x : Draft). x.rows) same); noted = was ∙ ap (λ (x : Draft). Ok x.variables) same }

    few : (t : Bool) → cond t (then_do (λ vs. Ok (record d { rows = d.rows ++ head ∷ []; variables = vs })) (note_all (length d.rows) terms d.variables)) (Err TooMany) ≡ Ok e → IsMade head terms d e
    few true h = taken (note_all (length d.rows) terms d.variables) refl h
    few false h = absurd cc

other_row : (n i : ℕ) → n < i → (n == i) ≡ false
other_row n i h = grind (arith, nat_tests)

past_end : (ds : List Demanded) (s : ℕ) → length ds ≤ s → get_or ds s none_demanded ≡ none_demanded
past_end [] s h = refl
past_end (d ∷ ds) zero h = absurd (omega (arith, h))
past_end (d ∷ ds) (suc s) h = past_end ds s (omega (arith, h))

new_kept : (head : RowHead) (terms : List Term) (d e : Draft) → with_new_row head terms d ≡ Ok e → IsDraft d → IsDraft e
new_kept head terms d e is h =
    let made = made_of head terms d e is in
    let noted = all_noted (length d.rows) terms d.variables e.variables h.aligned made.noted in
    record { aligned = noted.aligned; earlier = λ i s m late. by i s m late (nat_lt s (length d.variables)) refl made noted }
  where
    by : (i s : ℕ) (m : List Symbol) → length e.rows ≤ i → (t : Bool) → nat_lt s (length d.variables) ≡ t → IsMade head terms d e → AreNoted (length d.rows) terms d.variables e.variables → coefficient_at i s m e.variables ≡ None
    by i s m late true t made noted =
        let lt : s < length d.variables = grind (arith, nat_tests) in
        let after : length d.rows < i = omega (arith, ap (λ rs. length rs) made.rows, length-append d.rows (head ∷ []), late) in
        let none : all_given (length d.rows) i s m terms ≡ None = ap (λ r. cond r (coefficient_in s m terms) None) (other_row (length d.rows) i after) in
        noted.coefficients i s m lt ∙ ap (λ o. or_else o (all_given (length d.rows) i s m terms)) (h.earlier i s m (omega (arith, after))) ∙ none
    by i s m late false t made noted =
        let past : length e.variables ≤ s = grind (arith, nat_tests, noted.size) in
        ap (λ (x : Demanded). cell_in i (cells_among m x.members x.columns)) (past_end e.variables s past)

pub row_kept : (head : RowHead) (terms : List Term) (d e : Draft) → with_row head terms d ≡ Ok e → IsDraft d → IsDraft e
row_kept head terms d e is h = by (is_new head d) is
  where
    by : (t : Bool) → cond t (with_new_row head terms d) (Ok d) ≡ Ok e → IsDraft e
    by false k = let same : d ≡ e = cc in subst IsDraft same h
    by true k = new_kept head terms d e k h

pub row_again : (head : RowHead) (terms : List Term) (d : Draft) → is_new head d ≡ false → with_row head terms d ≡ Ok d
row_again head terms d h = rw h refl

as_new : (head : RowHead) (terms : List Term) (d : Draft) → is_new head d ≡ true → with_row head terms d ≡ with_new_row head terms d
as_new head terms d h = rw h refl

same_row : (n i : ℕ) → (n == i) ≡ true → n ≡ i
same_row n i h = grind (arith, nat_tests)

swapped : (n i : ℕ) → (n == i) ≡ (i == n)
swapped n i = grind (arith, nat_tests)

pub row_terms : (head : RowHead) (terms : List Term) (d e : Draft) (i s : ℕ) (m : List Symbol) → is_new head d ≡ true → with_row head terms d ≡ Ok e → IsDraft d → s < length d.variables
    → coefficient_at i s m e.variables ≡ cond (i == length d.rows) (coefficient_in s m terms) (coefficient_at i s m d.variables)
row_terms head terms d e i s m new is h lt =
    let made = made_of head terms d e (sym (as_new head terms d new) ∙ is) in
    let noted = all_noted (length d.rows) terms d.variables e.variables h.aligned made.noted in
    noted.coefficients i s m lt ∙ ap (λ t. or_else (coefficient_at i s m d.variables) (cond t (coefficient_in s m terms) None)) (swapped (length d.rows) i) ∙ by (i == length d.rows) refl
  where
    by : (t : Bool) → (i == length d.rows) ≡ t → or_else (coefficient_at i s m d.variables) (cond t (coefficient_in s m terms) None) ≡ cond t (coefficient_in s m terms) (coefficient_at i s m d.variables)
    by true e = let at : i ≡ length d.rows = same_row i (length d.rows) e in ap (λ o. or_else o (coefficient_in s m terms)) (h.earlier i s m (omega (arith, at)))
    by false e = nothing_else (coefficient_at i s m d.variables)
