-- Weights of a node's rows have the same sums as those that name its splits.
use Rattle.std.proofs.Common.{◌+◌, sym, ◌≡◌, ◌∙◌, ℕ, zero, suc, ◌-◌, ◌<◌, ◌≤◌, ◌==◌, List, [], ◌∷◌, ◌++◌, Bool, true, false, refl, ap, Option, Some, None, IfSome, slice_get, option_and_then, length, if◌then◌else◌, arith}
use Rattle.std.specs.Prelude.{nat_lt, map, option_map, is_some}
use Rattle.std.proofs.lemmas.Bool.Decides.{nat_tests}
use Rattle.std.proofs.lemmas.Option.{slice_get-map}
use Rattle.rational.specs.Rational.{Rational, zero_ℚ}
use Rattle.rational.specs.Compare.{is_less}
use Rattle.milp.specs.Problem.{Problem}
use Rattle.verdicts.specs.Certificate.{Two, Item, Weights, Split, Side, Low, High, Derived, Empty, Bound}
use Rattle.verdicts.specs.Proves.{unit_column, is_column, side_form, side_bound, way_get, TakesAll, MeetsDerived, AllDerived, term, row_term, column_term, derived_term, split_term, joined, gathered, terms, refutes, bound_passes, node_passes}
use Rattle.verdicts.specs.Migrated.{source, Each, AllOther, Rising, Keeps, TermKeeps}
use Rattle.verdicts.specs.SplitRows.{PlacedSide, split_of, unless, row_sides, as_row, node_rows, first_items, of_split, row_items, written}
use Rattle.verdicts.proofs.Migration.{term_self, keeps_self, keeps_then, joined_keeps, gathered_keeps, moved_in, weights_keep, refutes_keeps, bound_keeps}
use Rattle.verdicts.proofs.Sums.{way_taken}
use Rattle.verdicts.proofs.Named.{source_way, splits_rising, splits_positive}
use Rattle.std.proofs.Math.Decide.{dec_lt}

-- each side stands at its place
abbrev ArePlaced : List Side → List PlacedSide → Type 0
ArePlaced sides [] = Unit {0}
ArePlaced sides (t ∷ ts) = ((way_get sides t.place ≡ Some t.side) × (t.place < length sides)) × ArePlaced sides ts

one_deeper : (s : Side) (sides : List Side) (ts : List PlacedSide) → ArePlaced sides ts → ArePlaced (s ∷ sides) ts
one_deeper s sides [] h = tt
one_deeper s sides (t ∷ ts) h =
    let less = h.0.1 in
    let e : (t.place == length sides) ≡ false = grind (arith, nat_tests) in
    ((rw e h.0.0, omega arith), one_deeper s sides ts h.1)

both_placed : (sides : List Side) (ts us : List PlacedSide) → ArePlaced sides ts → ArePlaced sides us → ArePlaced sides (ts ++ us)
both_placed sides [] us h k = k
both_placed sides (t ∷ ts) us h k = (h.0, both_placed sides ts us h.1 k)

rows_placed : (sides : List Side) → ArePlaced sides (row_sides sides)
rows_placed [] = tt
rows_placed (s ∷ sides) = both_placed (s ∷ sides) (row_sides sides) (unless (is_some (unit_column (split_of s).form)) (record { place = length sides; side = s })) (one_deeper s sides (row_sides sides) (rows_placed sides)) (go (is_some (unit_column (split_of s).form)))
  where
    go : (b : Bool) → ArePlaced (s ∷ sides) (unless b (record { place = length sides; side = s }))
    go true = tt
    go false = let e : (length sides == length sides) ≡ true = grind (arith, nat_tests) in ((rw e refl, omega arith), tt)

placed_at : (sides : List Side) (ts : List PlacedSide) → ArePlaced sides ts → (m : ℕ) → IfSome (slice_get ts m) (λ t. way_get sides t.place ≡ Some t.side)
placed_at sides [] h m = tt
placed_at sides (t ∷ ts) h zero = h.0.0
placed_at sides (t ∷ ts) h (suc m) = placed_at sides ts h.1 m

-- ---- rows by place

front : (ds es : List Derived) (k : ℕ) → k < length ds → slice_get (ds ++ es) k ≡ slice_get ds k
front [] es k h = absurd (omega arith)
front (d ∷ ds) es zero h = refl
front (d ∷ ds) es (suc k) h = front ds es k (omega arith)

behind : (ds es : List Derived) (k : ℕ) → length ds ≤ k → slice_get (ds ++ es) k ≡ slice_get es (k - length ds)
behind [] es k h = let e : k ≡ k - 0 = omega arith in ap (slice_get es) e
behind (d ∷ ds) es zero h = absurd (omega arith)
behind (d ∷ ds) es (suc k) h = let e : k - length ds ≡ suc k - suc (length ds) = omega arith in behind ds es k (omega arith) ∙ ap (slice_get es) e

row_keeps : (ds es : List Derived) (i : Item) → nat_lt i.index (length ds) ≡ true → TermKeeps (derived_term (ds ++ es) i) (derived_term ds i)
row_keeps ds es i h =
    let less : i.index < length ds = grind (arith, nat_tests) in
    let e = front ds es i.index less in
    rw e (term_self (derived_term ds i))

-- what a row behind the derived ones adds, as a weight of its split
split_keeps : (ds : List Derived) (sides : List Side) (i : Item) (t : PlacedSide) → nat_lt i.index (length ds) ≡ false → slice_get (row_sides sides) (i.index - length ds) ≡ Some t → TermKeeps (derived_term (node_rows ds sides) i) (split_term sides (record { index = t.place; weight = i.weight }))
split_keeps ds sides i t h e =
    let far : length ds ≤ i.index = grind (arith, nat_tests) in
    let k = behind ds (map as_row (row_sides sides)) i.index far ∙ slice_get-map as_row (row_sides sides) (i.index - length ds) ∙ ap (option_map as_row) e in
    let w : way_get sides t.place ≡ Some t.side = rw e at (placed_at sides (row_sides sides) (rows_placed sides) (i.index - length ds)) in
    rw (k, w) (go (is_less zero_ℚ i.weight))
  where
    go : (b : Bool) → TermKeeps (if b then term i.weight (side_form t.side) (Some (side_bound t.side)) else None) (if b then term i.weight (side_form t.side) (Some (side_bound t.side)) else None)
    go true = record { form = λ j. refl; bound = refl }
    go false = tt

no_keeps : (ds : List Derived) (sides : List Side) (i : Item) → nat_lt i.index (length ds) ≡ false → slice_get (row_sides sides) (i.index - length ds) ≡ None → derived_term (node_rows ds sides) i ≡ None
no_keeps ds sides i h e =
    let far : length ds ≤ i.index = grind (arith, nat_tests) in
    let k = behind ds (map as_row (row_sides sides)) i.index far ∙ slice_get-map as_row (row_sides sides) (i.index - length ds) ∙ ap (option_map as_row) e in
    rw k (go (is_less zero_ℚ i.weight))
  where
    go : (b : Bool) → (if b then option_and_then (λ (d : Derived). term i.weight d.form (Some d.bound)) None else None) ≡ None
    go true = refl
    go false = refl

-- ---- all rows

rows_keep : (ds : List Derived) (sides : List Side) (is : List Item) → Keeps (gathered (derived_term (node_rows ds sides)) is (Some [])) (gathered (derived_term ds) (first_items (length ds) is) (gathered (split_term sides) (row_items (length ds) (row_sides sides) is) (Some [])))
rows_keep ds sides [] = keeps_self (Some [])
rows_keep ds sides (i ∷ is) = go (nat_lt i.index (length ds)) refl (rows_keep ds sides is)
  where
    of_row : (o : Option PlacedSide) → slice_get (row_sides sides) (i.index - length ds) ≡ o → nat_lt i.index (length ds) ≡ false → Keeps (gathered (derived_term (node_rows ds sides)) is (Some [])) (gathered (derived_term ds) (first_items (length ds) is) (gathered (split_term sides) (row_items (length ds) (row_sides sides) is) (Some []))) → Keeps (joined (derived_term (node_rows ds sides) i) (gathered (derived_term (node_rows ds sides)) is (Some []))) (gathered (derived_term ds) (first_items (length ds) is) (gathered (split_term sides) (of_split o i.weight (row_items (length ds) (row_sides sides) is)) (Some [])))
    of_row None e h k = rw (no_keeps ds sides i h e) tt
    of_row (Some t) e h k =
        let u = split_term sides (record { index = t.place; weight = i.weight }) in
        let old = gathered (derived_term (node_rows ds sides)) is (Some []) in
        let mid = gathered (split_term sides) (row_items (length ds) (row_sides sides) is) (Some []) in
        let new = gathered (derived_term ds) (first_items (length ds) is) mid in
        keeps_then (joined (derived_term (node_rows ds sides) i) old) (joined u new) (gathered (derived_term ds) (first_items (length ds) is) (joined u mid)) (joined_keeps (derived_term (node_rows ds sides) i) u old new (split_keeps ds sides i t h e) k) (moved_in (derived_term ds) (first_items (length ds) is) u mid)

    go : (b : Bool) → nat_lt i.index (length ds) ≡ b → Keeps (gathered (derived_term (node_rows ds sides)) is (Some [])) (gathered (derived_term ds) (first_items (length ds) is) (gathered (split_term sides) (row_items (length ds) (row_sides sides) is) (Some []))) → Keeps (joined (derived_term (node_rows ds sides) i) (gathered (derived_term (node_rows ds sides)) is (Some []))) (gathered (derived_term ds) (if b then i ∷ first_items (length ds) is else first_items (length ds) is) (gathered (split_term sides) (if b then row_items (length ds) (row_sides sides) is else of_split (slice_get (row_sides sides) (i.index - length ds)) i.weight (row_items (length ds) (row_sides sides) is)) (Some [])))
    go true e k = joined_keeps (derived_term (node_rows ds sides) i) (derived_term ds i) _ _ (row_keeps ds (map as_row (row_sides sides)) i e) k
    go false e k = of_row (slice_get (row_sides sides) (i.index - length ds)) refl e k

no_splits : (w : Weights) (p : Problem) (ds : List Derived) (sides : List Side) → w.splits ≡ [] → Keeps (terms p (node_rows ds sides) sides [] w) (terms p ds sides sides (record { rows = w.rows; columns = w.columns; derived = first_items (length ds) w.derived; splits = row_items (length ds) (row_sides sides) w.derived }))
no_splits w p ds sides e =
    rw e (gathered_keeps (row_term p) (row_term p) w.rows _ _ (λ i. term_self (row_term p i))
    (gathered_keeps (column_term p sides) (column_term p sides) w.columns _ _ (λ i. term_self (column_term p sides i))
    (rows_keep ds sides w.derived)))

pub written_keep : (p : Problem) (ds : List Derived) (sides : List Side) (w : Weights) → w.splits ≡ [] → Keeps (terms p (node_rows ds sides) sides [] w) (terms p ds [] sides (written p ds sides w))
written_keep p ds sides w e =
    let u : Weights = record { rows = w.rows; columns = w.columns; derived = first_items (length ds) w.derived; splits = row_items (length ds) (row_sides sides) w.derived } in
    keeps_then (terms p (node_rows ds sides) sides [] w) (terms p ds sides sides u) (terms p ds [] sides (written p ds sides w)) (no_splits w p ds sides e) (weights_keep p ds sides sides u (λ i. term_self (split_term sides i)))

-- ---- the tests of a leaf

pub written_empty : (p : Problem) (goal : Option Rational) (ds : List Derived) (sides : List Side) (w : Weights) → w.splits ≡ [] → refutes (length p.columns) (terms p (node_rows ds sides) sides [] w) ≡ true → node_passes p Two goal ds sides (Empty (written p ds sides w)) ≡ true
written_empty p goal ds sides w e t = refutes_keeps (length p.columns) (terms p (node_rows ds sides) sides [] w) (terms p ds [] sides (written p ds sides w)) (written_keep p ds sides w e) t

pub written_bound : (p : Problem) (goal : Option Rational) (ds : List Derived) (sides : List Side) (w : Weights) → w.splits ≡ [] → bound_passes p goal (terms p (node_rows ds sides) sides [] w) ≡ true → node_passes p Two goal ds sides (Bound (written p ds sides w)) ≡ true
written_bound p goal ds sides w e t = bound_keeps p goal (terms p (node_rows ds sides) sides [] w) (terms p ds [] sides (written p ds sides w)) (written_keep p ds sides w e) t

-- ---- points

taken_more : (x : List Rational) (ds : List Derived) (sides : List Side) (ts : List PlacedSide) → TakesAll x sides → AllDerived x ds → ArePlaced sides ts → AllDerived x (ds ++ map as_row ts)
taken_more x ds sides ts h d placed k = elim (dec_lt k (length ds)) [
  | yes low ↦ rw (front ds (map as_row ts) k low) (d k)
  | no high ↦ rw (behind ds (map as_row ts) k (omega arith) ∙ slice_get-map as_row ts (k - length ds)) (row ts (k - length ds) placed)
]
  where
    row : (us : List PlacedSide) (m : ℕ) → ArePlaced sides us → IfSome (option_map as_row (slice_get us m)) (MeetsDerived x)
    row [] m q = tt
    row (u ∷ us) zero q = let found = way_taken x sides h u.place in rw q.0.0 at found
    row (u ∷ us) (suc m) q = row us m q.1

-- a point on each side taken meets a node's rows
pub rows_taken : (x : List Rational) (ds : List Derived) (sides : List Side) → TakesAll x sides → AllDerived x ds → AllDerived x (node_rows ds sides)
rows_taken x ds sides h d = taken_more x ds sides (row_sides sides) h d (rows_placed sides)

-- ---- order and signs

abbrev PlacesRise : ℕ → List PlacedSide → Type 0
PlacesRise least [] = Unit {0}
PlacesRise least (t ∷ ts) = (least ≤ t.place) × PlacesRise (t.place + 1) ts

rise_behind : (least : ℕ) (sides : List Side) (ts : List PlacedSide) (s : Side) (n : ℕ) → n ≡ length sides → least ≤ n → ArePlaced sides ts → PlacesRise least ts → PlacesRise least (ts ++ record { place = n; side = s } ∷ [])
rise_behind least sides [] s n e l h k = (l, tt)
rise_behind least sides (t ∷ ts) s n e l h k = let less = h.0.1 in (k.0, rise_behind (t.place + 1) sides ts s n e (omega arith) h.1 k.1)

rows_rise : (sides : List Side) → PlacesRise 0 (row_sides sides)
rows_rise [] = tt
rows_rise (s ∷ sides) = go (is_some (unit_column (split_of s).form)) (rows_rise sides)
  where
    nothing_more : (ts : List PlacedSide) (least : ℕ) → PlacesRise least ts → PlacesRise least (ts ++ [])
    nothing_more [] least h = tt
    nothing_more (t ∷ ts) least h = (h.0, nothing_more ts (t.place + 1) h.1)

    go : (b : Bool) → PlacesRise 0 (row_sides sides) → PlacesRise 0 (row_sides sides ++ unless b (record { place = length sides; side = s }))
    go true h = nothing_more (row_sides sides) 0 h
    go false h = rise_behind 0 sides (row_sides sides) s (length sides) refl (omega arith) (rows_placed sides) h

at_least : (least : ℕ) (ts : List PlacedSide) → PlacesRise least ts → (m : ℕ) → IfSome (slice_get ts m) (λ t. least ≤ t.place)
at_least least [] h m = tt
at_least least (t ∷ ts) h zero = h.0
at_least least (t ∷ ts) h (suc m) = weaker (slice_get ts m) (at_least (t.place + 1) ts h.1 m)
  where
    weaker : (o : Option PlacedSide) → IfSome o (λ u. t.place + 1 ≤ u.place) → IfSome o (λ u. least ≤ u.place)
    weaker None k = tt
    weaker (Some u) k = let l = h.0 in omega arith

later_above : (least : ℕ) (ts : List PlacedSide) → PlacesRise least ts → (a b : ℕ) → a < b → (t : PlacedSide) → slice_get ts a ≡ Some t → IfSome (slice_get ts b) (λ u. t.place + 1 ≤ u.place)
later_above least [] h a b l t e = tt
later_above least (u ∷ ts) h zero zero l t e = absurd (omega arith)
later_above least (u ∷ ts) h (suc a) zero l t e = absurd (omega arith)
later_above least (u ∷ ts) h zero (suc b) l t e = let same : u ≡ t = cc in rw (← same) (at_least (u.place + 1) ts h.1 b)
later_above least (u ∷ ts) h (suc a) (suc b) l t e = later_above (u.place + 1) ts h.1 a b (omega arith) t e

items_rise : (n : ℕ) (rs : List PlacedSide) → PlacesRise 0 rs → (m least : ℕ) (is : List Item) → Rising m is → ((k : ℕ) → m ≤ k → n ≤ k → IfSome (slice_get rs (k - n)) (λ t. least ≤ t.place)) → Rising least (row_items n rs is)
items_rise n rs h m least [] r q = tt
items_rise n rs h m least (i ∷ is) r q = go (nat_lt i.index n) refl (λ low. let l = r.0 in items_rise n rs h (i.index + 1) low is r.1)
  where
    skip : (least ≤ least) → (k : ℕ) → i.index + 1 ≤ k → n ≤ k → IfSome (slice_get rs (k - n)) (λ t. least ≤ t.place)
    skip z k a b = let l = r.0 in q k (omega arith) b

    of_row : (o : Option PlacedSide) → slice_get rs (i.index - n) ≡ o → n ≤ i.index → ((low : ℕ) → ((k : ℕ) → i.index + 1 ≤ k → n ≤ k → IfSome (slice_get rs (k - n)) (λ t. low ≤ t.place)) → Rising low (row_items n rs is)) → Rising least (of_split o i.weight (row_items n rs is))
    of_row None e f u = u least (skip (omega arith))
    of_row (Some t) e f u =
        let l = r.0 in
        let here : least ≤ t.place = rw e at (q i.index l f) in
        (here, u (t.place + 1) (λ k a b. later_above 0 rs h (i.index - n) (k - n) (omega arith) t e))

    go : (b : Bool) → nat_lt i.index n ≡ b → ((low : ℕ) → ((k : ℕ) → i.index + 1 ≤ k → n ≤ k → IfSome (slice_get rs (k - n)) (λ t. low ≤ t.place)) → Rising low (row_items n rs is)) → Rising least (if b then row_items n rs is else of_split (slice_get rs (i.index - n)) i.weight (row_items n rs is))
    go true e u = u least (skip (omega arith))
    go false e u = let far : n ≤ i.index = grind (arith, nat_tests) in of_row (slice_get rs (i.index - n)) refl far u

-- ---- rows narrow nothing

abbrev NarrowNone : List PlacedSide → Type 0
NarrowNone [] = Unit {0}
NarrowNone (t ∷ ts) = (is_some (unit_column (split_of t.side).form) ≡ false) × NarrowNone ts

rows_narrow_none : (sides : List Side) → NarrowNone (row_sides sides)
rows_narrow_none [] = tt
rows_narrow_none (s ∷ sides) = both (row_sides sides) (unless (is_some (unit_column (split_of s).form)) (record { place = length sides; side = s })) (rows_narrow_none sides) (go (is_some (unit_column (split_of s).form)) refl)
  where
    both : (ts us : List PlacedSide) → NarrowNone ts → NarrowNone us → NarrowNone (ts ++ us)
    both [] us h k = k
    both (t ∷ ts) us h k = (h.0, both ts us h.1 k)

    go : (b : Bool) → is_some (unit_column (split_of s).form) ≡ b → NarrowNone (unless b (record { place = length sides; side = s }))
    go true e = tt
    go false e = (e, tt)

-- the place of a row's split is not that of one that narrows a column
not_there : (p : Problem) (sides : List Side) (i : Item) (k : ℕ) → source p sides i ≡ Some k → (ts : List PlacedSide) → ArePlaced sides ts → NarrowNone ts → (m : ℕ) → IfSome (slice_get ts m) (λ t. ¬ (t.place ≡ k))
not_there p sides i k e [] h n m = tt
not_there p sides i k e (t ∷ ts) h n (suc m) = not_there p sides i k e ts h.1 n.1 m
not_there p sides i k e (t ∷ ts) h n zero = λ same.
    let a = source_way p sides i k e in
    let there : Some t.side ≡ Some (if is_less zero_ℚ i.weight then High a.0 else Low a.0) = sym h.0.0 ∙ ap (way_get sides) same ∙ a.1 in
    let split : split_of t.side ≡ a.0 = of_way (is_less zero_ℚ i.weight) t.side a.0 there in
    let none : is_some (unit_column a.0.form) ≡ false = ap (λ s. is_some (unit_column s.form)) (sym split) ∙ n.0 in
    some_column (unit_column a.0.form) i.index a.2 none
  where
    of_way : (b : Bool) (s : Side) (u : Split) → Some s ≡ Some (if b then High u else Low u) → split_of s ≡ u
    of_way true (High v) u q = cc
    of_way true (Low v) u q = cc
    of_way false (Low v) u q = cc
    of_way false (High v) u q = cc

    some_column : (o : Option ℕ) (j : ℕ) → is_column o j ≡ true → is_some o ≡ false → ⊥
    some_column None j x y = cc
    some_column (Some c) j x y = cc

items_elsewhere : (p : Problem) (sides : List Side) (n : ℕ) (is : List Item) (i : Item) (k : ℕ) → source p sides i ≡ Some k → Each (λ m. ¬ (m.index ≡ k)) (row_items n (row_sides sides) is)
items_elsewhere p sides n [] i k e = tt
items_elsewhere p sides n (j ∷ js) i k e = go (nat_lt j.index n) (items_elsewhere p sides n js i k e)
  where
    of_row : (o : Option PlacedSide) → IfSome o (λ t. ¬ (t.place ≡ k)) → Each (λ m. ¬ (m.index ≡ k)) (row_items n (row_sides sides) js) → Each (λ m. ¬ (m.index ≡ k)) (of_split o j.weight (row_items n (row_sides sides) js))
    of_row None q u = u
    of_row (Some t) q u = (q, u)

    go : (b : Bool) → Each (λ m. ¬ (m.index ≡ k)) (row_items n (row_sides sides) js) → Each (λ m. ¬ (m.index ≡ k)) (if b then row_items n (row_sides sides) js else of_split (slice_get (row_sides sides) (j.index - n)) j.weight (row_items n (row_sides sides) js))
    go true u = u
    go false u = of_row (slice_get (row_sides sides) (j.index - n)) (not_there p sides i k e (row_sides sides) (rows_placed sides) (rows_narrow_none sides) (j.index - n)) u

pub written_rising : (p : Problem) (ds : List Derived) (sides : List Side) (w : Weights) → AllOther w.columns → Rising 0 w.derived → Rising 0 (written p ds sides w).splits
written_rising p ds sides w h r = splits_rising p sides w.columns (row_items (length ds) (row_sides sides) w.derived) h (items_rise (length ds) (row_sides sides) (rows_rise sides) 0 0 w.derived r (λ k a b. at_least 0 (row_sides sides) (rows_rise sides) (k - length ds))) (items_elsewhere p sides (length ds) w.derived)

rows_positive : (n : ℕ) (rs : List PlacedSide) (is : List Item) → Each (λ i. is_less zero_ℚ i.weight ≡ true) is → Each (λ i. is_less zero_ℚ i.weight ≡ true) (row_items n rs is)
rows_positive n rs [] h = tt
rows_positive n rs (i ∷ is) h = go (nat_lt i.index n) (rows_positive n rs is h.1)
  where
    of_row : (o : Option PlacedSide) → Each (λ i. is_less zero_ℚ i.weight ≡ true) (row_items n rs is) → Each (λ i. is_less zero_ℚ i.weight ≡ true) (of_split o i.weight (row_items n rs is))
    of_row None u = u
    of_row (Some t) u = (h.0, u)

    go : (b : Bool) → Each (λ i. is_less zero_ℚ i.weight ≡ true) (row_items n rs is) → Each (λ i. is_less zero_ℚ i.weight ≡ true) (if b then row_items n rs is else of_split (slice_get rs (i.index - n)) i.weight (row_items n rs is))
    go true u = u
    go false u = of_row (slice_get rs (i.index - n)) u

pub written_positive : (p : Problem) (ds : List Derived) (sides : List Side) (w : Weights) → Each (λ i. is_less zero_ℚ i.weight ≡ true) w.derived → Each (λ i. is_less zero_ℚ i.weight ≡ true) (written p ds sides w).splits
written_positive p ds sides w h = splits_positive p sides w.columns (row_items (length ds) (row_sides sides) w.derived) (rows_positive (length ds) (row_sides sides) w.derived h)
