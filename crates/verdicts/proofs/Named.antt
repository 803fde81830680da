-- What else is true of weights that name splits: no new numbers, and the order of the places is kept.
use Rattle.std.proofs.Common.{◌*◌, ◌≡◌, ◌∙◌, sym, ap, ℕ, ◌+◌, ◌≤◌, List, [], ◌∷◌, Bool, true, false, refl, Option, Some, None, if◌then◌else◌, arith}
use Rattle.std.specs.Prelude.{nat_lt, pos, ◌+ℤ◌}
use Rattle.std.proofs.lemmas.Bool.Decides.{nat_tests}
use Rattle.rational.specs.Rational.{Rational, zero_ℚ, neg_ℚ, whole}
use Rattle.rational.specs.Compare.{is_less, is_zero}
use Rattle.milp.specs.Problem.{Problem}
use mathlib.Core.Path.{ap₂}
use Rattle.verdicts.specs.Certificate.{Item, Split, Side, Low, High}
use Rattle.verdicts.specs.Migrated.{rank, InRank, lower_source, upper_source, source, kept_if, kept, on_split, placed, placed_if, with_splits, Each, IsOther, AllOther, Rising}
use Rattle.verdicts.specs.Proves.{way_get, narrows, is_column, unit_column, lower_under, upper_under}
use Rattle.verdicts.proofs.Migration.{Gives, lower_given, upper_given, neg_less}
use Rattle.std.proofs.lemmas.Bool.{eqb-true}

each_placed : (F : Item → Type 0) (i : Item) (is : List Item) → F i → Each F is → Each F (placed i is)
each_placed F i [] h k = (h, tt)
each_placed F i (j ∷ js) h k = go (nat_lt j.index i.index) (each_placed F i js h k.1)
  where
    go : (b : Bool) → Each F (placed i js) → Each F (if b then j ∷ placed i js else i ∷ j ∷ js)
    go true r = (k.0, r)
    go false r = (h, k)

-- ---- numbers

abbrev Weighs : (Rational → Type 0) → Item → Type 0
Weighs F i = F i.weight

pub kept_each : (F : Item → Type 0) (p : Problem) (sides : List Side) (is : List Item) → Each F is → Each F (kept p sides is)
kept_each F p sides [] h = tt
kept_each F p sides (i ∷ is) h = go (source p sides i) (kept_each F p sides is h.1)
  where
    go : (k : Option ℕ) → Each F (kept p sides is) → Each F (kept_if k i (kept p sides is))
    go None r = (h.0, r)
    go (Some k) r = r

on_split_weighs : (F : Rational → Type 0) (k : ℕ) (i : Item) → ((v : Rational) → F v → F (neg_ℚ v)) → F i.weight → F (on_split k i).weight
on_split_weighs F k i n h = go (is_less zero_ℚ i.weight)
  where
    go : (b : Bool) → F (if b then i.weight else neg_ℚ i.weight)
    go true = h
    go false = n i.weight h

pub splits_weigh : (F : Rational → Type 0) (p : Problem) (sides : List Side) (is splits : List Item) → ((v : Rational) → F v → F (neg_ℚ v)) → Each (Weighs F) is → Each (Weighs F) splits → Each (Weighs F) (with_splits p sides is splits)
splits_weigh F p sides [] splits n h k = k
splits_weigh F p sides (i ∷ is) splits n h k = go (source p sides i) (splits_weigh F p sides is splits n h.1 k)
  where
    pick : (at : ℕ) (b : Bool) → Each (Weighs F) (with_splits p sides is splits) → Each (Weighs F) (if b then with_splits p sides is splits else placed (on_split at i) (with_splits p sides is splits))
    pick at true r = r
    pick at false r = each_placed (Weighs F) (on_split at i) (with_splits p sides is splits) (on_split_weighs F at i n h.0) r

    go : (o : Option ℕ) → Each (Weighs F) (with_splits p sides is splits) → Each (Weighs F) (placed_if o i (with_splits p sides is splits))
    go None r = r
    go (Some at) r = pick at (is_zero i.weight) r

-- ---- signs

pub splits_positive : (p : Problem) (sides : List Side) (is splits : List Item) → Each (λ i. is_less zero_ℚ i.weight ≡ true) splits → Each (λ i. is_less zero_ℚ i.weight ≡ true) (with_splits p sides is splits)
splits_positive p sides [] splits k = k
splits_positive p sides (i ∷ is) splits k = go (source p sides i) (splits_positive p sides is splits k)
  where
    above : (at : ℕ) → is_zero i.weight ≡ false → (b : Bool) → is_less zero_ℚ i.weight ≡ b → is_less zero_ℚ (if b then i.weight else neg_ℚ i.weight) ≡ true
    above at z true e = e
    above at z false e = neg_less i.weight e z

    pick : (at : ℕ) (b : Bool) → is_zero i.weight ≡ b → Each (λ i. is_less zero_ℚ i.weight ≡ true) (with_splits p sides is splits) → Each (λ i. is_less zero_ℚ i.weight ≡ true) (if b then with_splits p sides is splits else placed (on_split at i) (with_splits p sides is splits))
    pick at true z r = r
    pick at false z r = each_placed (λ i. is_less zero_ℚ i.weight ≡ true) (on_split at i) (with_splits p sides is splits) (above at z (is_less zero_ℚ i.weight) refl) r

    go : (o : Option ℕ) → Each (λ i. is_less zero_ℚ i.weight ≡ true) (with_splits p sides is splits) → Each (λ i. is_less zero_ℚ i.weight ≡ true) (placed_if o i (with_splits p sides is splits))
    go None r = r
    go (Some at) r = pick at (is_zero i.weight) refl r

-- ---- order

-- the side that gives the bound
pub source_way : (p : Problem) (sides : List Side) (i : Item) (k : ℕ) → source p sides i ≡ Some k → (s : Split) × (way_get sides k ≡ Some (if is_less zero_ℚ i.weight then High s else Low s)) × (narrows s i.index ≡ true)
source_way p sides i k h = go (is_less zero_ℚ i.weight) h
  where
    go : (b : Bool) → (if b then lower_source p sides i.index else upper_source p sides i.index) ≡ Some k → (s : Split) × (way_get sides k ≡ Some (if b then High s else Low s)) × (narrows s i.index ≡ true)
    go true e = let g : Gives High (λ s. whole (s.at +ℤ pos 1)) sides i.index (lower_under p [] i.index) (lower_under p sides i.index) (Some k) = rw e at (lower_given p sides i.index) in (g.0, g.1, g.2)
    go false e = let g : Gives Low (λ s. whole s.at) sides i.index (upper_under p [] i.index) (upper_under p sides i.index) (Some k) = rw e at (upper_given p sides i.index) in (g.0, g.1, g.2)

one_column : (o : Option ℕ) (i j : ℕ) → is_column o i ≡ true → is_column o j ≡ true → i ≡ j
one_column None i j h k = cc
one_column (Some c) i j h k = sym (eqb-true c i h) ∙ eqb-true c j k

same_side : (b c : Bool) (s t : Split) → Some (if b then High s else Low s) ≡ Some (if c then High t else Low t) → (b ≡ c) × (s ≡ t)
same_side true true s t h = (refl, cc)
same_side true false s t h = cc
same_side false true s t h = cc
same_side false false s t h = (refl, cc)

apart : (p : Problem) (sides : List Side) (i j : Item) (k l : ℕ) → IsOther i j → source p sides i ≡ Some k → source p sides j ≡ Some l → ¬ (l ≡ k)
apart p sides i j k l o h g e =
    let a = source_way p sides i k h in
    let b = source_way p sides j l g in
    let same = same_side (is_less zero_ℚ i.weight) (is_less zero_ℚ j.weight) a.0 b.0 (sym a.1 ∙ ap (way_get sides) (sym e) ∙ b.1) in
    let n : narrows a.0 j.index ≡ true = ap (λ s. narrows s j.index) same.1 ∙ b.2 in
    o (one_column (unit_column a.0.form) i.index j.index a.2 n) same.0

-- no weight of the others names this split
absent : (p : Problem) (sides : List Side) (i : Item) (k : ℕ) (is splits : List Item) → source p sides i ≡ Some k → Each (IsOther i) is → Each (λ m. ¬ (m.index ≡ k)) splits → Each (λ m. ¬ (m.index ≡ k)) (with_splits p sides is splits)
absent p sides i k [] splits h o r = r
absent p sides i k (j ∷ js) splits h o r = go (source p sides j) refl (absent p sides i k js splits h o.1 r)
  where
    pick : (l : ℕ) (b : Bool) → ¬ (l ≡ k) → Each (λ m. ¬ (m.index ≡ k)) (with_splits p sides js splits) → Each (λ m. ¬ (m.index ≡ k)) (if b then with_splits p sides js splits else placed (on_split l j) (with_splits p sides js splits))
    pick l true n u = u
    pick l false n u = each_placed (λ m. ¬ (m.index ≡ k)) (on_split l j) (with_splits p sides js splits) n u

    go : (o : Option ℕ) → source p sides j ≡ o → Each (λ m. ¬ (m.index ≡ k)) (with_splits p sides js splits) → Each (λ m. ¬ (m.index ≡ k)) (placed_if o j (with_splits p sides js splits))
    go None e u = u
    go (Some l) e u = pick l (is_zero j.weight) (apart p sides i j k l o.0 h e) u

placed_rising : (least : ℕ) (i : Item) (is : List Item) → least ≤ i.index → Each (λ m. ¬ (m.index ≡ i.index)) is → Rising least is → Rising least (placed i is)
placed_rising least i [] h n k = (h, tt)
placed_rising least i (j ∷ js) h n k = go (nat_lt j.index i.index) refl (λ l. placed_rising (j.index + 1) i js l n.1 k.1)
  where
    go : (b : Bool) → nat_lt j.index i.index ≡ b → (j.index + 1 ≤ i.index → Rising (j.index + 1) (placed i js)) → Rising least (if b then j ∷ placed i js else i ∷ j ∷ js)
    go true e r = let l : j.index + 1 ≤ i.index = grind (arith, nat_tests) in (k.0, r l)
    go false e r =
        let l : i.index ≤ j.index = grind (arith, nat_tests) in
        let d : ¬ (j.index ≡ i.index) = n.0 in
        let m : i.index + 1 ≤ j.index = grind arith in
        (h, (m, k.1))

-- behind weights of other splits
pub splits_rising : (p : Problem) (sides : List Side) (is splits : List Item) → AllOther is → Rising 0 splits → ((i : Item) (k : ℕ) → source p sides i ≡ Some k → Each (λ m. ¬ (m.index ≡ k)) splits) → Rising 0 (with_splits p sides is splits)
splits_rising p sides [] splits h r n = r
splits_rising p sides (i ∷ is) splits h r n = go (source p sides i) refl (splits_rising p sides is splits h.1 r n)
  where
    pick : (k : ℕ) (b : Bool) → source p sides i ≡ Some k → Rising 0 (with_splits p sides is splits) → Rising 0 (if b then with_splits p sides is splits else placed (on_split k i) (with_splits p sides is splits))
    pick k true e u = u
    pick k false e u = placed_rising 0 (on_split k i) (with_splits p sides is splits) (omega arith) (absent p sides i k is splits e h.0 (n i k e)) u

    go : (o : Option ℕ) → source p sides i ≡ o → Rising 0 (with_splits p sides is splits) → Rising 0 (placed_if o i (with_splits p sides is splits))
    go None e u = u
    go (Some k) e u = pick k (is_zero i.weight) e u

-- ---- the order of a text

rank_weaker : (least more : ℕ) (is : List Item) → least ≤ more → InRank more is → InRank least is
rank_weaker least more [] l h = tt
rank_weaker least more (i ∷ is) l h = let m = h.0 in (omega arith, h.1)

pub kept_in_rank : (p : Problem) (sides : List Side) (least : ℕ) (is : List Item) → InRank least is → InRank least (kept p sides is)
kept_in_rank p sides least [] h = tt
kept_in_rank p sides least (i ∷ is) h = go (source p sides i) (kept_in_rank p sides (rank i + 1) is h.1)
  where
    go : (k : Option ℕ) → InRank (rank i + 1) (kept p sides is) → InRank least (kept_if k i (kept p sides is))
    go None r = (h.0, r)
    go (Some k) r = let m = h.0 in rank_weaker least (rank i + 1) (kept p sides is) (omega arith) r

others : (i : Item) (m : ℕ) (is : List Item) → rank i + 1 ≤ m → InRank m is → Each (IsOther i) is
others i m [] l h = tt
others i m (j ∷ js) l h =
    let a = h.0 in
    (λ e f. (let same : rank i ≡ rank j = ap₂ (λ n (b : Bool). 2 * n + (if b then 0 else 1)) e f in omega arith), others i (rank j + 1) js (omega arith) h.1)

-- no bound of a column has two weights in a text
pub all_other : (m : ℕ) (is : List Item) → InRank m is → AllOther is
all_other m [] h = tt
all_other m (i ∷ is) h = (others i (rank i + 1) is (omega arith) h.1, all_other (rank i + 1) is h.1)
