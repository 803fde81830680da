-- A point that is in the columns and rows, meets the cuts, and is on the side of each split is one of the node's relaxation.
use Rattle.std.proofs.Common.{◌≡◌, ◌∙◌, ℕ, zero, suc, ◌+◌, ◌==◌, ◌<◌, ◌≤◌, List, [], ◌∷◌, ◌++◌, length, Bool, true, false, Option, None, Some, IfSome, if◌then◌else◌, slice_get, get_or, nat_lt, refl, sym, ap, subst, arith, Result, Ok, Err, IfOk, IfErr, IsErrAnd}
use Rattle.std.specs.Prelude.{ℤ, pos, ◌+ℤ◌}
use Rattle.std.proofs.lemmas.Bool.{eqb-true, eq-eqb}
use Rattle.std.proofs.lemmas.Bool.Decides.{nat_tests}
use Rattle.std.proofs.lemmas.Option.{same_Some, slice_get_read, slice_get_past}
use Rattle.rational.specs.Rational.{Rational, zero_ℚ, one_ℚ, whole, ◌≤ℚ◌}
use Rattle.fraction.specs.declared.frac.NoFit.{NoFit}
use Rattle.fraction.specs.Answers.{add_answer}
use Rattle.milp.specs.Problem.{Column, Row, Problem}
use Rattle.milp.specs.Form.{number_at}
use Rattle.milp.specs.Points.{IsWithin, Relaxed}
use Rattle.cert_check.specs.Sums.{next_answer}
use Rattle.cert_check.proofs.Laws.{next_ok}
use Rattle.rational.specs.Compare.{is_at_most}
use Rattle.rational.proofs.Laws.{at_most_true, at_most_false, lt-not-le, le_trans, le_of_lt}
use Rattle.verdicts.specs.Certificate.{Split, Side, Low, High, Derived}
use Rattle.verdicts.specs.Proves.{InsideBounds, AllDerived, TakesSide, TakesAll, narrows, greater, lesser, lower_under, upper_under}
use Rattle.verdicts.proofs.Laws.{inside_taken, takes_low}
use Rattle.basis.specs.Node.{IsNodePoint}
use Rattle.certificate.specs.Written.{split_column}
use Rattle.certificate.proofs.Laws.{column_narrows, column_value}
use Rattle.certificate.specs.Ways.{side_of}
use Rattle.certificate.specs.declared.split.Side.{Side as TakenSide}
use Rattle.certificate.specs.declared.split.Side.TheVariants.{Low as LowTaken, High as HighTaken}
use Rattle.search_node.specs.Sides.{sides_of}
use Rattle.search_node.specs.declared.node.SplitTaken.{SplitTaken}
use Rattle.instance.specs.Sums.{sum_answer}
use Rattle.search_tree.specs.Faults.{IsCutFault}
use Rattle.search_tree.specs.Points.{AreInColumns, AreInRows, IsOnSide, IsOfColumn, AreOfColumns, AreOnSides, IsOffSide}

pub at_most_is : (a b : Rational) → is_at_most a b ≡ true → a ≤ℚ b
at_most_is a b h = at_most_true a b h

pub not_at_most : (a b : Rational) → is_at_most a b ≡ false → a ≤ℚ b → ⊥
not_at_most a b h k = lt-not-le b a (at_most_false a b h) k

-- ---- on each side

takes : (s : Split) (side : TakenSide) (x : List Rational) → IsOfColumn s → IsOnSide x (side_of s side) → TakesSide x (side_of s side)
takes s LowTaken x e h = let P : Rational → Type 0 = λ v. v ≤ℚ whole s.at in takes_low s x (subst P (sym (column_value x s e)) h)
takes s HighTaken x e h = let P : Rational → Type 0 = λ v. whole (s.at +ℤ pos 1) ≤ℚ v in subst P (sym (column_value x s e)) h

takes_both : (x : List Rational) (ts us : List Side) → TakesAll x ts → TakesAll x us → TakesAll x (ts ++ us)
takes_both x [] us h k = k
takes_both x (t ∷ ts) us h k = (h.0, takes_both x ts us h.1 k)

takes_all : (x : List Rational) (taken : List SplitTaken) → AreOnSides x taken → TakesAll x (sides_of taken)
takes_all x [] h = tt
takes_all x (t ∷ taken) h =
    let first : IsOfColumn t.split × IsOnSide x (side_of t.split t.side) = h zero in
    takes_both x (sides_of taken) (side_of t.split t.side ∷ []) (takes_all x taken (λ k. h (suc k))) (takes t.split t.side x first.0 first.1, tt)

-- ---- and back: inside the bounds under the sides, a point is on each that is one of a column

from_greater : (o : Option Rational) (b v : Rational) → greater o b ≤ℚ v → IfSome o (λ a. a ≤ℚ v) × (b ≤ℚ v)
from_greater None b v h = (tt, h)
from_greater (Some a) b v h = go (is_at_most a b) refl h
  where
    go : (t : Bool) → is_at_most a b ≡ t → (if t then b else a) ≤ℚ v → (a ≤ℚ v) × (b ≤ℚ v)
    go true e k = (le_trans a b v (at_most_true a b e) k, k)
    go false e k = (k, le_trans b a v (le_of_lt b a (at_most_false a b e)) k)

from_lesser : (o : Option Rational) (b v : Rational) → v ≤ℚ lesser o b → IfSome o (λ a. v ≤ℚ a) × (v ≤ℚ b)
from_lesser None b v h = (tt, h)
from_lesser (Some a) b v h = go (is_at_most a b) refl h
  where
    go : (t : Bool) → is_at_most a b ≡ t → v ≤ℚ (if t then a else b) → (v ≤ℚ a) × (v ≤ℚ b)
    go true e k = (k, le_trans v a b k (at_most_true a b e))
    go false e k = (le_trans v b a k (le_of_lt b a (at_most_false a b e)), k)

-- a split of a column narrows its bounds
narrows_own : (s : Split) → IsOfColumn s → narrows s (split_column s) ≡ true
narrows_own s e = column_narrows s (split_column s) e ∙ eq-eqb (split_column s) (split_column s) refl

-- where the split is one of a column
abbrev OnOwnSide : List Rational → Side → Type 0
OnOwnSide x (Low s) = IsOfColumn s → IsOnSide x (Low s)
OnOwnSide x (High s) = IsOfColumn s → IsOnSide x (High s)

own_side : (x : List Rational) (s : Split) (side : TakenSide) → OnOwnSide x (side_of s side) → IsOfColumn s → IsOnSide x (side_of s side)
own_side x s LowTaken h = h
own_side x s HighTaken h = h

above_next : (p : Problem) (s : Split) (at : List Side) (x : List Rational) → InsideBounds p (High s ∷ at) x → InsideBounds p at x × OnOwnSide x (High s)
above_next p s at x h = (record { within = λ j. record { low = before j (narrows s j) (h.within j).low; high = (h.within j).high } }, λ e. on (narrows s j) (narrows_own s e) (h.within j).low)
  where
    j : ℕ
    j = split_column s

    before : (j : ℕ) (t : Bool) → IfSome (if t then Some (greater (lower_under p at j) (whole (s.at +ℤ pos 1))) else lower_under p at j) (λ b. b ≤ℚ number_at x j) → IfSome (lower_under p at j) (λ b. b ≤ℚ number_at x j)
    before j true k = (from_greater (lower_under p at j) (whole (s.at +ℤ pos 1)) (number_at x j) k).0
    before j false k = k

    on : (t : Bool) → t ≡ true → IfSome (if t then Some (greater (lower_under p at j) (whole (s.at +ℤ pos 1))) else lower_under p at j) (λ b. b ≤ℚ number_at x j) → whole (s.at +ℤ pos 1) ≤ℚ number_at x j
    on true e k = (from_greater (lower_under p at j) (whole (s.at +ℤ pos 1)) (number_at x j) k).1
    on false e k = let never : false ≡ true = e in cc

below_it : (p : Problem) (s : Split) (at : List Side) (x : List Rational) → InsideBounds p (Low s ∷ at) x → InsideBounds p at x × OnOwnSide x (Low s)
below_it p s at x h = (record { within = λ j. record { low = (h.within j).low; high = before j (narrows s j) (h.within j).high } }, λ e. on (narrows s j) (narrows_own s e) (h.within j).high)
  where
    j : ℕ
    j = split_column s

    before : (j : ℕ) (t : Bool) → IfSome (if t then Some (lesser (upper_under p at j) (whole s.at)) else upper_under p at j) (λ b. number_at x j ≤ℚ b) → IfSome (upper_under p at j) (λ b. number_at x j ≤ℚ b)
    before j true k = (from_lesser (upper_under p at j) (whole s.at) (number_at x j) k).0
    before j false k = k

    on : (t : Bool) → t ≡ true → IfSome (if t then Some (lesser (upper_under p at j) (whole s.at)) else upper_under p at j) (λ b. number_at x j ≤ℚ b) → number_at x j ≤ℚ whole s.at
    on true e k = (from_lesser (upper_under p at j) (whole s.at) (number_at x j) k).1
    on false e k = let never : false ≡ true = e in cc

abbrev OnOwnSides : List Rational → List Side → Type 0
OnOwnSides x [] = Unit {0}
OnOwnSides x (t ∷ sides) = OnOwnSide x t × OnOwnSides x sides

on_own_sides : (p : Problem) (x : List Rational) (sides : List Side) → InsideBounds p sides x → OnOwnSides x sides
on_own_sides p x [] h = tt
on_own_sides p x (Low s ∷ sides) h = let k = below_it p s sides x h in (k.1, on_own_sides p x sides k.0)
on_own_sides p x (High s ∷ sides) h = let k = above_next p s sides x h in (k.1, on_own_sides p x sides k.0)

on_columns : (x : List Rational) (sides : List Side) → AreOfColumns sides → OnOwnSides x sides → TakesAll x sides
on_columns x [] h k = tt
on_columns x (Low s ∷ sides) h k = (takes s LowTaken x h.0 (k.0 h.0), on_columns x sides h.1 k.1)
on_columns x (High s ∷ sides) h k = (takes s HighTaken x h.0 (k.0 h.0), on_columns x sides h.1 k.1)

-- inside the bounds under splits of columns, a point is on each side taken
pub takes_inside : (p : Problem) (x : List Rational) (sides : List Side) → AreOfColumns sides → InsideBounds p sides x → TakesAll x sides
takes_inside p x sides h k = on_columns x sides h (on_own_sides p x sides k)

each_of_both : (x : List Rational) (ts us : List Side) → OnOwnSides x (ts ++ us) → OnOwnSides x ts × OnOwnSides x us
each_of_both x [] us h = (tt, h)
each_of_both x (t ∷ ts) us h = let k = each_of_both x ts us h.1 in ((h.0, k.0), k.1)

on_its_side : (x : List Rational) (taken : List SplitTaken) → OnOwnSides x (sides_of taken) → (k : ℕ) (t : SplitTaken) → slice_get taken k ≡ Some t → IsOfColumn t.split → IsOnSide x (side_of t.split t.side)
on_its_side x [] h k t e = cc
on_its_side x (u ∷ taken) h zero t e =
    let P : SplitTaken → Type 0 = λ v. OnOwnSide x (side_of v.split v.side) in
    own_side x t.split t.side (subst P (same_Some u t e) (each_of_both x (sides_of taken) (side_of u.split u.side ∷ []) h).1.0)
on_its_side x (u ∷ taken) h (suc k) t e = on_its_side x taken (each_of_both x (sides_of taken) (side_of u.split u.side ∷ []) h).0 k t e

-- the parts of a point of the node's relaxation
pub in_columns : (p : Problem) (ds : List Derived) (sides : List Side) (x : List Rational) → IsNodePoint p ds sides x → AreInColumns p.columns x
in_columns p ds sides x h = record { size = h.relaxed.size; within = h.relaxed.columns }

pub node_point : (p : Problem) (ds : List Derived) (taken : List SplitTaken) (x : List Rational) → AreInColumns p.columns x → AreInRows p.rows x → AllDerived x ds → AreOnSides x taken → IsNodePoint p ds (sides_of taken) x
node_point p ds taken x columns rows cuts sides =
    let r : Relaxed p x = record { size = columns.size; columns = columns.within; rows = rows } in
    record { relaxed = r; columns = inside_taken p (sides_of taken) x r (takes_all x taken sides); derived = cuts }

-- the same, by parts that are lent
pub node_point_by : (p : Problem) (ds : List Derived) (taken : List SplitTaken) (x : List Rational) (columns : List Column) (rows : List Row) (cuts : List Derived) (y : List Rational) → columns ≡ p.columns → rows ≡ p.rows → cuts ≡ ds → y ≡ x
    → AreInColumns columns y → AreInRows rows y → AllDerived y cuts → AreOnSides y taken → IsNodePoint p ds (sides_of taken) x
node_point_by p ds taken x columns rows cuts y e f g h in_columns in_rows met on =
    let A : List Column → Type 0 = λ cs. AreInColumns cs y in
    let B : List Row → Type 0 = λ rs. AreInRows rs y in
    let C : List Derived → Type 0 = λ qs. AllDerived y qs in
    let P : List Rational → Type 0 = λ z. IsNodePoint p ds (sides_of taken) z in
    subst P h (node_point p ds taken y (subst A e in_columns) (subst B f in_rows) (subst C g met) on)

pub same_within : (l m u v : Option Rational) (a b : Rational) → l ≡ m → u ≡ v → a ≡ b → IsWithin l u a → IsWithin m v b
same_within l m u v a b e f g h = rw (sym e, sym f, sym g) h

pub meets_by : (a b v u : Rational) → a ≡ b → v ≡ u → a ≤ℚ v → b ≤ℚ u
meets_by a b v u e f h = rw (sym e, sym f) h

-- off a side, by parts that are lent
pub not_node_point : (p : Problem) (ds : List Derived) (taken splits : List SplitTaken) (x y : List Rational) → taken ≡ splits → y ≡ x → IsOffSide y taken → IsNodePoint p ds (sides_of splits) x → ⊥
not_node_point p ds taken splits x y e f off point =
    let P : List SplitTaken → Type 0 = λ ts. slice_get ts off.place ≡ Some off.split in
    let Q : List Rational → Type 0 = λ z. ¬ (IsOnSide z (side_of off.split.split off.split.side)) in
    subst Q f off.off (on_its_side x splits (on_own_sides p x (sides_of splits) point.columns) off.place off.split (subst P e off.there) off.form)

-- ---- along a list

-- what holds of the first n elements and of the next one
pub one_more : {A : Type 0} (P : ℕ → A → Type 0) (xs : List A) (n : ℕ) (x : A) → n < length xs → x ≡ get_or xs n x → P n x → ((k : ℕ) → k < n → IfSome (slice_get xs k) (P k)) → (k : ℕ) → k < n + 1 → IfSome (slice_get xs k) (P k)
one_more {A} P xs n x h e new old k less = go (k == n) refl
  where
    before : (a b : ℕ) → a < b + 1 → (a == b) ≡ false → a < b
    before a b h e = grind (arith, nat_tests)

    here : slice_get xs n ≡ Some x
    here = slice_get_read xs (length xs) n x refl h e

    go : (t : Bool) → (k == n) ≡ t → IfSome (slice_get xs k) (P k)
    go true f =
        let same : k ≡ n = eqb-true k n f in
        let Q : Option A → Type 0 = λ o. IfSome o (P n) in
        let R : ℕ → Type 0 = λ m. IfSome (slice_get xs m) (P m) in
        subst R (sym same) (subst Q (sym here) new)
    go false f = old k (before k n less f)

-- what holds of as many elements as the list has
pub all_hold : {A : Type 0} (P : ℕ → A → Type 0) (xs : List A) (n : ℕ) → length xs ≤ n → ((k : ℕ) → k < n → IfSome (slice_get xs k) (P k)) → (k : ℕ) → IfSome (slice_get xs k) (P k)
all_hold {A} P xs n h all k = go (nat_lt k (length xs)) refl
  where
    less : (a b : ℕ) → nat_lt a b ≡ true → a < b
    less a b e = grind (arith, nat_tests)

    past : (a b : ℕ) → nat_lt a b ≡ false → b ≤ a
    past a b e = grind (arith, nat_tests)

    go : (t : Bool) → nat_lt k (length xs) ≡ t → IfSome (slice_get xs k) (P k)
    go true e = let l = less k (length xs) e in all k (omega arith)
    go false e = let Q : Option A → Type 0 = λ o. IfSome o (P k) in subst Q (sym (slice_get_past xs k (past k (length xs) e))) tt

-- an element of which it does not hold
pub not_all : {A : Type 0} (P : ℕ → A → Type 0) (xs : List A) (n : ℕ) (x : A) → n < length xs → x ≡ get_or xs n x → (P n x → ⊥) → ((k : ℕ) → IfSome (slice_get xs k) (P k)) → ⊥
not_all {A} P xs n x h e fails all =
    let Q : Option A → Type 0 = λ o. IfSome o (P n) in
    fails (subst Q (slice_get_read xs (length xs) n x refl h e) (all n))

-- ---- the next whole number

pub next_is : (at : ℤ) (v one : Rational) (r : Result Rational NoFit) (b : Rational) → v ≡ whole at → one ≡ whole (pos 1) → r ≡ add_answer v one → r ≡ Ok b → b ≡ whole (at +ℤ pos 1)
next_is at v one r b e f g h =
    let P : Result Rational NoFit → Type 0 = λ a. IfOk a (λ c. c ≡ whole (at +ℤ pos 1)) in
    let same : next_answer at ≡ r = ap (λ a. add_answer a one_ℚ) (sym e) ∙ ap (λ a. add_answer v a) (sym f) ∙ sym g in
    subst P (same ∙ h) (next_ok at)

-- ---- elements that are read by their place

pub number_is : (xs : List Rational) (n : ℕ) (a : Rational) → n < length xs → a ≡ get_or xs n a → a ≡ number_at xs n
number_is [] n a h e = absurd (omega arith)
number_is (y ∷ ys) zero a h e = e
number_is (y ∷ ys) (suc n) a h e = number_is ys n a (omega arith) e

pub if_ok : {A E : Type 0} (r : Result A E) (P Q : A → Type 0) → ((x : A) → P x → Q x) → IfOk r P → IfOk r Q
if_ok (Ok x) P Q f h = f x h
if_ok (Err e) P Q f h = tt

-- ---- faults

pub err_from : {X : Type 0} (r : Result X NoFit) (e : NoFit) (P : NoFit → Type 0) → IsErrAnd r (λ d. d ≡ e) → P e → IfErr r P
err_from (Ok u) e P h p = tt
err_from (Err d) e P h p = subst P (sym h) p

pub cut_fault : (ds : List Derived) (x : List Rational) (n : ℕ) (d : Derived) (e : NoFit) → n < length ds → d ≡ get_or ds n d → sum_answer x zero_ℚ d.form ≡ Err e → IsCutFault ds x e
cut_fault ds x n d e h is fault = record { place = n; cut = d; there = slice_get_read ds (length ds) n d refl h is; fault = fault }
