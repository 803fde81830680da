-- Where all operations fit, each answer is the definition's.
use Rattle.std.proofs.Common.{◌≡◌, ◌∙◌, ℕ, zero, suc, ◌+◌, ◌<◌, ◌==◌, ◌&&◌, cond, if◌then◌else◌, Bool, true, false, List, [], ◌∷◌, ◌++◌, length, Option, Some, None, is_some, slice_get, Result, Ok, Err, IfOk, refl, sym, ap, subst, arith, add-one, append-nil}
use Rattle.std.specs.Prelude.{ℤ, pos, ◌+ℤ◌, option_and_then}
use mathlib.Core.Path.{ap₂}
use Rattle.std.proofs.lemmas.Bool.{and_left, and_right}
use Rattle.std.proofs.Math.Decide.{ℕ_discrete}
use Rattle.std.proofs.lemmas.Option.{same_Some}
use Rattle.rational.specs.Rational.{Rational, zero_ℚ, one_ℚ, whole, ◌+ℚ◌, ◌*ℚ◌}
use Rattle.rational.proofs.Laws as Q
use Rattle.milp.specs.Form.{Entry}
use Rattle.milp.specs.Problem.{Column, Row, Problem}
use Rattle.fraction.specs.declared.frac.NoFit.{NoFit}
use Rattle.fraction.specs.Fits.{fits, sum_fits}
use Rattle.fraction.specs.Answers.{add_answer, mul_answer}
use Rattle.instance.specs.Sums.{and_then, form_of}
use Rattle.verdicts.specs.WeightedSums.{Weighted, combined, combined_bound, coefficient_of}
use Rattle.rational.specs.Compare.{is_less, is_same}
use Rattle.verdicts.specs.Certificate.{Item, Weights, Side, Low, High, Derived}
use Rattle.verdicts.specs.Proves.{narrows, narrowed, taken, lower_under, upper_under, greater, side_form, side_bound, way_get, term, bound_used, row_term, column_term, derived_term, split_term, joined, gathered, terms, same_form}
use Rattle.rational.proofs.Laws.{whole-add}
use Rattle.verdicts.proofs.Laws.{coefficient-combined}
use Rattle.cert_check.specs.Setting.{Setting}
use Rattle.cert_check.specs.Sums.{and_also, with_product, next_answer, lower_answer, row_bound, derived_bound, taken_bound, split_bound, bound_of, then_there, are_there, all_there, with_bound, with_bounds, bound_sum, Product, products, derived_form, taken_form, form_at, item_products, weight_products, with_products, are_forms}
use Rattle.cert_check.specs.declared.kind.Kind.{Kind}
use Rattle.cert_check.specs.declared.kind.Kind.TheVariants.{OfRow, OfColumn, OfDerived, OfSplit}

-- ---- steps

pub ok_then : {A B : Type 0} → (r : Result A NoFit) (f : A → Result B NoFit) (Q : A → Type 0) (P : B → Type 0) → IfOk r Q → ((a : A) → Q a → IfOk (f a) P) → IfOk (and_then r f) P
ok_then (Ok a) f Q P h k = k a h
ok_then (Err e) f Q P h k = tt

pub also_ok : (r rest : Result Bool NoFit) (b c : Bool) → IfOk r (λ x. x ≡ b) → (b ≡ true → IfOk rest (λ x. x ≡ c)) → IfOk (and_also r rest) (λ x. x ≡ (b && c))
also_ok (Err e) rest b c h k = tt
also_ok (Ok false) rest true c h k = cc
also_ok (Ok false) rest false c h k = refl
also_ok (Ok true) rest true c h k = k refl
also_ok (Ok true) rest false c h k = cc

-- a test that comes out false
pub also_false : (r rest : Result Bool NoFit) → IfOk r (λ x. x ≡ false) → IfOk (and_also r rest) (λ x. x ≡ false)
also_false (Err e) rest h = tt
also_false (Ok false) rest h = refl
also_false (Ok true) rest h = cc

-- a test that comes out true, and then the rest
pub also_true : (r rest : Result Bool NoFit) (P : Bool → Type 0) → IfOk r (λ x. x ≡ true) → IfOk rest P → IfOk (and_also r rest) P
also_true (Err e) rest P h k = tt
also_true (Ok false) rest P h k = cc
also_true (Ok true) rest P h k = k

pub if_ok : {A : Type 0} → (r : Result A NoFit) (x y : A) → IfOk r (λ v. v ≡ x) → x ≡ y → IfOk r (λ v. v ≡ y)
if_ok (Ok v) x y h e = h ∙ e
if_ok (Err d) x y h e = tt

fits_ok : {A : Type 0} → (t : Bool) (v : A) (e : NoFit) → IfOk (cond t (Ok v) (Err e)) (λ w. w ≡ v)
fits_ok true v e = refl
fits_ok false v e = tt

pub add_ok : (a b : Rational) → IfOk (add_answer a b) (λ v. v ≡ a +ℚ b)
add_ok a b = fits_ok (sum_fits a b) (a +ℚ b) _

mul_ok : (a b : Rational) → IfOk (mul_answer a b) (λ v. v ≡ a *ℚ b)
mul_ok a b = fits_ok (fits (a *ℚ b)) (a *ℚ b) _

pub product_ok : (total a b : Rational) → IfOk (with_product total a b) (λ v. v ≡ total +ℚ a *ℚ b)
product_ok total a b = ok_then (mul_answer a b) (λ p. add_answer total p) (λ p. p ≡ a *ℚ b) (λ v. v ≡ total +ℚ a *ℚ b) (mul_ok a b) (λ p e. if_ok (add_answer total p) (total +ℚ p) (total +ℚ a *ℚ b) (add_ok total p) (ap (λ z. total +ℚ z) e))

-- ---- bounds

pub next_ok : (at : ℤ) → IfOk (next_answer at) (λ b. b ≡ whole (at +ℤ pos 1))
next_ok at = if_ok (next_answer at) (whole at +ℚ one_ℚ) (whole (at +ℤ pos 1)) (add_ok (whole at) one_ℚ) (whole-add at (pos 1))

pub lower_ok : (p : Problem) (sides : List Side) (j : ℕ) → IfOk (lower_answer p sides j) (λ o. o ≡ lower_under p sides j)
lower_ok p [] j = refl
lower_ok p (Low s ∷ sides) j = lower_ok p sides j
lower_ok p (High s ∷ sides) j = go (narrows s j) (lower_ok p sides j)
  where
    go : (t : Bool) → IfOk (lower_answer p sides j) (λ o. o ≡ lower_under p sides j) → IfOk (if t then and_then (next_answer s.at) (λ b. and_then (lower_answer p sides j) (λ o. Ok (Some (greater o b)))) else lower_answer p sides j) (λ o. o ≡ (if t then Some (greater (lower_under p sides j) (whole (s.at +ℤ pos 1))) else lower_under p sides j))
    go false h = h
    go true h =
        let wanted : Option Rational = Some (greater (lower_under p sides j) (whole (s.at +ℤ pos 1))) in
        ok_then (next_answer s.at) (λ b. and_then (lower_answer p sides j) (λ o. Ok (Some (greater o b)))) (λ b. b ≡ whole (s.at +ℤ pos 1)) (λ o. o ≡ wanted) (next_ok s.at)
        (λ b e. ok_then (lower_answer p sides j) (λ o. Ok (Some (greater o b))) (λ o. o ≡ lower_under p sides j) (λ o. o ≡ wanted) h (λ o k. ap₂ (λ o b. Some (greater o b)) k e))

taken_ok : (side : Side) → IfOk (taken_bound side) (λ o. o ≡ Some (side_bound side))
taken_ok (Low s) = refl
taken_ok (High s) = ok_then (next_answer s.at) (λ b. Ok (Some b)) (λ b. b ≡ whole (s.at +ℤ pos 1)) (λ o. o ≡ Some (whole (s.at +ℤ pos 1))) (next_ok s.at) (λ b e. ap Some e)

-- the bound of a split that a weight uses
abbrev exact_split : Rational → Option Side → Option Rational
exact_split w None = None
exact_split w (Some s) = if is_less zero_ℚ w then Some (side_bound s) else None

split_ok : (w : Rational) (o : Option Side) → IfOk (split_bound w o) (λ b. b ≡ exact_split w o)
split_ok w None = refl
split_ok w (Some s) = go (is_less zero_ℚ w)
  where
    go : (t : Bool) → IfOk (if t then taken_bound s else Ok None) (λ b. b ≡ (if t then Some (side_bound s) else None))
    go true = taken_ok s
    go false = refl

-- the bound that an item uses
exact_bound : Setting → Kind → Item → Option Rational
exact_bound s OfRow i = row_bound i.weight (slice_get s.problem.rows i.index)
exact_bound s OfColumn i = bound_used i.weight (lower_under s.problem (narrowed s.version s.sides) i.index) (upper_under s.problem (narrowed s.version s.sides) i.index)
exact_bound s OfDerived i = derived_bound i.weight (slice_get s.derived i.index)
exact_bound s OfSplit i = exact_split i.weight (way_get (taken s.version s.sides) i.index)

bound_ok : (s : Setting) (kind : Kind) (i : Item) → IfOk (bound_of s kind i) (λ o. o ≡ exact_bound s kind i)
unfolding exact_bound
bound_ok s OfRow i = refl
bound_ok s OfDerived i = refl
bound_ok s OfSplit i = split_ok i.weight (way_get (taken s.version s.sides) i.index)
bound_ok s OfColumn i = go (is_less zero_ℚ i.weight) (narrowed s.version s.sides)
  where
    go : (t : Bool) (sides : List Side) → IfOk (if t then lower_answer s.problem sides i.index else Ok (upper_under s.problem sides i.index)) (λ o. o ≡ (if t then lower_under s.problem sides i.index else upper_under s.problem sides i.index))
    go true sides = lower_ok s.problem sides i.index
    go false sides = refl

-- the term that an item names
term_of : Setting → Kind → Item → Option Weighted
term_of s OfRow i = row_term s.problem i
term_of s OfColumn i = column_term s.problem (narrowed s.version s.sides) i
term_of s OfDerived i = derived_term s.derived i
term_of s OfSplit i = split_term (taken s.version s.sides) i

term_is : (s : Setting) (kind : Kind) (i : Item) → term_of s kind i ≡ term i.weight (form_at s kind i.index) (exact_bound s kind i)
unfolding exact_bound term_of
term_is s OfRow i = go (slice_get s.problem.rows i.index)
  where
    go : (o : Option Row) → option_and_then (λ (r : Row). term i.weight r.entries (bound_used i.weight r.lower r.upper)) o ≡ term i.weight (form_of o) (row_bound i.weight o)
    go None = refl
    go (Some r) = refl
term_is s OfColumn i = refl
term_is s OfDerived i = go (is_less zero_ℚ i.weight) (slice_get s.derived i.index)
  where
    bound : Bool → Option Derived → Option Rational
    bound t None = None
    bound t (Some d) = if t then Some d.bound else None

    go : (t : Bool) (o : Option Derived) → (if t then option_and_then (λ (d : Derived). term i.weight d.form (Some d.bound)) o else None) ≡ term i.weight (derived_form o) (bound t o)
    go true None = refl
    go false None = refl
    go true (Some d) = refl
    go false (Some d) = refl
term_is s OfSplit i = go (is_less zero_ℚ i.weight) (way_get (taken s.version s.sides) i.index)
  where
    bound : Bool → Option Side → Option Rational
    bound t None = None
    bound t (Some side) = if t then Some (side_bound side) else None

    go : (t : Bool) (o : Option Side) → (if t then option_and_then (λ (side : Side). term i.weight (side_form side) (Some (side_bound side))) o else None) ≡ term i.weight (taken_form o) (bound t o)
    go true None = refl
    go false None = refl
    go true (Some side) = refl
    go false (Some side) = refl

-- ---- which terms there are

term_some : (w : Rational) (form : List Entry) (o : Option Rational) → is_some (term w form o) ≡ is_some o
term_some w form None = refl
term_some w form (Some b) = refl

there_ok : (s : Setting) (kind : Kind) (items : List Item) → IfOk (are_there (bound_of s kind) items) (λ b. b ≡ is_some (gathered (term_of s kind) items (Some [])))
there_ok s kind [] = refl
there_ok s kind (i ∷ is) =
    ok_then (bound_of s kind i) (λ o. then_there o (are_there (bound_of s kind) is)) (λ o. o ≡ exact_bound s kind i) (λ b. b ≡ is_some (joined (term_of s kind i) (gathered (term_of s kind) is (Some [])))) (bound_ok s kind i)
    (λ o e. go o (gathered (term_of s kind) is (Some [])) (there_ok s kind is) (term_of s kind i) (ap is_some (term_is s kind i) ∙ term_some i.weight (form_at s kind i.index) (exact_bound s kind i) ∙ ap is_some (sym e)))
  where
    go : (o : Option Rational) (r : Option (List Weighted)) → IfOk (are_there (bound_of s kind) is) (λ b. b ≡ is_some r) → (t : Option Weighted) → is_some t ≡ is_some o → IfOk (then_there o (are_there (bound_of s kind) is)) (λ b. b ≡ is_some (joined t r))
    go None r h None k = refl
    go None r h (Some t) k = cc
    go (Some b) r h None k = cc
    go (Some b) None h (Some t) k = h
    go (Some b) (Some ts) h (Some t) k = h

gathered_some : (f : Item → Option Weighted) (items : List Item) (rest : Option (List Weighted)) → is_some (gathered f items rest) ≡ (is_some (gathered f items (Some [])) && is_some rest)
gathered_some f [] rest = refl
gathered_some f (i ∷ is) rest = go (f i) (gathered f is rest) (gathered f is (Some [])) (gathered_some f is rest)
  where
    go : (t : Option Weighted) (r e : Option (List Weighted)) → is_some r ≡ (is_some e && is_some rest) → is_some (joined t r) ≡ (is_some (joined t e) && is_some rest)
    go None r e h = refl
    go (Some t) None None h = refl
    go (Some t) None (Some us) h = h
    go (Some t) (Some rs) None h = h
    go (Some t) (Some rs) (Some us) h = h

pub all_there_ok : (s : Setting) (w : Weights) → IfOk (all_there s w) (λ b. b ≡ is_some (terms s.problem s.derived (narrowed s.version s.sides) (taken s.version s.sides) w))
unfolding term_of
all_there_ok s w =
    let sides = narrowed s.version s.sides in
    let rows = gathered (row_term s.problem) w.rows (Some []) in
    let columns = gathered (column_term s.problem sides) w.columns (Some []) in
    let derived = gathered (derived_term s.derived) w.derived (Some []) in
    let splits = gathered (split_term (taken s.version s.sides)) w.splits (Some []) in
    let last = gathered (derived_term s.derived) w.derived splits in
    let more = gathered (column_term s.problem sides) w.columns last in
    let two : IfOk (and_also (are_there (bound_of s OfDerived) w.derived) (are_there (bound_of s OfSplit) w.splits)) (λ b. b ≡ (is_some derived && is_some splits)) = also_ok _ _ (is_some derived) (is_some splits) (there_ok s OfDerived w.derived) (λ h. there_ok s OfSplit w.splits) in
    let three : IfOk (and_also (are_there (bound_of s OfColumn) w.columns) (and_also (are_there (bound_of s OfDerived) w.derived) (are_there (bound_of s OfSplit) w.splits))) (λ b. b ≡ (is_some columns && (is_some derived && is_some splits))) = also_ok _ _ (is_some columns) (is_some derived && is_some splits) (there_ok s OfColumn w.columns) (λ h. two) in
    let four : IfOk (all_there s w) (λ b. b ≡ (is_some rows && (is_some columns && (is_some derived && is_some splits)))) = also_ok _ _ (is_some rows) (is_some columns && (is_some derived && is_some splits)) (there_ok s OfRow w.rows) (λ h. three) in
    let all : is_some (terms s.problem s.derived sides (taken s.version s.sides) w) ≡ (is_some rows && (is_some columns && (is_some derived && is_some splits))) =
    gathered_some (row_term s.problem) w.rows more ∙ ap (λ b. is_some rows && b) (gathered_some (column_term s.problem sides) w.columns last ∙ ap (λ b. is_some columns && b) (gathered_some (derived_term s.derived) w.derived splits)) in
    if_ok (all_there s w) _ _ four (sym all)

-- ---- the terms of items, one by one

AreTerms : Setting → Kind → List Item → List Weighted → Type 0
AreTerms s kind [] [] = Unit {0}
AreTerms s kind [] (t ∷ ts) = ⊥
AreTerms s kind (i ∷ is) [] = ⊥
AreTerms s kind (i ∷ is) (t ∷ ts) = (term_of s kind i ≡ Some t) × AreTerms s kind is ts

-- how the terms of some items begin a list
record Begins (s : Setting) (kind : Kind) (items : List Item) (rest : Option (List Weighted)) (all : List Weighted) : Type 0 where
  ts : List Weighted
  us : List Weighted
  terms : AreTerms s kind items ts
  more : rest ≡ Some us
  whole : all ≡ ts ++ us

begun : (s : Setting) (kind : Kind) (items : List Item) (rest : Option (List Weighted)) (all : List Weighted) → gathered (term_of s kind) items rest ≡ Some all → Begins s kind items rest all
unfolding AreTerms
begun s kind [] rest all e = record { ts = []; us = all; terms = tt; more = e; whole = refl }
begun s kind (i ∷ is) rest all e = go (term_of s kind i) refl (gathered (term_of s kind) is rest) (λ rs k. begun s kind is rest rs k) e
  where
    go : (o : Option Weighted) → term_of s kind i ≡ o → (r : Option (List Weighted)) → ((rs : List Weighted) → r ≡ Some rs → Begins s kind is rest rs) → joined o r ≡ Some all → Begins s kind (i ∷ is) rest all
    go None h r k e = cc
    go (Some t) h None k e = cc
    go (Some t) h (Some rs) k e =
        let tail = k rs refl in
        record { ts = t ∷ tail.ts; us = tail.us; terms = (h, tail.terms); more = tail.more; whole = sym (same_Some (t ∷ rs) all e) ∙ ap (λ xs. t ∷ xs) tail.whole }

-- ---- R

-- what an item's term is made of
record IsTerm (s : Setting) (kind : Kind) (i : Item) (t : Weighted) : Type 0 where
  weight : t.weight ≡ i.weight
  form : t.form ≡ form_at s kind i.index
  bound : exact_bound s kind i ≡ Some t.bound

term_parts : (s : Setting) (kind : Kind) (i : Item) (t : Weighted) → term_of s kind i ≡ Some t → IsTerm s kind i t
term_parts s kind i t e = go (exact_bound s kind i) refl (sym (term_is s kind i) ∙ e)
  where
    go : (o : Option Rational) → exact_bound s kind i ≡ o → term i.weight (form_at s kind i.index) o ≡ Some t → IsTerm s kind i t
    go None h k = cc
    go (Some b) h k =
        let same = same_Some (record { weight = i.weight; form = form_at s kind i.index; bound = b }) t k in
        record { weight = sym (ap (λ (t : Weighted). t.weight) same); form = sym (ap (λ (t : Weighted). t.form) same); bound = h ∙ ap (λ (t : Weighted). Some t.bound) same }

bounds_ok : (s : Setting) (kind : Kind) (items : List Item) (ts : List Weighted) (total : Rational) → AreTerms s kind items ts → IfOk (with_bounds (bound_of s kind) total items) (λ v. v ≡ total +ℚ combined_bound ts)
unfolding AreTerms
bounds_ok s kind [] [] total h = sym (Q.add-zero total)
bounds_ok s kind [] (t ∷ ts) total h = absurd h
bounds_ok s kind (i ∷ is) [] total h = absurd h
bounds_ok s kind (i ∷ is) (t ∷ ts) total h =
    let parts = term_parts s kind i t h.0 in
    ok_then (bound_of s kind i) (λ o. and_then (with_bound total i.weight o) (λ t. with_bounds (bound_of s kind) t is)) (λ o. o ≡ exact_bound s kind i) (λ v. v ≡ total +ℚ combined_bound (t ∷ ts)) (bound_ok s kind i)
    (λ o e. at_bound o (e ∙ parts.bound) parts.weight (λ total. bounds_ok s kind is ts total h.1))
  where
    at_bound : (o : Option Rational) → o ≡ Some t.bound → t.weight ≡ i.weight → ((total : Rational) → IfOk (with_bounds (bound_of s kind) total is) (λ v. v ≡ total +ℚ combined_bound ts)) → IfOk (and_then (with_bound total i.weight o) (λ t. with_bounds (bound_of s kind) t is)) (λ v. v ≡ total +ℚ combined_bound (t ∷ ts))
    at_bound None e w k = cc
    at_bound (Some b) e w k =
        let same : b ≡ t.bound = same_Some b t.bound e in
        ok_then (with_product total i.weight b) (λ t. with_bounds (bound_of s kind) t is) (λ v. v ≡ total +ℚ i.weight *ℚ b) (λ v. v ≡ total +ℚ combined_bound (t ∷ ts)) (product_ok total i.weight b)
        (λ v e. if_ok (with_bounds (bound_of s kind) v is) (v +ℚ combined_bound ts) (total +ℚ combined_bound (t ∷ ts)) (k v)
        (ap (λ v. v +ℚ combined_bound ts) (e ∙ ap₂ (λ w b. total +ℚ w *ℚ b) (sym w) same) ∙ Q.add_assoc total (t.weight *ℚ t.bound) (combined_bound ts)))

bound-append : (xs ys : List Weighted) → combined_bound (xs ++ ys) ≡ combined_bound xs +ℚ combined_bound ys
bound-append [] ys = sym (Q.zero-add (combined_bound ys))
bound-append (x ∷ xs) ys = ap (λ z. x.weight *ℚ x.bound +ℚ z) (bound-append xs ys) ∙ sym (Q.add_assoc (x.weight *ℚ x.bound) (combined_bound xs) (combined_bound ys))

-- the terms of weights, kind by kind
record Parted (s : Setting) (w : Weights) (all : List Weighted) : Type 0 where
  rows : List Weighted
  columns : List Weighted
  derived : List Weighted
  splits : List Weighted
  are_rows : AreTerms s OfRow w.rows rows
  are_columns : AreTerms s OfColumn w.columns columns
  are_derived : AreTerms s OfDerived w.derived derived
  are_splits : AreTerms s OfSplit w.splits splits
  whole : all ≡ rows ++ (columns ++ (derived ++ splits))

in_turn : (all us vs ws xs a b c d : List Weighted) → all ≡ a ++ us → us ≡ b ++ vs → vs ≡ c ++ ws → ws ≡ d ++ xs → xs ≡ [] → all ≡ a ++ (b ++ (c ++ d))
in_turn all us vs ws xs a b c d first second third fourth none = first ∙ ap (λ z. a ++ z) (second ∙ ap (λ z. b ++ z) (third ∙ ap (λ z. c ++ z) (fourth ∙ ap (λ z. d ++ z) none ∙ append-nil d)))

parted : (s : Setting) (w : Weights) (all : List Weighted) → terms s.problem s.derived (narrowed s.version s.sides) (taken s.version s.sides) w ≡ Some all → Parted s w all
unfolding term_of
parted s w all e =
    let splits : Option (List Weighted) = gathered (split_term (taken s.version s.sides)) w.splits (Some []) in
    let derived = gathered (derived_term s.derived) w.derived splits in
    let more = gathered (column_term s.problem (narrowed s.version s.sides)) w.columns derived in
    let first = begun s OfRow w.rows more all e in
    let second = begun s OfColumn w.columns derived first.us first.more in
    let third = begun s OfDerived w.derived splits second.us second.more in
    let fourth = begun s OfSplit w.splits (Some []) third.us third.more in
    record {
      rows = first.ts;
      columns = second.ts;
      derived = third.ts;
      splits = fourth.ts;
      are_rows = first.terms;
      are_columns = second.terms;
      are_derived = third.terms;
      are_splits = fourth.terms;
      whole = in_turn all first.us second.us third.us fourth.us first.ts second.ts third.ts fourth.ts first.whole second.whole third.whole fourth.whole (sym (same_Some [] fourth.us fourth.more));
    }

pub bound_sum_ok : (s : Setting) (w : Weights) (all : List Weighted) (total : Rational) → terms s.problem s.derived (narrowed s.version s.sides) (taken s.version s.sides) w ≡ Some all → IfOk (bound_sum s total w) (λ v. v ≡ total +ℚ combined_bound all)
bound_sum_ok s w all total e =
    let p = parted s w all e in
    let a = combined_bound p.rows in
    let b = combined_bound p.columns in
    let d = combined_bound p.derived in
    let k = combined_bound p.splits in
    let wanted : combined_bound all ≡ a +ℚ (b +ℚ (d +ℚ k)) = ap combined_bound p.whole ∙ bound-append p.rows (p.columns ++ (p.derived ++ p.splits)) ∙ ap (λ z. a +ℚ z) (bound-append p.columns (p.derived ++ p.splits) ∙ ap (λ z. b +ℚ z) (bound-append p.derived p.splits)) in
    let goal : Rational → Type 0 = λ v. v ≡ total +ℚ combined_bound all in
    ok_then (with_bounds (bound_of s OfRow) total w.rows) (λ r. and_then (with_bounds (bound_of s OfColumn) r w.columns) (λ c. and_then (with_bounds (bound_of s OfDerived) c w.derived) (λ d. with_bounds (bound_of s OfSplit) d w.splits))) (λ v. v ≡ total +ℚ a) goal (bounds_ok s OfRow w.rows p.rows total p.are_rows)
    (λ r er. ok_then (with_bounds (bound_of s OfColumn) r w.columns) (λ c. and_then (with_bounds (bound_of s OfDerived) c w.derived) (λ d. with_bounds (bound_of s OfSplit) d w.splits)) (λ v. v ≡ r +ℚ b) goal (bounds_ok s OfColumn w.columns p.columns r p.are_columns)
    (λ c ec. ok_then (with_bounds (bound_of s OfDerived) c w.derived) (λ d. with_bounds (bound_of s OfSplit) d w.splits) (λ v. v ≡ c +ℚ d) goal (bounds_ok s OfDerived w.derived p.derived c p.are_derived)
    (λ v ev. if_ok (with_bounds (bound_of s OfSplit) v w.splits) (v +ℚ k) (total +ℚ combined_bound all) (bounds_ok s OfSplit w.splits p.splits v p.are_splits)
    (ap (λ z. z +ℚ k) (ev ∙ ap (λ z. z +ℚ d) (ec ∙ ap (λ z. z +ℚ b) er)) ∙ four total a b d k ∙ ap (λ z. total +ℚ z) (sym wanted)))))
  where
    four : (t a b c d : Rational) → (((t +ℚ a) +ℚ b) +ℚ c) +ℚ d ≡ t +ℚ (a +ℚ (b +ℚ (c +ℚ d)))
    four t a b c d = simp Q.field

-- ---- F

pub product_sum : List Product → Rational
product_sum [] = zero_ℚ
product_sum (p ∷ ps) = p.weight *ℚ p.factor +ℚ product_sum ps

pub sum-none : product_sum [] ≡ zero_ℚ
unfolding product_sum
sum-none = refl

products_ok : (total : Rational) (ps : List Product) → IfOk (with_products total ps) (λ v. v ≡ total +ℚ product_sum ps)
unfolding product_sum
products_ok total [] = sym (Q.add-zero total)
products_ok total (p ∷ ps) =
    ok_then (with_product total p.weight p.factor) (λ t. with_products t ps) (λ t. t ≡ total +ℚ p.weight *ℚ p.factor) (λ v. v ≡ total +ℚ product_sum (p ∷ ps)) (product_ok total p.weight p.factor)
    (λ t e. if_ok (with_products t ps) (t +ℚ product_sum ps) (total +ℚ product_sum (p ∷ ps)) (products_ok t ps) (ap (λ t. t +ℚ product_sum ps) e ∙ Q.add_assoc total (p.weight *ℚ p.factor) (product_sum ps)))

pub sum-append : (ps qs : List Product) → product_sum (ps ++ qs) ≡ product_sum ps +ℚ product_sum qs
unfolding product_sum
sum-append [] qs = sym (Q.zero-add (product_sum qs))
sum-append (p ∷ ps) qs = ap (λ z. p.weight *ℚ p.factor +ℚ z) (sum-append ps qs) ∙ sym (Q.add_assoc (p.weight *ℚ p.factor) (product_sum ps) (product_sum qs))

pub sum-products : (w : Rational) (form : List Entry) (j : ℕ) → product_sum (products w form j) ≡ w *ℚ coefficient_of form j
unfolding product_sum
sum-products w [] j = sym (Q.mul-zero w)
sum-products w (e ∷ es) j = go (e.column == j) (sum-products w es j)
  where
    go : (t : Bool) → product_sum (products w es j) ≡ w *ℚ coefficient_of es j → product_sum (if t then record { weight = w; factor = e.coefficient } ∷ products w es j else products w es j) ≡ w *ℚ (cond t e.coefficient zero_ℚ +ℚ coefficient_of es j)
    go true h = ap (λ z. w *ℚ e.coefficient +ℚ z) h ∙ sym (Q.mul_add w e.coefficient (coefficient_of es j))
    go false h = h ∙ ap (λ z. w *ℚ z) (sym (Q.zero-add (coefficient_of es j)))

items_sum : (s : Setting) (kind : Kind) (items : List Item) (ts : List Weighted) (j : ℕ) → AreTerms s kind items ts → product_sum (item_products (form_at s kind) items j) ≡ coefficient_of (combined ts) j
unfolding AreTerms product_sum
items_sum s kind [] [] j h = refl
items_sum s kind [] (t ∷ ts) j h = absurd h
items_sum s kind (i ∷ is) [] j h = absurd h
items_sum s kind (i ∷ is) (t ∷ ts) j h =
    let parts = term_parts s kind i t h.0 in
    sum-append (products i.weight (form_at s kind i.index) j) (item_products (form_at s kind) is j)
    ∙ ap₂ (λ a b. a +ℚ b) (sum-products i.weight (form_at s kind i.index) j ∙ ap₂ (λ w form. w *ℚ coefficient_of form j) (sym parts.weight) (sym parts.form)) (items_sum s kind is ts j h.1)
    ∙ sym (coefficient-combined t ts j)

coefficient-both : (xs ys : List Weighted) (j : ℕ) → coefficient_of (combined (xs ++ ys)) j ≡ coefficient_of (combined xs) j +ℚ coefficient_of (combined ys) j
coefficient-both [] ys j = sym (Q.zero-add (coefficient_of (combined ys) j))
coefficient-both (x ∷ xs) ys j = coefficient-combined x (xs ++ ys) j ∙ ap (λ z. x.weight *ℚ coefficient_of x.form j +ℚ z) (coefficient-both xs ys j) ∙ sym (Q.add_assoc _ _ _) ∙ ap (λ z. z +ℚ coefficient_of (combined ys) j) (sym (coefficient-combined x xs j))

pub weights_sum : (s : Setting) (w : Weights) (all : List Weighted) (j : ℕ) → terms s.problem s.derived (narrowed s.version s.sides) (taken s.version s.sides) w ≡ Some all → product_sum (weight_products s w j) ≡ coefficient_of (combined all) j
weights_sum s w all j e =
    let p = parted s w all e in
    let columns = item_products (form_at s OfColumn) w.columns j in
    let derived = item_products (form_at s OfDerived) w.derived j in
    let splits = item_products (form_at s OfSplit) w.splits j in
    let last : product_sum (derived ++ splits) ≡ coefficient_of (combined (p.derived ++ p.splits)) j = sum-append derived splits ∙ ap₂ (λ a b. a +ℚ b) (items_sum s OfDerived w.derived p.derived j p.are_derived) (items_sum s OfSplit w.splits p.splits j p.are_splits) ∙ sym (coefficient-both p.derived p.splits j) in
    let more : product_sum (columns ++ (derived ++ splits)) ≡ coefficient_of (combined (p.columns ++ (p.derived ++ p.splits))) j = sum-append columns (derived ++ splits) ∙ ap₂ (λ a b. a +ℚ b) (items_sum s OfColumn w.columns p.columns j p.are_columns) last ∙ sym (coefficient-both p.columns (p.derived ++ p.splits) j) in
    sum-append (item_products (form_at s OfRow) w.rows j) (columns ++ (derived ++ splits))
    ∙ ap₂ (λ a b. a +ℚ b) (items_sum s OfRow w.rows p.rows j p.are_rows) more
    ∙ sym (coefficient-both p.rows (p.columns ++ (p.derived ++ p.splits)) j)
    ∙ ap (λ ts. coefficient_of (combined ts) j) (sym p.whole)

-- ---- the form column by column

differ : (n : ℕ) (f g : List Entry) (j : ℕ) → j < n → is_same (coefficient_of f j) (coefficient_of g j) ≡ false → same_form n f g ≡ false
differ zero f g j h e = absurd (omega arith)
differ (suc n) f g j h e = elim (ℕ_discrete j n) [
  | yes q ↦ let P : ℕ → Type 0 = λ i. is_same (coefficient_of f i) (coefficient_of g i) ≡ false in and_left (is_same (coefficient_of f n) (coefficient_of g n)) (same_form n f g) (subst P q e)
  | no d ↦ and_right (is_same (coefficient_of f n) (coefficient_of g n)) (same_form n f g) (differ n f g j (omega arith) e)
]

forms_from : (f : ℕ → List Product) (wanted : ℕ → Rational) (cs : List Column) (j : ℕ) (first second : List Entry) → ((j : ℕ) → product_sum (f j) ≡ coefficient_of first j) → ((j : ℕ) → wanted j ≡ coefficient_of second j) → same_form j first second ≡ true → IfOk (are_forms f wanted j cs) (λ b. b ≡ same_form (j + length cs) first second)
forms_from f wanted [] j first second h k before = sym (ap (λ n. same_form n first second) (omega arith) ∙ before)
forms_from f wanted (c ∷ cs) j first second h k before =
    ok_then (with_products zero_ℚ (f j)) (λ v. cond (is_same v (wanted j)) (are_forms f wanted (j + 1) cs) (Ok false)) (λ v. v ≡ zero_ℚ +ℚ product_sum (f j)) (λ b. b ≡ same_form (j + suc (length cs)) first second) (products_ok zero_ℚ (f j))
    (λ v e. go (is_same v (wanted j)) (ap₂ is_same (sym (e ∙ Q.zero-add (product_sum (f j)) ∙ h j)) (sym (k j))) (λ next. forms_from f wanted cs (j + 1) first second h k next))
  where
    go : (t : Bool) → is_same (coefficient_of first j) (coefficient_of second j) ≡ t → (same_form (j + 1) first second ≡ true → IfOk (are_forms f wanted (j + 1) cs) (λ b. b ≡ same_form (j + 1 + length cs) first second)) → IfOk (cond t (are_forms f wanted (j + 1) cs) (Ok false)) (λ b. b ≡ same_form (j + suc (length cs)) first second)
    go false e rest = sym (differ (j + suc (length cs)) first second j (omega arith) e)
    go true e rest =
        let next : same_form (j + 1) first second ≡ true = rw (add-one j) (ap₂ (λ a b. a && b) e before) in
        if_ok (are_forms f wanted (j + 1) cs) _ _ (rest next) (ap (λ n. same_form n first second) (omega arith))

pub forms_ok : (f : ℕ → List Product) (wanted : ℕ → Rational) (cs : List Column) (first second : List Entry) → ((j : ℕ) → product_sum (f j) ≡ coefficient_of first j) → ((j : ℕ) → wanted j ≡ coefficient_of second j) → IfOk (are_forms f wanted 0 cs) (λ b. b ≡ same_form (length cs) first second)
forms_ok f wanted cs first second h k = if_ok (are_forms f wanted 0 cs) _ _ (forms_from f wanted cs 0 first second h k refl) (ap (λ n. same_form n first second) (omega arith))
