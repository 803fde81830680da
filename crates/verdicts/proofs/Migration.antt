-- Weights that name splits have the sums of those that use the bounds that the splits narrow, and a certificate of version 1
-- that proves its verdict does so as one of version 2.
use Rattle.std.proofs.Common.{◌≡◌, ◌∙◌, ℕ, zero, suc, ◌+◌, ◌<◌, ◌==◌, List, [], ◌∷◌, ◌++◌, Bool, true, false, ◌&&◌, refl, sym, ap, Option, Some, None, option_and_then, length, if◌then◌else◌, arith}
use Rattle.std.specs.Prelude.{pos, negsuc, ◌+ℤ◌, nat_lt}
use Rattle.std.proofs.lemmas.Bool.{and_parts, and_from, eqb-true}
use Rattle.std.proofs.lemmas.Bool.Decides.{nat_tests}
use mathlib.Core.Path.{ap₂}
use Rattle.rational.specs.Rational.{Rational, ◌≤ℚ◌, ◌+ℚ◌, ◌*ℚ◌, neg_ℚ, zero_ℚ, one_ℚ, whole}
use Rattle.rational.specs.Compare.{is_less, is_at_most, is_same, is_zero}
use Rattle.rational.proofs.Laws as Q
use Rattle.rational.proofs.Laws.{field, field_units, signs, less_true, less_false, at_most_true, same_true, true_at_most, true_less, zero_true, true_same}
use Rattle.milp.specs.Form.{Entry}
use Rattle.milp.specs.Problem.{Problem}
use Rattle.verdicts.specs.WeightedSums.{Weighted, combined, combined_bound, coefficient_of}
use Rattle.verdicts.specs.Certificate.{One, Two, Verdict, Optimal, Infeasible, Unbounded, Item, Weights, Split, Side, Low, High, Proof, Plain, BySplit, Derived, TreeNode, Branch, Empty, Bound, Certificate}
use Rattle.verdicts.specs.Proves.{greater, lesser, lower_under, upper_under, narrows, is_column, unit_column, may_split, is_whole_form, side_form, side_bound, way_get, term, bound_used, row_term, column_term, derived_term, split_term, joined, gathered, terms, same_form, shows, refutes, low_term, high_term, in_range, proof_passes, derived_passes, bound_passes, node_passes, below, Part, Test, first_failing, derived_tests, node_tests, tree_tests, point_passes, value_passes, verdict_tests, Proves}
use Rattle.verdicts.specs.Migrated.{SameSum, SameTerm, Keeps, TermKeeps, raises, lowers, lower_source, upper_source, source, kept_if, kept, on_split, placed, placed_if, with_splits, named, migrated_node, migrated_nodes, migrated}
use Rattle.verdicts.proofs.Numbers.{le_by, neg_le, neg-zero, minus_one-mul}
use Rattle.verdicts.proofs.Forms.{coefficient-combined, coefficient-scaled}
use Rattle.verdicts.proofs.Nodes.{passing}

-- ---- lists of terms with the same sums

pub term_self : (o : Option Weighted) → TermKeeps o o
term_self None = tt
term_self (Some t) = record { form = λ j. refl; bound = refl }

pub keeps_self : (o : Option (List Weighted)) → Keeps o o
keeps_self None = tt
keeps_self (Some ts) = record { form = λ j. refl; bound = refl }

pub keeps_then : (a b c : Option (List Weighted)) → Keeps a b → Keeps b c → Keeps a c
keeps_then None b c h k = tt
keeps_then (Some ts) None c h k = absurd h
keeps_then (Some ts) (Some us) None h k = k
keeps_then (Some ts) (Some us) (Some vs) h k = record { form = λ j. h.form j ∙ k.form j; bound = h.bound ∙ k.bound }

same_more : (t u : Weighted) (ts us : List Weighted) → SameTerm t u → SameSum ts us → SameSum (t ∷ ts) (u ∷ us)
same_more t u ts us h k = record {
  form = λ j. coefficient-combined t ts j ∙ ap₂ ◌+ℚ◌ (h.form j) (k.form j) ∙ sym (coefficient-combined u us j);
  bound = ap₂ ◌+ℚ◌ h.bound k.bound;
}

pub joined_keeps : (t u : Option Weighted) (o r : Option (List Weighted)) → TermKeeps t u → Keeps o r → Keeps (joined t o) (joined u r)
joined_keeps None u o r h k = tt
joined_keeps (Some t) u None r h k = tt
joined_keeps (Some t) None (Some ts) r h k = absurd h
joined_keeps (Some t) (Some u) (Some ts) None h k = k
joined_keeps (Some t) (Some u) (Some ts) (Some us) h k = same_more t u ts us h k

pub gathered_keeps : (f g : Item → Option Weighted) (is : List Item) (o r : Option (List Weighted)) → ((i : Item) → TermKeeps (f i) (g i)) → Keeps o r → Keeps (gathered f is o) (gathered g is r)
gathered_keeps f g [] o r h k = k
gathered_keeps f g (i ∷ is) o r h k = joined_keeps (f i) (g i) (gathered f is o) (gathered g is r) (h i) (gathered_keeps f g is o r h k)

three : (a b c : Rational) → a +ℚ (b +ℚ c) ≡ b +ℚ (a +ℚ c)
three a b c = simp field

swapped : (t u : Option Weighted) (o : Option (List Weighted)) → Keeps (joined t (joined u o)) (joined u (joined t o))
swapped None u o = tt
swapped (Some t) None o = tt
swapped (Some t) (Some u) None = tt
swapped (Some t) (Some u) (Some ts) = record {
  form = λ j. coefficient-combined t (u ∷ ts) j ∙ ap (λ v. t.weight *ℚ coefficient_of t.form j +ℚ v) (coefficient-combined u ts j) ∙ three (t.weight *ℚ coefficient_of t.form j) (u.weight *ℚ coefficient_of u.form j) (coefficient_of (combined ts) j) ∙ sym (coefficient-combined u (t ∷ ts) j ∙ ap (λ v. u.weight *ℚ coefficient_of u.form j +ℚ v) (coefficient-combined t ts j));
  bound = three (t.weight *ℚ t.bound) (u.weight *ℚ u.bound) (combined_bound ts);
}

-- a term may stand behind others
pub moved_in : (f : Item → Option Weighted) (is : List Item) (t : Option Weighted) (o : Option (List Weighted)) → Keeps (joined t (gathered f is o)) (gathered f is (joined t o))
moved_in f [] t o = keeps_self (joined t o)
moved_in f (i ∷ is) t o = keeps_then (joined t (joined (f i) (gathered f is o))) (joined (f i) (joined t (gathered f is o))) (joined (f i) (gathered f is (joined t o))) (swapped t (f i) (gathered f is o)) (joined_keeps (f i) (f i) (joined t (gathered f is o)) (gathered f is (joined t o)) (term_self (f i)) (moved_in f is t o))

placed_keeps : (f : Item → Option Weighted) (i : Item) (is : List Item) (o : Option (List Weighted)) → Keeps (joined (f i) (gathered f is o)) (gathered f (placed i is) o)
placed_keeps f i [] o = keeps_self (joined (f i) o)
placed_keeps f i (j ∷ js) o = go (nat_lt j.index i.index) (placed_keeps f i js o)
  where
    go : (b : Bool) → Keeps (joined (f i) (gathered f js o)) (gathered f (placed i js) o) → Keeps (joined (f i) (joined (f j) (gathered f js o))) (gathered f (if b then j ∷ placed i js else i ∷ j ∷ js) o)
    go true h = keeps_then (joined (f i) (joined (f j) (gathered f js o))) (joined (f j) (joined (f i) (gathered f js o))) (joined (f j) (gathered f (placed i js) o)) (swapped (f i) (f j) (gathered f js o)) (joined_keeps (f j) (f j) (joined (f i) (gathered f js o)) (gathered f (placed i js) o) (term_self (f j)) h)
    go false h = keeps_self (joined (f i) (joined (f j) (gathered f js o)))

-- a weight of 0 adds nothing
nothing : (w c v : Rational) → w ≡ zero_ℚ → w *ℚ c +ℚ v ≡ v
nothing w c v e = ap (λ z. z *ℚ c +ℚ v) e ∙ ap (λ z. z +ℚ v) (Q.zero-mul c) ∙ Q.zero-add v

dropped : (w : Rational) (form : List Entry) (bound : Option Rational) (o : Option (List Weighted)) → w ≡ zero_ℚ → Keeps (joined (term w form bound) o) o
dropped w form None o e = tt
dropped w form (Some b) None e = tt
dropped w form (Some b) (Some ts) e = record {
  form = λ j. coefficient-combined (record { weight = w; form = form; bound = b }) ts j ∙ nothing w (coefficient_of form j) (coefficient_of (combined ts) j) e;
  bound = nothing w b (combined_bound ts) e;
}

-- ---- which split gives a bound

-- `bound` is the column's own, or that of the k-th split from the root, which is one of column j
abbrev pub Gives : (Split → Side) → (Split → Rational) → List Side → ℕ → Option Rational → Option Rational → Option ℕ → Type 0
Gives side value sides j own bound None = bound ≡ own
Gives side value sides j own bound (Some k) = (s : Split) × (way_get sides k ≡ Some (side s)) × (narrows s j ≡ true) × (bound ≡ Some (value s)) × (k < length sides)

later : (side : Split → Side) (value : Split → Rational) (t : Side) (sides : List Side) (j : ℕ) (own bound : Option Rational) (k : Option ℕ) → Gives side value sides j own bound k → Gives side value (t ∷ sides) j own bound k
later side value t sides j own bound None h = h
later side value t sides j own bound (Some k) h =
    let less = h.4 in
    let e : (k == length sides) ≡ false = grind (arith, nat_tests) in
    (h.0, rw e h.1, h.2, h.3, omega arith)

first : (t : Side) (sides : List Side) → way_get (t ∷ sides) (length sides) ≡ Some t
first t sides = let e : (length sides == length sides) ≡ true = grind (arith, nat_tests) in rw e refl

one_more : (side : Split → Side) (value : Split → Rational) (narrower : Option Rational → Rational → Rational) (wins : Option Rational → Rational → Bool) → ((o : Option Rational) (b : Rational) → wins o b ≡ true → narrower o b ≡ b) → ((o : Option Rational) (b : Rational) → wins o b ≡ false → Some (narrower o b) ≡ o) → (s : Split) (sides : List Side) (j : ℕ) (own bound : Option Rational) (k : Option ℕ) → Gives side value sides j own bound k → Gives side value (side s ∷ sides) j own (if narrows s j then Some (narrower bound (value s)) else bound) (if narrows s j && wins bound (value s) then Some (length sides) else k)
one_more side value narrower wins new old s sides j own bound k h = go (narrows s j) (wins bound (value s)) refl refl
  where
    go : (b r : Bool) → narrows s j ≡ b → wins bound (value s) ≡ r → Gives side value (side s ∷ sides) j own (if b then Some (narrower bound (value s)) else bound) (if b && r then Some (length sides) else k)
    go true true e f = (s, first (side s) sides, e, ap Some (new bound (value s) f), omega arith)
    go true false e f = rw (old bound (value s) f) (later side value (side s) sides j own bound k h)
    go false r e f = later side value (side s) sides j own bound k h

greater_new : (o : Option Rational) (b : Rational) → raises o b ≡ true → greater o b ≡ b
greater_new None b h = refl
greater_new (Some a) b h = let e = true_at_most a b (Q.le_of_lt _ _ (less_true a b h)) in rw e refl

greater_old : (o : Option Rational) (b : Rational) → raises o b ≡ false → Some (greater o b) ≡ o
greater_old None b h = cc
greater_old (Some a) b h = ap Some (go (is_at_most a b) refl)
  where
    go : (t : Bool) → is_at_most a b ≡ t → (if t then b else a) ≡ a
    go true e = Q.le_antisymm b a (less_false a b h) (at_most_true a b e)
    go false e = refl

lesser_new : (o : Option Rational) (b : Rational) → lowers o b ≡ true → lesser o b ≡ b
lesser_new None b h = refl
lesser_new (Some a) b h = go (is_at_most a b) refl
  where
    go : (t : Bool) → is_at_most a b ≡ t → (if t then a else b) ≡ b
    go true e = absurd (Q.lt-not-le b a (less_true b a h) (at_most_true a b e))
    go false e = refl

lesser_old : (o : Option Rational) (b : Rational) → lowers o b ≡ false → Some (lesser o b) ≡ o
lesser_old None b h = cc
lesser_old (Some a) b h = let e = true_at_most a b (less_false b a h) in ap Some (rw e refl)

pub lower_given : (p : Problem) (sides : List Side) (j : ℕ) → Gives High (λ s. whole (s.at +ℤ pos 1)) sides j (lower_under p [] j) (lower_under p sides j) (lower_source p sides j)
lower_given p [] j = refl
lower_given p (Low s ∷ sides) j = later High (λ s. whole (s.at +ℤ pos 1)) (Low s) sides j (lower_under p [] j) (lower_under p sides j) (lower_source p sides j) (lower_given p sides j)
lower_given p (High s ∷ sides) j = one_more High (λ s. whole (s.at +ℤ pos 1)) greater raises greater_new greater_old s sides j (lower_under p [] j) (lower_under p sides j) (lower_source p sides j) (lower_given p sides j)

pub upper_given : (p : Problem) (sides : List Side) (j : ℕ) → Gives Low (λ s. whole s.at) sides j (upper_under p [] j) (upper_under p sides j) (upper_source p sides j)
upper_given p [] j = refl
upper_given p (High s ∷ sides) j = later Low (λ s. whole s.at) (High s) sides j (upper_under p [] j) (upper_under p sides j) (upper_source p sides j) (upper_given p sides j)
upper_given p (Low s ∷ sides) j = one_more Low (λ s. whole s.at) lesser lowers lesser_new lesser_old s sides j (upper_under p [] j) (upper_under p sides j) (upper_source p sides j) (upper_given p sides j)

-- ---- one weight of a column

-- the form of a split that narrows column j has the coefficients of the column
unit_coefficient : (form : List Entry) (j i : ℕ) → is_column (unit_column form) j ≡ true → coefficient_of form i ≡ coefficient_of (record { column = j; coefficient = one_ℚ } ∷ []) i
unit_coefficient [] j i h = cc
unit_coefficient (e ∷ []) j i h = go (is_same e.coefficient one_ℚ) refl h
  where
    go : (b : Bool) → is_same e.coefficient one_ℚ ≡ b → is_column (if b then Some e.column else None) j ≡ true → coefficient_of (e ∷ []) i ≡ coefficient_of (record { column = j; coefficient = one_ℚ } ∷ []) i
    go true k c = let f : e.coefficient ≡ one_ℚ = same_true e.coefficient one_ℚ k in let g : e.column ≡ j = eqb-true e.column j c in rw (f, g) refl
    go false k c = cc
unit_coefficient (e ∷ f ∷ es) j i h = cc

abbrev unit : ℕ → List Entry
unit j = record { column = j; coefficient = one_ℚ } ∷ []

abbrev way_term : Rational → Option Side → Option Weighted
way_term w o = option_and_then (λ s. term w (side_form s) (Some (side_bound s))) o

high_term_keeps : (w : Rational) (s : Split) (sides : List Side) (j k : ℕ) (bound : Option Rational) → way_get sides k ≡ Some (High s) → narrows s j ≡ true → bound ≡ Some (whole (s.at +ℤ pos 1)) → TermKeeps (term w (unit j) bound) (way_term w (way_get sides k))
high_term_keeps w s sides j k bound g n e = rw (g, e) (record { form = λ i. ap (λ c. w *ℚ c) (sym (unit_coefficient s.form j i n)); bound = refl })

turned : (w c : Rational) → w *ℚ c ≡ neg_ℚ w *ℚ (whole (negsuc 0) *ℚ c)
turned w c = sym (ap (λ v. neg_ℚ w *ℚ v) (minus_one-mul c) ∙ twice w c)
  where
    twice : (w c : Rational) → neg_ℚ w *ℚ neg_ℚ c ≡ w *ℚ c
    twice w c = Q.neg_mul w (neg_ℚ c) ∙ ap neg_ℚ (Q.mul_neg w c) ∙ Q.neg_neg (w *ℚ c)

low_term_keeps : (w : Rational) (s : Split) (sides : List Side) (j k : ℕ) (bound : Option Rational) → way_get sides k ≡ Some (Low s) → narrows s j ≡ true → bound ≡ Some (whole s.at) → TermKeeps (term w (unit j) bound) (way_term (neg_ℚ w) (way_get sides k))
low_term_keeps w s sides j k bound g n e = rw (g, e) (record {
  form = λ i. ap (λ c. w *ℚ c) (sym (unit_coefficient s.form j i n)) ∙ turned w (coefficient_of s.form i) ∙ ap (λ c. neg_ℚ w *ℚ c) (sym (coefficient-scaled (whole (negsuc 0)) s.form i));
  bound = turned w (whole s.at) ∙ ap (λ c. neg_ℚ w *ℚ c) (minus_one-mul (whole s.at) ∙ sym (Q.neg_whole s.at));
})

-- a weight of a negative number is positive where it is not 0
pub neg_less : (w : Rational) → is_less zero_ℚ w ≡ false → is_zero w ≡ false → is_less zero_ℚ (neg_ℚ w) ≡ true
neg_less w h z = go (is_less zero_ℚ (neg_ℚ w)) refl
  where
    zero_is : (v : Rational) → v ≡ zero_ℚ → is_zero v ≡ true
    zero_is v e = rw e refl

    go : (b : Bool) → is_less zero_ℚ (neg_ℚ w) ≡ b → b ≡ true
    go true e = refl
    go false e =
        let above : zero_ℚ ≤ℚ w = le_by _ _ _ _ (sym neg-zero) (sym (Q.neg_neg w)) (neg_le _ _ (less_false _ _ e)) in
        let t = zero_is w (Q.le_antisymm _ _ (less_false _ _ h) above) in
        rw z at t

-- what is known of the term of a weight of a column, by the split that gives its bound
abbrev ItemGives : Bool → Problem → List Side → Item → Option ℕ → Type 0
ItemGives b p sides i None = term i.weight (unit i.index) (if b then lower_under p sides i.index else upper_under p sides i.index) ≡ term i.weight (unit i.index) (if b then lower_under p [] i.index else upper_under p [] i.index)
ItemGives b p sides i (Some k) = is_zero i.weight ≡ false → TermKeeps (term i.weight (unit i.index) (if b then lower_under p sides i.index else upper_under p sides i.index)) (if is_less zero_ℚ (if b then i.weight else neg_ℚ i.weight) then way_term (if b then i.weight else neg_ℚ i.weight) (way_get sides k) else None)

gives_up : (p : Problem) (sides : List Side) (i : Item) (k : Option ℕ) → is_less zero_ℚ i.weight ≡ true → Gives High (λ s. whole (s.at +ℤ pos 1)) sides i.index (lower_under p [] i.index) (lower_under p sides i.index) k → ItemGives true p sides i k
gives_up p sides i None e h = ap (term i.weight (unit i.index)) h
gives_up p sides i (Some k) e h = λ z. rw e (high_term_keeps i.weight h.0 sides i.index k (lower_under p sides i.index) h.1 h.2 h.3)

gives_down : (p : Problem) (sides : List Side) (i : Item) (k : Option ℕ) → is_less zero_ℚ i.weight ≡ false → Gives Low (λ s. whole s.at) sides i.index (upper_under p [] i.index) (upper_under p sides i.index) k → ItemGives false p sides i k
gives_down p sides i None e h = ap (term i.weight (unit i.index)) h
gives_down p sides i (Some k) e h = λ z. let f = neg_less i.weight e z in rw f (low_term_keeps i.weight h.0 sides i.index k (upper_under p sides i.index) h.1 h.2 h.3)

item_gives : (p : Problem) (sides : List Side) (i : Item) → ItemGives (is_less zero_ℚ i.weight) p sides i (source p sides i)
item_gives p sides i = go (is_less zero_ℚ i.weight) refl
  where
    go : (b : Bool) → is_less zero_ℚ i.weight ≡ b → ItemGives b p sides i (if b then lower_source p sides i.index else upper_source p sides i.index)
    go true e = gives_up p sides i (lower_source p sides i.index) e (lower_given p sides i.index)
    go false e = gives_down p sides i (upper_source p sides i.index) e (upper_given p sides i.index)

-- the terms of columns, derived rows and splits
abbrev behind : Problem → List Derived → List Side → List Item → List Item → List Item → Option (List Weighted)
behind p ds sides columns derived splits = gathered (column_term p []) columns (gathered (derived_term ds) derived (gathered (split_term sides) splits (Some [])))

put : (p : Problem) (ds : List Derived) (sides : List Side) (t : Option Weighted) (i : Item) (columns derived splits : List Item) → TermKeeps t (split_term sides i) → Keeps (joined t (behind p ds sides columns derived splits)) (behind p ds sides columns derived (placed i splits))
put p ds sides t i columns derived splits h =
    let u = split_term sides i in
    let last = gathered (split_term sides) splits (Some []) in
    let mid = gathered (derived_term ds) derived last in
    let after = gathered (split_term sides) (placed i splits) (Some []) in
    keeps_then (joined t (gathered (column_term p []) columns mid)) (joined u (gathered (column_term p []) columns mid)) (gathered (column_term p []) columns (gathered (derived_term ds) derived after))
    (joined_keeps t u (gathered (column_term p []) columns mid) (gathered (column_term p []) columns mid) h (keeps_self (gathered (column_term p []) columns mid)))
    (keeps_then (joined u (gathered (column_term p []) columns mid)) (gathered (column_term p []) columns (joined u mid)) (gathered (column_term p []) columns (gathered (derived_term ds) derived after))
    (moved_in (column_term p []) columns u mid)
    (gathered_keeps (column_term p []) (column_term p []) columns (joined u mid) (gathered (derived_term ds) derived after) (λ c. term_self (column_term p [] c))
    (keeps_then (joined u mid) (gathered (derived_term ds) derived (joined u last)) (gathered (derived_term ds) derived after)
    (moved_in (derived_term ds) derived u last)
    (gathered_keeps (derived_term ds) (derived_term ds) derived (joined u last) after (λ d. term_self (derived_term ds d)) (placed_keeps (split_term sides) i splits (Some []))))))

item_keeps : (p : Problem) (ds : List Derived) (sides : List Side) (i : Item) (columns derived splits : List Item) (k : Option ℕ) → ItemGives (is_less zero_ℚ i.weight) p sides i k → Keeps (joined (column_term p sides i) (behind p ds sides columns derived splits)) (behind p ds sides (kept_if k i columns) derived (placed_if k i splits))
item_keeps p ds sides i columns derived splits None h = rw h (keeps_self (joined (column_term p [] i) (behind p ds sides columns derived splits)))
item_keeps p ds sides i columns derived splits (Some k) h = go (is_zero i.weight) refl
  where
    go : (b : Bool) → is_zero i.weight ≡ b → Keeps (joined (column_term p sides i) (behind p ds sides columns derived splits)) (behind p ds sides columns derived (if b then splits else placed (on_split k i) splits))
    go true e = dropped i.weight (unit i.index) (bound_used i.weight (lower_under p sides i.index) (upper_under p sides i.index)) (behind p ds sides columns derived splits) (zero_true i.weight e)
    go false e = put p ds sides (column_term p sides i) (on_split k i) columns derived splits (h e)

columns_keep : (p : Problem) (ds : List Derived) (sides : List Side) (named_by : Item → Option Weighted) (columns derived splits : List Item) → ((i : Item) → TermKeeps (named_by i) (split_term sides i)) → Keeps (gathered (column_term p sides) columns (gathered (derived_term ds) derived (gathered named_by splits (Some [])))) (behind p ds sides (kept p sides columns) derived (with_splits p sides columns splits))
columns_keep p ds sides named_by [] derived splits h = gathered_keeps (derived_term ds) (derived_term ds) derived _ _ (λ d. term_self (derived_term ds d)) (gathered_keeps named_by (split_term sides) splits (Some []) (Some []) h (keeps_self (Some [])))
columns_keep p ds sides named_by (i ∷ is) derived splits h =
    let first = gathered (column_term p sides) is (gathered (derived_term ds) derived (gathered named_by splits (Some []))) in
    let second = behind p ds sides (kept p sides is) derived (with_splits p sides is splits) in
    keeps_then (joined (column_term p sides i) first) (joined (column_term p sides i) second) (behind p ds sides (kept p sides (i ∷ is)) derived (with_splits p sides (i ∷ is) splits))
    (joined_keeps (column_term p sides i) (column_term p sides i) first second (term_self (column_term p sides i)) (columns_keep p ds sides named_by is derived splits h))
    (item_keeps p ds sides i (kept p sides is) derived (with_splits p sides is splits) (source p sides i) (item_gives p sides i))

-- all weights: those that use narrowed bounds, and some of the splits on the way, keep their sums when they name the splits
pub weights_keep : (p : Problem) (ds : List Derived) (sides some : List Side) (w : Weights) → ((i : Item) → TermKeeps (split_term some i) (split_term sides i)) → Keeps (terms p ds sides some w) (terms p ds [] sides (named p sides w))
weights_keep p ds sides some w h = gathered_keeps (row_term p) (row_term p) w.rows _ _ (λ i. term_self (row_term p i)) (columns_keep p ds sides (split_term some) w.columns w.derived w.splits h)

pub none_named : (sides : List Side) (i : Item) → TermKeeps (split_term [] i) (split_term sides i)
none_named sides i = go (is_less zero_ℚ i.weight)
  where
    go : (b : Bool) → TermKeeps (if b then None else None) (split_term sides i)
    go true = tt
    go false = tt

-- ---- tests

same_form_keeps : (n : ℕ) (f g form : List Entry) → ((j : ℕ) → coefficient_of f j ≡ coefficient_of g j) → same_form n f form ≡ true → same_form n g form ≡ true
same_form_keeps zero f g form h t = refl
same_form_keeps (suc n) f g form h t =
    let both = and_parts (is_same (coefficient_of f n) (coefficient_of form n)) (same_form n f form) t in
    and_from _ _ (true_same (coefficient_of g n) (coefficient_of form n) (sym (h n) ∙ same_true (coefficient_of f n) (coefficient_of form n) both.0)) (same_form_keeps n f g form h both.1)

shows_keeps : (n : ℕ) (o r : Option (List Weighted)) (form : List Entry) (bound : Rational) → Keeps o r → shows n o form bound ≡ true → shows n r form bound ≡ true
shows_keeps n None r form bound k t = cc
shows_keeps n (Some ts) None form bound k t = absurd k
shows_keeps n (Some ts) (Some us) form bound k t =
    let both = and_parts (same_form n (combined ts) form) (is_at_most bound (combined_bound ts)) t in
    and_from _ _ (same_form_keeps n (combined ts) (combined us) form k.form both.0) (rw k.bound at both.1)

pub refutes_keeps : (n : ℕ) (o r : Option (List Weighted)) → Keeps o r → refutes n o ≡ true → refutes n r ≡ true
refutes_keeps n None r k t = cc
refutes_keeps n (Some ts) None k t = absurd k
refutes_keeps n (Some ts) (Some us) k t =
    let both = and_parts (same_form n (combined ts) []) (is_less zero_ℚ (combined_bound ts)) t in
    and_from _ _ (same_form_keeps n (combined ts) (combined us) [] k.form both.0) (rw k.bound at both.1)

pub bound_keeps : (p : Problem) (goal : Option Rational) (o r : Option (List Weighted)) → Keeps o r → bound_passes p goal o ≡ true → bound_passes p goal r ≡ true
bound_keeps p None o r k t = cc
bound_keeps p (Some v) o r k t = shows_keeps _ o r _ _ k t

pub node_keeps : (p : Problem) (goal : Option Rational) (ds : List Derived) (sides : List Side) (node : TreeNode) → node_passes p One goal ds sides node ≡ true → node_passes p Two goal ds sides (migrated_node p sides node) ≡ true
node_keeps p goal ds sides (Branch s) t = (and_parts (may_split One s.form) (is_whole_form p s.form) t).1
node_keeps p goal ds sides (Empty w) t = refutes_keeps _ (terms p ds sides [] w) (terms p ds [] sides (named p sides w)) (weights_keep p ds sides [] w (none_named sides)) t
node_keeps p goal ds sides (Bound w) t = bound_keeps p goal (terms p ds sides [] w) (terms p ds [] sides (named p sides w)) (weights_keep p ds sides [] w (none_named sides)) t

same_below : (p : Problem) (sides : List Side) (node : TreeNode) → below (migrated_node p sides node) sides ≡ below node sides
same_below p sides (Branch s) = refl
same_below p sides (Empty w) = refl
same_below p sides (Bound w) = refl

from_passing : (t : Test) (ts : List Test) → t.passes ≡ true → first_failing ts ≡ None → first_failing (t ∷ ts) ≡ None
from_passing t ts e h = rw e h

nodes_keep : (p : Problem) (goal : Option Rational) (ds : List Derived) (k : ℕ) (places : List (List Side)) (nodes : List TreeNode) → first_failing (node_tests p One goal ds k places nodes) ≡ None → first_failing (node_tests p Two goal ds k places (migrated_nodes p places nodes)) ≡ None
nodes_keep p goal ds k [] [] t = refl
nodes_keep p goal ds k [] (node ∷ nodes) t = cc
nodes_keep p goal ds k (sides ∷ places) [] t = cc
nodes_keep p goal ds k (sides ∷ places) (node ∷ nodes) t =
    let both = passing (record { part = Part.Node k; passes = node_passes p One goal ds sides node }) (node_tests p One goal ds (k + 1) (below node sides ++ places) nodes) t in
    let rest = nodes_keep p goal ds (k + 1) (below node sides ++ places) nodes both.1 in
    let moved = migrated_nodes p (below node sides ++ places) nodes in
    from_passing (record { part = Part.Node k; passes = node_passes p Two goal ds sides (migrated_node p sides node) }) (node_tests p Two goal ds (k + 1) (below (migrated_node p sides node) sides ++ places) moved) (node_keeps p goal ds sides node both.0)
    (rw (same_below p sides node) rest)

-- ---- derived rows: in version 1 none is used

no_row : (before : List Derived) (i : Item) → TermKeeps (derived_term [] i) (derived_term before i)
no_row before i = go (is_less zero_ℚ i.weight)
  where
    go : (b : Bool) → TermKeeps (if b then None else None) (derived_term before i)
    go true = tt
    go false = tt

rows_keep : (p : Problem) (before : List Derived) (w : Weights) → Keeps (terms p [] [] [] w) (terms p before [] [] w)
rows_keep p before w =
    gathered_keeps (row_term p) (row_term p) w.rows _ _ (λ i. term_self (row_term p i))
    (gathered_keeps (column_term p []) (column_term p []) w.columns _ _ (λ i. term_self (column_term p [] i))
    (gathered_keeps (derived_term []) (derived_term before) w.derived _ _ (no_row before) (keeps_self (gathered (split_term []) w.splits (Some [])))))

proof_keeps : (p : Problem) (before : List Derived) (form : List Entry) (bound : Rational) (proof : Proof) → proof_passes p [] form bound proof ≡ true → proof_passes p before form bound proof ≡ true
proof_keeps p before form bound (Plain w) t = shows_keeps _ (terms p [] [] [] w) (terms p before [] [] w) form bound (rows_keep p before w) t
proof_keeps p before form bound (BySplit s) t =
    let n = length p.columns in
    let low = joined (Some (low_term s)) (terms p [] [] [] s.low_weights) in
    let high = joined (Some (high_term s)) (terms p [] [] [] s.high_weights) in
    let low2 = joined (Some (low_term s)) (terms p before [] [] s.low_weights) in
    let high2 = joined (Some (high_term s)) (terms p before [] [] s.high_weights) in
    let all = and_parts (is_whole_form p s.form && (is_at_most zero_ℚ s.low && is_at_most zero_ℚ s.high)) (shows n low form bound && shows n high form bound) t in
    let shown = and_parts (shows n low form bound) (shows n high form bound) all.1 in
    and_from _ _ all.0 (and_from _ _
    (shows_keeps n low low2 form bound (joined_keeps (Some (low_term s)) (Some (low_term s)) (terms p [] [] [] s.low_weights) (terms p before [] [] s.low_weights) (term_self (Some (low_term s))) (rows_keep p before s.low_weights)) shown.0)
    (shows_keeps n high high2 form bound (joined_keeps (Some (high_term s)) (Some (high_term s)) (terms p [] [] [] s.high_weights) (terms p before [] [] s.high_weights) (term_self (Some (high_term s))) (rows_keep p before s.high_weights)) shown.1))

derived_keeps : (p : Problem) (k : ℕ) (before ds : List Derived) → first_failing (derived_tests p One k before ds) ≡ None → first_failing (derived_tests p Two k before ds) ≡ None
derived_keeps p k before [] t = refl
derived_keeps p k before (d ∷ ds) t =
    let both = passing (record { part = Part.DerivedRow k; passes = derived_passes p [] d }) (derived_tests p One (k + 1) (before ++ d ∷ []) ds) t in
    let here = and_parts (in_range (length p.columns) d.form) (proof_passes p [] d.form d.bound d.proof) both.0 in
    from_passing (record { part = Part.DerivedRow k; passes = derived_passes p before d }) (derived_tests p Two (k + 1) (before ++ d ∷ []) ds) (and_from _ _ here.0 (proof_keeps p before d.form d.bound d.proof here.1)) (derived_keeps p (k + 1) (before ++ d ∷ []) ds both.1)

-- ---- the certificate

parts_of : (ts us : List Test) → first_failing (ts ++ us) ≡ None → (first_failing ts ≡ None) × (first_failing us ≡ None)
parts_of [] us h = (refl, h)
parts_of (t ∷ ts) us h =
    let one = passing t (ts ++ us) h in
    let both = parts_of ts us one.1 in
    let e = one.0 in
    (rw e both.0, both.1)

from_parts : (ts us : List Test) → first_failing ts ≡ None → first_failing us ≡ None → first_failing (ts ++ us) ≡ None
from_parts [] us h k = k
from_parts (t ∷ ts) us h k =
    let one = passing t ts h in
    from_passing t (ts ++ us) one.0 (from_parts ts us one.1 k)

tree_keeps : (p : Problem) (goal : Option Rational) (c : Certificate) → c.version ≡ One → first_failing (tree_tests p goal c) ≡ None → first_failing (tree_tests p goal (migrated p c)) ≡ None
tree_keeps p goal c e t =
    let u : first_failing (derived_tests p One 1 [] c.derived ++ node_tests p One goal c.derived 1 ([] ∷ []) c.tree) ≡ None = rw e at t in
    let both = parts_of (derived_tests p One 1 [] c.derived) (node_tests p One goal c.derived 1 ([] ∷ []) c.tree) u in
    from_parts (derived_tests p Two 1 [] c.derived) (node_tests p Two goal c.derived 1 ([] ∷ []) (migrated_nodes p ([] ∷ []) c.tree)) (derived_keeps p 1 [] c.derived both.0) (nodes_keep p goal c.derived 1 ([] ∷ []) c.tree both.1)

verdict_keeps : (p : Problem) (c : Certificate) (v : Verdict) → c.version ≡ One → first_failing (verdict_tests p c v) ≡ None → first_failing (verdict_tests p (migrated p c) v) ≡ None
verdict_keeps p c Optimal e t =
    let point : Test = record { part = Part.Point; passes = point_passes p c.point } in
    let value : Test = record { part = Part.Value; passes = value_passes p c.point c.value } in
    let one = passing point (value ∷ tree_tests p c.value c) t in
    let two = passing value (tree_tests p c.value c) one.1 in
    from_passing point (value ∷ tree_tests p c.value (migrated p c)) one.0 (from_passing value (tree_tests p c.value (migrated p c)) two.0 (tree_keeps p c.value c e two.1))
verdict_keeps p c Infeasible e t = tree_keeps p None c e t
verdict_keeps p c Unbounded e t = t

pub migration_proves : (p : Problem) (c : Certificate) → c.version ≡ One → Proves p c → Proves p (migrated p c)
migration_proves p c e h =
    let size : Test = record { part = Part.Size; passes = (c.rows == length p.rows) && (c.columns == length p.columns) } in
    let one = passing size (verdict_tests p c c.verdict) h in
    from_passing size (verdict_tests p (migrated p c) c.verdict) one.0 (verdict_keeps p c c.verdict e one.1)
