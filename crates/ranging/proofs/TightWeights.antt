-- The weights of a leaf that shows a point best are on bounds that are tight there, or 0.
use Rattle.std.proofs.Common.{◌≡◌, ◌∙◌, ℕ, zero, suc, ◌+◌, ◌<◌, List, [], ◌∷◌, Bool, true, false, refl, sym, ap, subst, Option, Some, None, IfSome, slice_get, option_and_then, length, if◌then◌else◌, inl, inr, arith}
use Rattle.std.proofs.lemmas.Bool.{and_parts}
use Rattle.std.specs.Prelude.{negsuc}
use Rattle.rational.specs.Rational.{Rational, ◌≤ℚ◌, ◌<ℚ◌, ◌+ℚ◌, ◌-ℚ◌, ◌*ℚ◌, neg_ℚ, inv_ℚ, zero_ℚ, one_ℚ, whole}
use Rattle.rational.specs.Compare.{is_less, is_same, is_at_most}
use Rattle.rational.proofs.Laws as Q
use Rattle.rational.proofs.Laws.{field, less_true, less_false, true_same, at_most_true}
use Rattle.milp.specs.Form.{Entry, number_at, sum_at}
use Rattle.milp.specs.Problem.{Column, Row, Problem}
use Rattle.milp.specs.Points.{IsWithin, Feasible, objective_value, sign_of}
use Rattle.verdicts.specs.Certificate.{Version, One, Two, Item, Weights, Bound}
use Rattle.verdicts.specs.WeightedSums.{scaled, coefficient_of, AllBelow, Weighted, combined, combined_bound}
use Rattle.verdicts.specs.Proves.{term, bound_used, row_term, column_term, derived_term, split_term, joined, gathered, terms, same_form, shows, node_passes}
use Rattle.verdicts.proofs.Laws.{le_by, neg-zero, mul-le-mul_neg, minus_one-mul, value-append, value-scaled, coefficient-scaled}
use Rattle.ranging.specs.TightBounds.{if_tight, tight_at, tight_rows, tight_columns, tight_forms, RowsInRange, FormsInRange}
use Rattle.ranging.proofs.Order.{le_or_less, le_cancel, lt_by, neg_less, some_above}
use Rattle.ranging.proofs.TightSums.{below_append, below_scaled, value_by_coefficients}
use Rattle.ranging.proofs.LeafTerms.{same_coefficients, no_derived, no_split}
use Rattle.ranging.proofs.Spanned.{IsSpanned, IsOneOf, nothing_spanned, one_spanned, both_spanned, same_spanned}
use Rattle.ranging.proofs.Places.{place_here, place_behind, from_first}

-- ---- a bound that is tight has its form in the list

record HasTight (x : List Rational) (fs : List (List Entry)) (form : List Entry) (lower upper : Option Rational) : Type 0 where
  low : IfSome lower (λ b. b ≡ sum_at x form → IsOneOf form fs)
  high : IfSome upper (λ b. b ≡ sum_at x form → IsOneOf (scaled (whole (negsuc 0)) form) fs)

if_tight_keeps : (f : List Entry) (o : Option Rational) (v : Rational) (form : List Entry) (rest : List (List Entry)) → IsOneOf f rest → IsOneOf f (if_tight o v form rest)
if_tight_keeps f None v form rest h = h
if_tight_keeps f (Some b) v form rest h = go (is_same b v)
  where
    go : (t : Bool) → IsOneOf f (if t then form ∷ rest else rest)
    go true = inr h
    go false = h

if_tight_has : (o : Option Rational) (v : Rational) (form : List Entry) (rest : List (List Entry)) → IfSome o (λ b. b ≡ v → IsOneOf form (if_tight o v form rest))
if_tight_has None v form rest = tt
if_tight_has (Some b) v form rest = λ e. go (is_same b v) (true_same b v e)
  where
    go : (t : Bool) → t ≡ true → IsOneOf form (if t then form ∷ rest else rest)
    go true e = inl refl
    go false e = cc

tight_at_keeps : (f : List Entry) (x : List Rational) (form : List Entry) (lower upper : Option Rational) (rest : List (List Entry)) → IsOneOf f rest → IsOneOf f (tight_at x form lower upper rest)
tight_at_keeps f x form lower upper rest h = if_tight_keeps f lower (sum_at x form) form _ (if_tight_keeps f upper (sum_at x form) (scaled (whole (negsuc 0)) form) rest h)

IfSome_map : (o : Option Rational) (F G : Rational → Type 0) → ((b : Rational) → F b → G b) → IfSome o F → IfSome o G
IfSome_map None F G h k = tt
IfSome_map (Some b) F G h k = h b k

tight_here : (x : List Rational) (form : List Entry) (lower upper : Option Rational) (rest : List (List Entry)) → HasTight x (tight_at x form lower upper rest) form lower upper
tight_here x form lower upper rest = record {
  low = if_tight_has lower (sum_at x form) form (if_tight upper (sum_at x form) (scaled (whole (negsuc 0)) form) rest);
  high = IfSome_map upper _ _ (λ b h e. if_tight_keeps _ lower (sum_at x form) form _ (h e)) (if_tight_has upper (sum_at x form) (scaled (whole (negsuc 0)) form) rest);
}

tight_more : (x : List Rational) (fs gs : List (List Entry)) (form : List Entry) (lower upper : Option Rational) → ((f : List Entry) → IsOneOf f fs → IsOneOf f gs) → HasTight x fs form lower upper → HasTight x gs form lower upper
tight_more x fs gs form lower upper more h = record {
  low = IfSome_map lower _ _ (λ b g e. more form (g e)) h.low;
  high = IfSome_map upper _ _ (λ b g e. more (scaled (whole (negsuc 0)) form) (g e)) h.high;
}

rows_have : (x : List Rational) (rs : List Row) (i : ℕ) → IfSome (slice_get rs i) (λ r. HasTight x (tight_rows x rs) r.entries r.lower r.upper)
rows_have x [] i = tt
rows_have x (r ∷ rs) zero = tight_here x r.entries r.lower r.upper (tight_rows x rs)
rows_have x (r ∷ rs) (suc i) = go (slice_get rs i) (rows_have x rs i)
  where
    go : (o : Option Row) → IfSome o (λ q. HasTight x (tight_rows x rs) q.entries q.lower q.upper) → IfSome o (λ q. HasTight x (tight_rows x (r ∷ rs)) q.entries q.lower q.upper)
    go None h = tt
    go (Some q) h = tight_more x (tight_rows x rs) (tight_rows x (r ∷ rs)) q.entries q.lower q.upper (λ f. tight_at_keeps f x r.entries r.lower r.upper (tight_rows x rs)) h

columns_keep : (f : List Entry) (x : List Rational) (at : ℕ) (cs : List Column) (rest : List (List Entry)) → IsOneOf f rest → IsOneOf f (tight_columns x at cs rest)
columns_keep f x at [] rest h = h
columns_keep f x at (c ∷ cs) rest h = tight_at_keeps f x (record { column = at; coefficient = one_ℚ } ∷ []) c.lower c.upper _ (columns_keep f x (suc at) cs rest h)

columns_have : (x : List Rational) (at : ℕ) (cs : List Column) (rest : List (List Entry)) (j : ℕ) → IfSome (slice_get cs j) (λ c. HasTight x (tight_columns x at cs rest) (record { column = at + j; coefficient = one_ℚ } ∷ []) c.lower c.upper)
columns_have x at [] rest j = tt
columns_have x at (c ∷ cs) rest zero = let P : ℕ → Type 0 = λ n. HasTight x (tight_columns x at (c ∷ cs) rest) (record { column = n; coefficient = one_ℚ } ∷ []) c.lower c.upper in subst P (sym (place_here at)) (tight_here x (record { column = at; coefficient = one_ℚ } ∷ []) c.lower c.upper (tight_columns x (suc at) cs rest))
columns_have x at (c ∷ cs) rest (suc j) = go (slice_get cs j) (columns_have x (suc at) cs rest j)
  where
    go : (o : Option Column) → IfSome o (λ d. HasTight x (tight_columns x (suc at) cs rest) (record { column = suc at + j; coefficient = one_ℚ } ∷ []) d.lower d.upper) → IfSome o (λ d. HasTight x (tight_columns x at (c ∷ cs) rest) (record { column = at + suc j; coefficient = one_ℚ } ∷ []) d.lower d.upper)
    go None h = tt
    go (Some d) h =
        let P : ℕ → Type 0 = λ n. HasTight x (tight_columns x at (c ∷ cs) rest) (record { column = n; coefficient = one_ℚ } ∷ []) d.lower d.upper in
        subst P (place_behind at j) (tight_more x (tight_columns x (suc at) cs rest) (tight_columns x at (c ∷ cs) rest) (record { column = suc at + j; coefficient = one_ℚ } ∷ []) d.lower d.upper (λ f. tight_at_keeps f x (record { column = at; coefficient = one_ℚ } ∷ []) c.lower c.upper (tight_columns x (suc at) cs rest)) h)

-- ---- a term of the leaf

-- the point meets the term, and where it just does, the term is spanned by the tight forms
record IsGood (p : Problem) (x : List Rational) (t : Weighted) : Type 0 where
  below : AllBelow (length p.columns) t.form
  meets : t.weight *ℚ t.bound ≤ℚ t.weight *ℚ sum_at x t.form
  spanned : t.weight *ℚ t.bound ≡ t.weight *ℚ sum_at x t.form → IsSpanned (tight_forms p x) (scaled t.weight t.form)

abbrev AllGood : Problem → List Rational → List Weighted → Type 0
AllGood p x [] = Unit {0}
AllGood p x (t ∷ ts) = IsGood p x t × AllGood p x ts

cancelled : (w a b : Rational) → zero_ℚ <ℚ w → w *ℚ a ≡ w *ℚ b → a ≡ b
cancelled w a b h e = sym (Q.inv_left w a (some_above w h)) ∙ swap w (inv_ℚ w) a ∙ ap (λ y. inv_ℚ w *ℚ y) e ∙ sym (swap w (inv_ℚ w) b) ∙ Q.inv_left w b (some_above w h)
  where
    swap : (x y z : Rational) → x *ℚ (y *ℚ z) ≡ y *ℚ (x *ℚ z)
    swap x y z = simp field

turned_back : (w : Rational) (f : List Entry) (k : ℕ) → coefficient_of (scaled (neg_ℚ w) (scaled (whole (negsuc 0)) f)) k ≡ coefficient_of (scaled w f) k
turned_back w f k =
    coefficient-scaled (neg_ℚ w) (scaled (whole (negsuc 0)) f) k ∙ ap (λ v. neg_ℚ w *ℚ v) (coefficient-scaled (whole (negsuc 0)) f k ∙ minus_one-mul _)
    ∙ Q.neg_mul w _ ∙ ap neg_ℚ (Q.mul_neg w _) ∙ Q.neg_neg _ ∙ sym (coefficient-scaled w f k)

term_good : (p : Problem) (x : List Rational) (w : Rational) (form : List Entry) (lower upper : Option Rational) → AllBelow (length p.columns) form → IsWithin lower upper (sum_at x form) → HasTight x (tight_forms p x) form lower upper → IfSome (term w form (bound_used w lower upper)) (IsGood p x)
term_good p x w form lower upper below h tight = go (is_less zero_ℚ w) refl
  where
    low : (o : Option Rational) → zero_ℚ <ℚ w → IfSome o (λ b. b ≤ℚ sum_at x form) → IfSome o (λ b. b ≡ sum_at x form → IsOneOf form (tight_forms p x)) → IfSome (term w form o) (IsGood p x)
    low None k l t = tt
    low (Some b) k l t = record { below = below; meets = Q.mul-le-mul w b _ (Q.le_of_lt _ _ k) l; spanned = λ e. one_spanned w form (tight_forms p x) (Q.le_of_lt _ _ k) (t (cancelled w b _ k e)) }

    up : (b : Rational) → w ≤ℚ zero_ℚ → (b ≡ sum_at x form → IsOneOf (scaled (whole (negsuc 0)) form) (tight_forms p x)) → w *ℚ b ≡ w *ℚ sum_at x form → IsSpanned (tight_forms p x) (scaled w form)
    up b k t e = elim (le_or_less zero_ℚ w) [
      | inl none ↦ nothing_spanned (tight_forms p x) (scaled w form) (λ i. coefficient-scaled w form i ∙ ap (λ v. v *ℚ coefficient_of form i) (Q.le_antisymm _ _ k none) ∙ Q.zero-mul _)
      | inr some ↦
          let above : zero_ℚ <ℚ neg_ℚ w = lt_by (sym neg-zero) refl (neg_less some) in
          let same : b ≡ sum_at x form = cancelled (neg_ℚ w) b _ above (Q.neg_mul w b ∙ ap neg_ℚ e ∙ sym (Q.neg_mul w _)) in
          same_spanned (tight_forms p x) (scaled (neg_ℚ w) (scaled (whole (negsuc 0)) form)) (scaled w form) (turned_back w form) (one_spanned (neg_ℚ w) (scaled (whole (negsuc 0)) form) (tight_forms p x) (Q.le_of_lt _ _ above) (t same))
    ]

    high : (o : Option Rational) → w ≤ℚ zero_ℚ → IfSome o (λ b. sum_at x form ≤ℚ b) → IfSome o (λ b. b ≡ sum_at x form → IsOneOf (scaled (whole (negsuc 0)) form) (tight_forms p x)) → IfSome (term w form o) (IsGood p x)
    high None k l t = tt
    high (Some b) k l t = record { below = below; meets = mul-le-mul_neg w (sum_at x form) b k l; spanned = up b k t }

    go : (b : Bool) → is_less zero_ℚ w ≡ b → IfSome (term w form (if b then lower else upper)) (IsGood p x)
    go true e = low lower (less_true _ _ e) h.low tight.low
    go false e = high upper (less_false _ _ e) h.high tight.high

row_below : (n : ℕ) (rs : List Row) (i : ℕ) → RowsInRange n rs → IfSome (slice_get rs i) (λ r. AllBelow n r.entries)
row_below n [] i h = tt
row_below n (r ∷ rs) zero h = h.0
row_below n (r ∷ rs) (suc i) h = row_below n rs i h.1

column_below : (cs : List Column) (j : ℕ) → IfSome (slice_get cs j) (λ c. j < length cs)
column_below [] j = tt
column_below (c ∷ cs) zero = omega arith
column_below (c ∷ cs) (suc j) = go (slice_get cs j) (column_below cs j)
  where
    go : (o : Option Column) → IfSome o (λ d. j < length cs) → IfSome o (λ d. suc j < length (c ∷ cs))
    go None h = tt
    go (Some d) h = omega arith

row_good : (p : Problem) (x : List Rational) → FormsInRange p → Feasible p x → (i : Item) → IfSome (row_term p i) (IsGood p x)
row_good p x f h i = go (slice_get p.rows i.index) (row_below (length p.columns) p.rows i.index f.rows) (h.relaxed.rows i.index) (rows_have x p.rows i.index)
  where
    go : (o : Option Row) → IfSome o (λ r. AllBelow (length p.columns) r.entries) → IfSome o (λ r. IsWithin r.lower r.upper (sum_at x r.entries)) → IfSome o (λ r. HasTight x (tight_rows x p.rows) r.entries r.lower r.upper) → IfSome (option_and_then (λ r. term i.weight r.entries (bound_used i.weight r.lower r.upper)) o) (IsGood p x)
    go None b k t = tt
    go (Some r) b k t = term_good p x i.weight r.entries r.lower r.upper b k (tight_more x (tight_rows x p.rows) (tight_forms p x) r.entries r.lower r.upper (λ g. columns_keep g x 0 p.columns (tight_rows x p.rows)) t)

column_good : (p : Problem) (x : List Rational) → Feasible p x → (i : Item) → IfSome (column_term p [] i) (IsGood p x)
column_good p x h i = go (slice_get p.columns i.index) (column_below p.columns i.index) (h.relaxed.columns i.index) (columns_have x 0 p.columns (tight_rows x p.rows) i.index)
  where
    unit : number_at x i.index ≡ sum_at x (record { column = i.index; coefficient = one_ℚ } ∷ [])
    unit = sym (Q.add-zero _ ∙ Q.one-mul _)

    none : (b : Bool) → IfSome (term i.weight (record { column = i.index; coefficient = one_ℚ } ∷ []) (if b then None else None)) (IsGood p x)
    none true = tt
    none false = tt

    go : (o : Option Column) → IfSome o (λ c. i.index < length p.columns) → IfSome o (λ c. IsWithin c.lower c.upper (number_at x i.index)) → IfSome o (λ c. HasTight x (tight_forms p x) (record { column = 0 + i.index; coefficient = one_ℚ } ∷ []) c.lower c.upper) → IfSome (term i.weight (record { column = i.index; coefficient = one_ℚ } ∷ []) (bound_used i.weight (option_and_then (λ c. c.lower) o) (option_and_then (λ c. c.upper) o))) (IsGood p x)
    go None b k t = none (is_less zero_ℚ i.weight)
    go (Some c) b k t =
        let P : Rational → Type 0 = λ v. IsWithin c.lower c.upper v in
        let R : ℕ → Type 0 = λ n. HasTight x (tight_forms p x) (record { column = n; coefficient = one_ℚ } ∷ []) c.lower c.upper in
        term_good p x i.weight (record { column = i.index; coefficient = one_ℚ } ∷ []) c.lower c.upper (b, tt) (subst P unit k) (subst R (from_first i.index) t)

gathered_good : (p : Problem) (x : List Rational) (f : Item → Option Weighted) (is : List Item) (rest : Option (List Weighted)) → ((i : Item) → IfSome (f i) (IsGood p x)) → IfSome rest (AllGood p x) → IfSome (gathered f is rest) (AllGood p x)
gathered_good p x f [] rest h k = k
gathered_good p x f (i ∷ is) rest h k = go (f i) (gathered f is rest) (h i) (gathered_good p x f is rest h k)
  where
    go : (o : Option Weighted) (r : Option (List Weighted)) → IfSome o (IsGood p x) → IfSome r (AllGood p x) → IfSome (joined o r) (AllGood p x)
    go None r h k = tt
    go (Some t) None h k = tt
    go (Some t) (Some ts) h k = (h, k)

terms_good : (p : Problem) (x : List Rational) (w : Weights) → FormsInRange p → Feasible p x → IfSome (terms p [] [] [] w) (AllGood p x)
terms_good p x w f h =
    gathered_good p x (row_term p) w.rows _ (row_good p x f h)
    (gathered_good p x (column_term p []) w.columns _ (column_good p x h)
    (gathered_good p x (derived_term []) w.derived _ (no_derived (IsGood p x))
    (gathered_good p x (split_term []) w.splits (Some []) (no_split (IsGood p x)) tt)))

-- ---- together

combined_below : (p : Problem) (x : List Rational) (ts : List Weighted) → AllGood p x ts → AllBelow (length p.columns) (combined ts)
combined_below p x [] h = tt
combined_below p x (t ∷ ts) h = below_append (length p.columns) (scaled t.weight t.form) (combined ts) (below_scaled (length p.columns) t.weight t.form h.0.below) (combined_below p x ts h.1)

value_split : (x : List Rational) (t : Weighted) (ts : List Weighted) → sum_at x (combined (t ∷ ts)) ≡ t.weight *ℚ sum_at x t.form +ℚ sum_at x (combined ts)
value_split x t ts = value-append (number_at x) (scaled t.weight t.form) (combined ts) ∙ ap (λ v. v +ℚ sum_at x (combined ts)) (value-scaled (number_at x) t.weight t.form)

bound_at_most : (p : Problem) (x : List Rational) (ts : List Weighted) → AllGood p x ts → combined_bound ts ≤ℚ sum_at x (combined ts)
bound_at_most p x [] h = Q.le_refl zero_ℚ
bound_at_most p x (t ∷ ts) h = le_by _ _ _ _ refl (value_split x t ts) (Q.add-le-add _ _ _ _ h.0.meets (bound_at_most p x ts h.1))

-- where the point's value is the bound, each term is just met
all_spanned : (p : Problem) (x : List Rational) (ts : List Weighted) → AllGood p x ts → sum_at x (combined ts) ≤ℚ combined_bound ts → IsSpanned (tight_forms p x) (combined ts)
all_spanned p x [] h g = nothing_spanned (tight_forms p x) [] (λ k. refl)
all_spanned p x (t ∷ ts) h g =
    let value = t.weight *ℚ sum_at x t.form in
    let bound = t.weight *ℚ t.bound in
    let both : value +ℚ sum_at x (combined ts) ≤ℚ bound +ℚ combined_bound ts = le_by _ _ _ _ (sym (value_split x t ts)) refl g in
    let first : value ≤ℚ bound = le_cancel (sum_at x (combined ts)) _ _ (le_by _ _ _ _ (Q.add_comm _ _) (Q.add_comm _ _) (Q.le_trans _ _ _ both (Q.add-le-add _ _ _ _ (Q.le_refl bound) (bound_at_most p x ts h.1)))) in
    let others : sum_at x (combined ts) ≤ℚ combined_bound ts = le_cancel bound _ _ (Q.le_trans _ _ _ (Q.add-le-add _ _ _ _ h.0.meets (Q.le_refl _)) both) in
    both_spanned (tight_forms p x) (scaled t.weight t.form) (combined ts) (h.0.spanned (Q.le_antisymm _ _ h.0.meets first)) (all_spanned p x ts h.1 others)

-- the objective is spanned by the forms that are tight at the best point
pub record SpansObjective (p : Problem) (x : List Rational) : Type 0 where
  pub form : List Entry
  pub spanned : IsSpanned (tight_forms p x) form
  pub same : (k : ℕ) → k < length p.columns → coefficient_of form k ≡ coefficient_of (scaled (sign_of p.direction) p.objective) k

-- what a leaf's test tells of its terms at the point: their value is the objective's, and the sum of their bounds is no less
record LeafTells (p : Problem) (x : List Rational) (ts : List Weighted) : Type 0 where
  good : AllGood p x ts
  same : (k : ℕ) → k < length p.columns → coefficient_of (combined ts) k ≡ coefficient_of (scaled (sign_of p.direction) p.objective) k
  value : sum_at x (combined ts) ≡ sign_of p.direction *ℚ sum_at x p.objective
  bound : sum_at x (combined ts) ≤ℚ combined_bound ts

shown_tells : (p : Problem) (x : List Rational) (o : Option (List Weighted)) → FormsInRange p → IfSome o (AllGood p x) → shows (length p.columns) o (scaled (sign_of p.direction) p.objective) (sign_of p.direction *ℚ (objective_value p x -ℚ p.constant)) ≡ true → (ts : List Weighted) × (o ≡ Some ts) × LeafTells p x ts
shown_tells p x None f g h = cc
shown_tells p x (Some ts) f g h =
    let both = and_parts (same_form (length p.columns) (combined ts) (scaled (sign_of p.direction) p.objective)) (is_at_most (sign_of p.direction *ℚ (objective_value p x -ℚ p.constant)) (combined_bound ts)) h in
    let same = same_coefficients (length p.columns) (combined ts) (scaled (sign_of p.direction) p.objective) both.0 in
    let value = value_by_coefficients (length p.columns) x (combined ts) (scaled (sign_of p.direction) p.objective) (combined_below p x ts g) (below_scaled (length p.columns) (sign_of p.direction) p.objective f.objective) same ∙ value-scaled (number_at x) (sign_of p.direction) p.objective in
    (ts, refl, record { good = g; same = same; value = value; bound = le_by _ _ _ _ (value ∙ ap (λ v. sign_of p.direction *ℚ v) (sym (back (sum_at x p.objective) p.constant))) refl (at_most_true _ _ both.1) })
  where
    back : (v c : Rational) → (v +ℚ c) -ℚ c ≡ v
    back v c = Q.add_assoc v c (neg_ℚ c) ∙ ap (λ z. v +ℚ z) (Q.add-neg c) ∙ Q.add-zero v

leaf_tells : (p : Problem) (x : List Rational) (v : Version) (w : Weights) → FormsInRange p → Feasible p x → node_passes p v (Some (objective_value p x)) [] [] (Bound w) ≡ true → (ts : List Weighted) × (terms p [] [] [] w ≡ Some ts) × LeafTells p x ts
leaf_tells p x One w f h passes = shown_tells p x (terms p [] [] [] w) f (terms_good p x w f h) passes
leaf_tells p x Two w f h passes = shown_tells p x (terms p [] [] [] w) f (terms_good p x w f h) passes

pub leaf_spans_objective : (p : Problem) (x : List Rational) (v : Version) (w : Weights) → FormsInRange p → Feasible p x → node_passes p v (Some (objective_value p x)) [] [] (Bound w) ≡ true → SpansObjective p x
leaf_spans_objective p x v w f h passes =
    let told = leaf_tells p x v w f h passes in
    record { form = combined told.0; spanned = all_spanned p x told.0 told.2.good told.2.bound; same = told.2.same }

-- the leaf's sum of bounds is what the point makes of the objective
pub leaf_sum_is_value : (p : Problem) (x : List Rational) (v : Version) (w : Weights) (ts : List Weighted) → FormsInRange p → Feasible p x → node_passes p v (Some (objective_value p x)) [] [] (Bound w) ≡ true → terms p [] [] [] w ≡ Some ts → combined_bound ts ≡ sign_of p.direction *ℚ sum_at x p.objective
leaf_sum_is_value p x v w ts f h passes e =
    let told = leaf_tells p x v w f h passes in
    let same : ts ≡ told.0 = inside ts told.0 (sym e ∙ told.1) in
    ap combined_bound same ∙ Q.le_antisymm _ _ (bound_at_most p x told.0 told.2.good) told.2.bound ∙ told.2.value
  where
    inside : (ts us : List Weighted) → Some ts ≡ Some us → ts ≡ us
    inside ts us e = ap (λ o. from_some o) e
      where
        from_some : Option (List Weighted) → List Weighted
        from_some None = []
        from_some (Some vs) = vs
