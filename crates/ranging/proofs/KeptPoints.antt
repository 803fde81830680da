-- From a point along a direction that nears no tight bound, up to a first bound.
use Rattle.std.proofs.Common.{◌≡◌, ◌∙◌, ℕ, zero, suc, ◌+◌, List, [], ◌∷◌, Bool, true, false, refl, sym, ap, subst, Option, Some, None, IfSome, slice_get, length, if◌then◌else◌, inl, inr}
use mathlib.Core.Path.{ap₂}
use Rattle.std.specs.Prelude.{negsuc}
use Rattle.rational.specs.Rational.{Rational, ◌≤ℚ◌, ◌<ℚ◌, ◌+ℚ◌, ◌-ℚ◌, ◌*ℚ◌, neg_ℚ, inv_ℚ, zero_ℚ, one_ℚ, whole}
use Rattle.rational.specs.Compare.{is_same}
use Rattle.rational.proofs.Laws as Q
use Rattle.rational.proofs.Laws.{field, signs, true_same, less_true}
use Rattle.milp.specs.Form.{Entry, number_at, sum_at}
use Rattle.milp.specs.Problem.{Column, Row, Problem}
use Rattle.milp.specs.Points.{IsWithin, Feasible, sign_of}
use Rattle.verdicts.specs.WeightedSums.{scaled}
use Rattle.verdicts.proofs.Laws.{le_by, neg_le, neg-zero, minus_one-mul, value-scaled}
use Rattle.ranging.specs.CostRanges.{with_cost, InCostRange, signed_number, IsAsGood, HasLowestCost, HasHighestCost}
use Rattle.ranging.specs.BoundRanges.{AllContinuous}
use Rattle.ranging.specs.TightBounds.{if_tight, tight_at, tight_rows, tight_columns, tight_forms, NoneFalls, IsEndDirection}
use Rattle.ranging.proofs.Order.{le_or_less, le_or_le, difference_less, apart, lt_by, neg_less, product_above, le_cancel}
use Rattle.ranging.proofs.Mixtures.{mixed_size, mixed_number, mixed_sum}
use Rattle.ranging.proofs.Directions.{along, steps}
use Rattle.ranging.proofs.Meeting.{not_whole}
use Rattle.ranging.proofs.Places.{place_here, place_behind, from_first}

-- from 0 to some number above 0 the fact holds
pub record Room (P : Rational → Type 0) : Type 0 where
  pub most : Rational
  pub some : zero_ℚ <ℚ most
  pub holds : (q : Rational) → zero_ℚ ≤ℚ q → q ≤ℚ most → P q

one_above : zero_ℚ <ℚ one_ℚ
one_above = less_true zero_ℚ one_ℚ refl

all_room : (P : Rational → Type 0) → ((q : Rational) → zero_ℚ ≤ℚ q → P q) → Room P
all_room P h = record { most = one_ℚ; some = one_above; holds = λ q g l. h q g }

both_room : (P R : Rational → Type 0) → Room P → Room R → Room (λ q. P q × R q)
both_room P R g h = elim (le_or_le g.most h.most) [
  | inl k ↦ record { most = g.most; some = g.some; holds = λ q l m. (g.holds q l m, h.holds q l (Q.le_trans _ _ _ m k)) }
  | inr k ↦ record { most = h.most; some = h.some; holds = λ q l m. (g.holds q l (Q.le_trans _ _ _ m k), h.holds q l m) }
]

map_room : (P R : Rational → Type 0) → ((q : Rational) → P q → R q) → Room P → Room R
map_room P R f g = record { most = g.most; some = g.some; holds = λ q l m. f q (g.holds q l m) }

-- ---- one bound

-- room of d above 0, at a speed of m above 0
room_to_reach : (d m : Rational) → zero_ℚ <ℚ d → zero_ℚ <ℚ m → Room (λ q. q *ℚ m ≤ℚ d)
room_to_reach d m h g = record {
  most = (d -ℚ zero_ℚ) *ℚ inv_ℚ m;
  some = above;
  holds = λ q l k. le_by _ _ _ _ (Q.mul_comm q m) (sym at_most) (Q.mul-le-mul m q ((d -ℚ zero_ℚ) *ℚ inv_ℚ m) (Q.le_of_lt _ _ g) k);
}
  where
    same : d -ℚ zero_ℚ ≡ d
    same = ap (λ z. d +ℚ z) neg-zero ∙ Q.add-zero d

    at_most : m *ℚ ((d -ℚ zero_ℚ) *ℚ inv_ℚ m) ≡ d
    at_most = Q.mul_comm m _ ∙ steps zero_ℚ d m g ∙ same

    above : zero_ℚ <ℚ (d -ℚ zero_ℚ) *ℚ inv_ℚ m
    above = elim (le_or_less ((d -ℚ zero_ℚ) *ℚ inv_ℚ m) zero_ℚ) [
      | inl k ↦ absurd (Q.lt-not-le zero_ℚ d h (le_by _ _ _ _ (sym at_most) (sym (Q.mul-zero m)) (Q.mul-le-mul m _ zero_ℚ (Q.le_of_lt _ _ g) k)))
      | inr k ↦ k
    ]

not_below_along : (q v d : Rational) → zero_ℚ ≤ℚ q → zero_ℚ ≤ℚ d → v ≤ℚ one_ℚ *ℚ v +ℚ q *ℚ d
not_below_along q v d g h = le_by _ _ _ _ (sym (Q.add-zero v)) refl (Q.add-le-add _ _ _ _ (le_by _ _ _ _ refl (Q.one-mul v) (Q.le_refl v)) (le_by _ _ _ _ (sym (Q.mul-zero q)) refl (Q.mul-le-mul q zero_ℚ d g h)))

not_above_along : (q v d : Rational) → zero_ℚ ≤ℚ q → d ≤ℚ zero_ℚ → one_ℚ *ℚ v +ℚ q *ℚ d ≤ℚ v
not_above_along q v d g h = le_by _ _ _ _ refl (sym (Q.add-zero v)) (Q.add-le-add _ _ _ _ (le_by _ _ _ _ (Q.one-mul v) refl (Q.le_refl v)) (le_by _ _ _ _ refl (sym (Q.mul-zero q)) (Q.mul-le-mul q d zero_ℚ g h)))

negated : (q d : Rational) → neg_ℚ (q *ℚ neg_ℚ d) ≡ q *ℚ d
negated q d = ap neg_ℚ (Q.mul_neg q d) ∙ Q.neg_neg (q *ℚ d)

low_room : (v d : Rational) (o : Option Rational) → IfSome o (λ b. b ≤ℚ v) → IfSome o (λ b. b ≡ v → zero_ℚ ≤ℚ d) → Room (λ q. IfSome o (λ b. b ≤ℚ one_ℚ *ℚ v +ℚ q *ℚ d))
low_room v d None h k = all_room _ (λ q l. tt)
low_room v d (Some b) h k = elim (le_or_less zero_ℚ d) [
  | inl up ↦ all_room _ (λ q l. Q.le_trans _ _ _ h (not_below_along q v d l up))
  | inr down ↦ elim (le_or_less v b) [
    | inl tight ↦ absurd (Q.lt-not-le _ _ down (k (Q.le_antisymm b v h tight)))
    | inr loose ↦ map_room (λ q. q *ℚ neg_ℚ d ≤ℚ v -ℚ b) (λ q. b ≤ℚ one_ℚ *ℚ v +ℚ q *ℚ d) keeps (room_to_reach (v -ℚ b) (neg_ℚ d) (difference_less b v loose) (lt_by (sym neg-zero) refl (neg_less down)))
  ]
]
  where
    keeps : (q : Rational) → q *ℚ neg_ℚ d ≤ℚ v -ℚ b → b ≤ℚ one_ℚ *ℚ v +ℚ q *ℚ d
    keeps q m = le_by _ _ _ _ (back v b) refl (Q.add-le-add _ _ _ _ (le_by _ _ _ _ refl (Q.one-mul v) (Q.le_refl v)) (le_by _ _ _ _ refl (sym (negated q d)) (neg_le _ _ m)))
      where
        turned : (v b : Rational) → neg_ℚ (v -ℚ b) ≡ neg_ℚ v +ℚ b
        turned v b = simp signs

        back : (v b : Rational) → b ≡ v +ℚ neg_ℚ (v -ℚ b)
        back v b = sym (ap (λ z. v +ℚ z) (turned v b) ∙ Q.cancel_left v b)

high_room : (v d : Rational) (o : Option Rational) → IfSome o (λ b. v ≤ℚ b) → IfSome o (λ b. b ≡ v → d ≤ℚ zero_ℚ) → Room (λ q. IfSome o (λ b. one_ℚ *ℚ v +ℚ q *ℚ d ≤ℚ b))
high_room v d None h k = all_room _ (λ q l. tt)
high_room v d (Some b) h k = elim (le_or_less d zero_ℚ) [
  | inl down ↦ all_room _ (λ q l. Q.le_trans _ _ _ (not_above_along q v d l down) h)
  | inr up ↦ elim (le_or_less b v) [
    | inl tight ↦ absurd (Q.lt-not-le _ _ up (k (Q.le_antisymm b v tight h)))
    | inr loose ↦ map_room (λ q. q *ℚ d ≤ℚ b -ℚ v) (λ q. one_ℚ *ℚ v +ℚ q *ℚ d ≤ℚ b) keeps (room_to_reach (b -ℚ v) d (difference_less v b loose) up)
  ]
]
  where
    keeps : (q : Rational) → q *ℚ d ≤ℚ b -ℚ v → one_ℚ *ℚ v +ℚ q *ℚ d ≤ℚ b
    keeps q m = le_by _ _ _ _ refl (apart v b) (Q.add-le-add _ _ _ _ (le_by _ _ _ _ (Q.one-mul v) refl (Q.le_refl v)) m)

within_room : (v d : Rational) (lower upper : Option Rational) → IsWithin lower upper v → IfSome lower (λ b. b ≡ v → zero_ℚ ≤ℚ d) → IfSome upper (λ b. b ≡ v → d ≤ℚ zero_ℚ) → Room (λ q. IsWithin lower upper (one_ℚ *ℚ v +ℚ q *ℚ d))
within_room v d lower upper h g k = map_room _ _ (λ q both. record { low = both.0; high = both.1 }) (both_room _ _ (low_room v d lower h.low g) (high_room v d upper h.high k))

-- ---- all bounds

tight_does_not_fall : (d : List Rational) (o : Option Rational) (v : Rational) (form : List Entry) (rest : List (List Entry)) → NoneFalls d (if_tight o v form rest) → IfSome o (λ b. b ≡ v → zero_ℚ ≤ℚ sum_at d form) × NoneFalls d rest
tight_does_not_fall d None v form rest h = (tt, h)
tight_does_not_fall d (Some b) v form rest h = go (is_same b v) refl h
  where
    go : (t : Bool) → is_same b v ≡ t → NoneFalls d (if t then form ∷ rest else rest) → (b ≡ v → zero_ℚ ≤ℚ sum_at d form) × NoneFalls d rest
    go true e k = (λ g. k.0, k.1)
    go false e k = (λ g. let s = true_same b v g in let c = sym s ∙ e in cc, k)

upper_does_not_rise : (d : List Rational) (o : Option Rational) (v : Rational) (form : List Entry) → IfSome o (λ b. b ≡ v → zero_ℚ ≤ℚ sum_at d (scaled (whole (negsuc 0)) form)) → IfSome o (λ b. b ≡ v → sum_at d form ≤ℚ zero_ℚ)
upper_does_not_rise d None v form h = tt
upper_does_not_rise d (Some b) v form h = λ e. le_by _ _ _ _ (sym (Q.neg_neg _)) (sym neg-zero) (neg_le _ _ (le_by _ _ _ _ refl (sym (value-scaled (number_at d) (whole (negsuc 0)) form ∙ minus_one-mul _)) (h e)))

form_room : (x d : List Rational) (form : List Entry) (lower upper : Option Rational) (rest : List (List Entry)) → IsWithin lower upper (sum_at x form) → NoneFalls d (tight_at x form lower upper rest) → Room (λ q. IsWithin lower upper (one_ℚ *ℚ sum_at x form +ℚ q *ℚ sum_at d form)) × NoneFalls d rest
form_room x d form lower upper rest h a =
    let low = tight_does_not_fall d lower (sum_at x form) form (if_tight upper (sum_at x form) (scaled (whole (negsuc 0)) form) rest) a in
    let high = tight_does_not_fall d upper (sum_at x form) (scaled (whole (negsuc 0)) form) rest low.1 in
    (within_room (sum_at x form) (sum_at d form) lower upper h low.0 (upper_does_not_rise d upper (sum_at x form) form high.0), high.1)

abbrev RowsMeet : (List Entry → Rational) → List Row → Type 0
RowsMeet v rs = (i : ℕ) → IfSome (slice_get rs i) (λ r. IsWithin r.lower r.upper (v r.entries))

rows_room : (x d : List Rational) (rs : List Row) → RowsMeet (sum_at x) rs → NoneFalls d (tight_rows x rs) → Room (λ q. RowsMeet (λ es. one_ℚ *ℚ sum_at x es +ℚ q *ℚ sum_at d es) rs)
rows_room x d [] h a = all_room _ (λ q l i. tt)
rows_room x d (r ∷ rs) h a =
    let first = form_room x d r.entries r.lower r.upper (tight_rows x rs) (h zero) a in
    map_room _ _ (λ q both. go q both.0 both.1) (both_room _ _ first.0 (rows_room x d rs (λ n. h (suc n)) first.1))
  where
    go : (q : Rational) → IsWithin r.lower r.upper (one_ℚ *ℚ sum_at x r.entries +ℚ q *ℚ sum_at d r.entries) → RowsMeet (λ es. one_ℚ *ℚ sum_at x es +ℚ q *ℚ sum_at d es) rs → RowsMeet (λ es. one_ℚ *ℚ sum_at x es +ℚ q *ℚ sum_at d es) (r ∷ rs)
    go q f rest zero = f
    go q f rest (suc i) = rest i

-- the numbers of the columns from place `at` on
abbrev ColumnsMeet : (ℕ → Rational) → ℕ → List Column → Type 0
ColumnsMeet v at cs = (i : ℕ) → IfSome (slice_get cs i) (λ c. IsWithin c.lower c.upper (v (at + i)))

single : (z : List Rational) (j : ℕ) → sum_at z (record { column = j; coefficient = one_ℚ } ∷ []) ≡ number_at z j
single z j = Q.add-zero _ ∙ Q.one-mul _

columns_room : (x d : List Rational) (at : ℕ) (cs : List Column) (rest : List (List Entry)) → ColumnsMeet (number_at x) at cs → NoneFalls d (tight_columns x at cs rest) → Room (λ q. ColumnsMeet (λ j. one_ℚ *ℚ number_at x j +ℚ q *ℚ number_at d j) at cs) × NoneFalls d rest
columns_room x d at [] rest h a = (all_room _ (λ q l i. tt), a)
columns_room x d at (c ∷ cs) rest h a =
    let P : Rational → Type 0 = λ v. IsWithin c.lower c.upper v in
    let here : number_at x (at + 0) ≡ sum_at x (record { column = at; coefficient = one_ℚ } ∷ []) = ap (number_at x) (place_here at) ∙ sym (single x at) in
    let first = form_room x d (record { column = at; coefficient = one_ℚ } ∷ []) c.lower c.upper (tight_columns x (suc at) cs rest) (subst P here (h zero)) a in
    let more = columns_room x d (suc at) cs rest (λ i. let R : ℕ → Type 0 = λ k. IfSome (slice_get cs i) (λ e. IsWithin e.lower e.upper (number_at x k)) in subst R (sym (place_behind at i)) (h (suc i))) first.1 in
    (map_room _ _ (λ q both. go q both.0 both.1) (both_room _ _ first.0 more.0), more.1)
  where
    there : (q : Rational) → one_ℚ *ℚ sum_at x (record { column = at; coefficient = one_ℚ } ∷ []) +ℚ q *ℚ sum_at d (record { column = at; coefficient = one_ℚ } ∷ []) ≡ one_ℚ *ℚ number_at x (at + 0) +ℚ q *ℚ number_at d (at + 0)
    there q = ap₂ (λ u v. one_ℚ *ℚ u +ℚ q *ℚ v) (single x at ∙ sym (ap (number_at x) (place_here at))) (single d at ∙ sym (ap (number_at d) (place_here at)))

    go : (q : Rational) → IsWithin c.lower c.upper (one_ℚ *ℚ sum_at x (record { column = at; coefficient = one_ℚ } ∷ []) +ℚ q *ℚ sum_at d (record { column = at; coefficient = one_ℚ } ∷ [])) → ColumnsMeet (λ j. one_ℚ *ℚ number_at x j +ℚ q *ℚ number_at d j) (suc at) cs → ColumnsMeet (λ j. one_ℚ *ℚ number_at x j +ℚ q *ℚ number_at d j) at (c ∷ cs)
    go q f rest zero = let P : Rational → Type 0 = λ v. IsWithin c.lower c.upper v in subst P (there q) f
    go q f rest (suc i) = let R : ℕ → Type 0 = λ k. IfSome (slice_get cs i) (λ e. IsWithin e.lower e.upper (one_ℚ *ℚ number_at x k +ℚ q *ℚ number_at d k)) in subst R (sym (sym (place_behind at i))) (rest i)

-- a feasible point along the direction
pub kept_point : (p : Problem) (x d : List Rational) → AllContinuous p → Feasible p x → length x ≡ length d → NoneFalls d (tight_forms p x) → (q : Rational) × (zero_ℚ <ℚ q) × Feasible p (along q x d)
kept_point p x d n f e a =
    let columns = columns_room x d 0 p.columns (tight_rows x p.rows) (λ i. let R : ℕ → Type 0 = λ k. IfSome (slice_get p.columns i) (λ c. IsWithin c.lower c.upper (number_at x k)) in subst R (sym (from_first i)) (f.relaxed.columns i)) a in
    let room = both_room _ _ columns.0 (rows_room x d p.rows f.relaxed.rows columns.1) in
    let there = room.holds room.most (Q.le_of_lt _ _ room.some) (Q.le_refl room.most) in (
      room.most,
      room.some,
      record {
        relaxed = record {
          size = mixed_size one_ℚ room.most x d e ∙ f.relaxed.size;
          columns = λ j. let R : ℕ → Type 0 = λ k. IfSome (slice_get p.columns j) (λ c. IsWithin c.lower c.upper (one_ℚ *ℚ number_at x k +ℚ room.most *ℚ number_at d k)) in
              let P : Rational → Type 0 = λ v. IfSome (slice_get p.columns j) (λ c. IsWithin c.lower c.upper v) in
              subst P (sym (mixed_number one_ℚ room.most x d j e)) (subst R (sym (sym (from_first j))) (there.0 j));
          rows = λ i. row room.most (slice_get p.rows i) (there.1 i);
        };
        integers = λ j. not_whole (slice_get p.columns j) (number_at (along room.most x d) j) (n j);
      },
    )
  where
    row : (q : Rational) (o : Option Row) → IfSome o (λ r. IsWithin r.lower r.upper (one_ℚ *ℚ sum_at x r.entries +ℚ q *ℚ sum_at d r.entries)) → IfSome o (λ r. IsWithin r.lower r.upper (sum_at (along q x d) r.entries))
    row q None h = tt
    row q (Some r) h = rw (mixed_sum one_ℚ q x d r.entries e) h

-- ---- the point is as good at the end, and better beyond it

as_good : (p : Problem) (x d : List Rational) (j : ℕ) (t q : Rational) → length x ≡ length d → zero_ℚ <ℚ q → sign_of p.direction *ℚ sum_at d (with_cost p j t).objective ≤ℚ zero_ℚ → IsAsGood p j t (along q x d) x
as_good p x d j t q e h w = le_by _ _ _ _ (ap (λ v. sign_of p.direction *ℚ (v +ℚ p.constant)) (mixed_sum one_ℚ q x d (with_cost p j t).objective e) ∙ parts (sign_of p.direction) (sum_at x (with_cost p j t).objective) (sum_at d (with_cost p j t).objective) q p.constant) (sym (Q.add-zero _))
    (Q.add-le-add _ _ _ _ (Q.le_refl _) (le_by _ _ _ _ refl (sym (Q.mul-zero q)) (Q.mul-le-mul q _ zero_ℚ (Q.le_of_lt _ _ h) w)))
  where
    apart_of : (s v u q c : Rational) → s *ℚ ((v +ℚ q *ℚ u) +ℚ c) ≡ s *ℚ (v +ℚ c) +ℚ q *ℚ (s *ℚ u)
    apart_of s v u q c = simp field

    parts : (s v u q c : Rational) → s *ℚ ((one_ℚ *ℚ v +ℚ q *ℚ u) +ℚ c) ≡ s *ℚ (v +ℚ c) +ℚ q *ℚ (s *ℚ u)
    parts s v u q c = ap (λ z. s *ℚ ((z +ℚ q *ℚ u) +ℚ c)) (Q.one-mul v) ∙ apart_of s v u q c

signed_along : (p : Problem) (x d : List Rational) (j : ℕ) (q : Rational) → length x ≡ length d → signed_number p j (along q x d) ≡ signed_number p j x +ℚ q *ℚ signed_number p j d
signed_along p x d j q e = ap (λ v. sign_of p.direction *ℚ v) (mixed_number one_ℚ q x d j e) ∙ parts (sign_of p.direction) (number_at x j) (number_at d j) q
  where
    apart_of : (s v u q : Rational) → s *ℚ (v +ℚ q *ℚ u) ≡ s *ℚ v +ℚ q *ℚ (s *ℚ u)
    apart_of s v u q = simp field

    parts : (s v u q : Rational) → s *ℚ (one_ℚ *ℚ v +ℚ q *ℚ u) ≡ s *ℚ v +ℚ q *ℚ (s *ℚ u)
    parts s v u q = ap (λ z. s *ℚ (z +ℚ q *ℚ u)) (Q.one-mul v) ∙ apart_of s v u q

more_after_step : (v q u : Rational) → zero_ℚ <ℚ q → zero_ℚ <ℚ u → v <ℚ v +ℚ q *ℚ u
more_after_step v q u h g = elim (le_or_less (v +ℚ q *ℚ u) v) [
  | inl k ↦ absurd (product_above q u h g (le_cancel v _ _ (le_by _ _ _ _ refl (Q.add-zero v) k)))
  | inr k ↦ k
]

less_after_step : (v q u : Rational) → zero_ℚ <ℚ q → u <ℚ zero_ℚ → v +ℚ q *ℚ u <ℚ v
less_after_step v q u h g = elim (le_or_less v (v +ℚ q *ℚ u)) [
  | inl k ↦ absurd (product_above q (neg_ℚ u) h (lt_by (sym neg-zero) refl (neg_less g)) (le_by _ _ _ _ (Q.mul_neg q u) (sym neg-zero) (neg_le _ _ (le_cancel v _ _ (le_by _ _ _ _ (Q.add-zero v) refl k)))))
  | inr k ↦ k
]

-- a direction of a lower end goes up in the column, and one of an upper end down
pub direction_shows_lowest : (p : Problem) (x d : List Rational) (j : ℕ) (t step : Rational) → AllContinuous p → InCostRange p x j t → Feasible p x → IsEndDirection p x j t step d → zero_ℚ <ℚ step → HasLowestCost p x j (Some t)
direction_shows_lowest p x d j t step n r f h u =
    let e : length x ≡ length d = f.relaxed.size ∙ sym h.size in
    let kept = kept_point p x d n f e h.nears_none in
    (r, (along kept.0 x d, kept.2, as_good p x d j t kept.0 e kept.1 h.no_worse, lt_by refl (signed_along p x d j kept.0 e) (more_after_step (signed_number p j x) kept.0 (signed_number p j d) kept.1 (lt_by refl h.moves u))))

pub direction_shows_highest : (p : Problem) (x d : List Rational) (j : ℕ) (t step : Rational) → AllContinuous p → InCostRange p x j t → Feasible p x → IsEndDirection p x j t step d → step <ℚ zero_ℚ → HasHighestCost p x j (Some t)
direction_shows_highest p x d j t step n r f h u =
    let e : length x ≡ length d = f.relaxed.size ∙ sym h.size in
    let kept = kept_point p x d n f e h.nears_none in
    (r, (along kept.0 x d, kept.2, as_good p x d j t kept.0 e kept.1 h.no_worse, lt_by (signed_along p x d j kept.0 e) refl (less_after_step (signed_number p j x) kept.0 (signed_number p j d) kept.1 (lt_by h.moves refl u))))
