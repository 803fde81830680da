-- The points of the bound_auxiliary problem of a bound's end are the numbers of the range, each with its point.
use Rattle.std.proofs.Common.{◌≡◌, ◌∙◌, ℕ, zero, suc, ◌<◌, List, [], ◌∷◌, ◌++◌, false, refl, sym, ap, subst, Some, IfSome, slice_get, length, arith}
use mathlib.Core.Path.{ap₂}
use Rattle.std.specs.Prelude.{negsuc}
use Rattle.rational.specs.Rational.{Rational, ◌≤ℚ◌, ◌+ℚ◌, ◌-ℚ◌, ◌*ℚ◌, neg_ℚ, one_ℚ, whole}
use Rattle.rational.proofs.Laws as Q
use Rattle.rational.proofs.Laws.{field, field_units, signs}
use Rattle.milp.specs.Form.{Entry, number_at, sum_at}
use Rattle.milp.specs.Problem.{Column, Row, Problem}
use Rattle.milp.specs.declared.Direction.{Direction}
use Rattle.milp.specs.declared.Direction.TheVariants.{Min, Max}
use Rattle.milp.specs.Points.{IsWithin, Feasible, sign_of, objective_value, IsOptimal}
use Rattle.verdicts.specs.WeightedSums.{scaled, AllBelow}
use Rattle.verdicts.proofs.Laws.{le_by, value-append, value-scaled, minus_one-mul}
use Rattle.ranging.specs.TightBounds.{RowsInRange, FormsInRange}
use Rattle.ranging.specs.BoundRanges.{BoundSide, Lower, Upper, with_side, with_row_bound, UsedBound, IsAsPromised, InBoundRange, HasLeastBound, HasGreatestBound, AllContinuous}
use Rattle.ranging.specs.BoundAuxiliary.{unnamed_auxiliary, without_side, without_row_bound, moved_row, moved_at, value_row, free_column, bound_auxiliary}
use Rattle.ranging.proofs.Order.{apart, not_less, lt_by, neg_less}
use Rattle.ranging.proofs.Meeting.{RowMeets, Meets, not_whole}
use Rattle.ranging.specs.CostAuxiliary.{entry_unless_zero}
use Rattle.ranging.proofs.TightSums.{below_scaled}
use Rattle.ranging.proofs.CostRows.{value-unless_zero}
use Rattle.ranging.proofs.PlaceNames.{unnamed_optimal}

-- ---- a point and one more number

abbrev pub with_last : List Rational → Rational → List Rational
with_last x b = x ++ b ∷ []

number-with_last : (x : List Rational) (b : Rational) (j : ℕ) → j < length x → number_at (with_last x b) j ≡ number_at x j
number-with_last [] b j h = absurd (omega arith)
number-with_last (v ∷ x) b zero h = refl
number-with_last (v ∷ x) b (suc j) h = number-with_last x b j (omega arith)

last-with_last : (x : List Rational) (b : Rational) → number_at (with_last x b) (length x) ≡ b
last-with_last [] b = refl
last-with_last (v ∷ x) b = last-with_last x b

sum-with_last : (x : List Rational) (b : Rational) (es : List Entry) → AllBelow (length x) es → sum_at (with_last x b) es ≡ sum_at x es
sum-with_last x b [] h = refl
sum-with_last x b (e ∷ es) h = rw (number-with_last x b e.column h.0, sum-with_last x b es h.1) refl

-- a form with the number as its last part
sum-ended : (x : List Rational) (b k : Rational) (es : List Entry) → AllBelow (length x) es → sum_at (with_last x b) (es ++ record { column = length x; coefficient = k } ∷ []) ≡ sum_at x es +ℚ k *ℚ b
sum-ended x b k es h = value-append (number_at (with_last x b)) es (record { column = length x; coefficient = k } ∷ []) ∙ ap₂ ◌+ℚ◌ (sum-with_last x b es h) (Q.add-zero _ ∙ ap (λ v. k *ℚ v) (last-with_last x b))

-- ---- rows

row_met_with_last : (x : List Rational) (b : Rational) (r : Row) → AllBelow (length x) r.entries → RowMeets x r → RowMeets (with_last x b) r
unfolding RowMeets
row_met_with_last x b r h m = rw (sum-with_last x b r.entries h) m

row_met_without_last : (x : List Rational) (b : Rational) (r : Row) → AllBelow (length x) r.entries → RowMeets (with_last x b) r → RowMeets x r
unfolding RowMeets
row_met_without_last x b r h m = rw (sum-with_last x b r.entries h) at m

rows_met_with_last : (x : List Rational) (b : Rational) (rs : List Row) → RowsInRange (length x) rs → Meets x rs → Meets (with_last x b) rs
rows_met_with_last x b [] h m i = tt
rows_met_with_last x b (r ∷ rs) h m zero = row_met_with_last x b r h.0 (m zero)
rows_met_with_last x b (r ∷ rs) h m (suc i) = rows_met_with_last x b rs h.1 (λ k. m (suc k)) i

rows_met_without_last : (x : List Rational) (b : Rational) (rs : List Row) → RowsInRange (length x) rs → Meets (with_last x b) rs → Meets x rs
rows_met_without_last x b [] h m i = tt
rows_met_without_last x b (r ∷ rs) h m zero = row_met_without_last x b r h.0 (m zero)
rows_met_without_last x b (r ∷ rs) h m (suc i) = rows_met_without_last x b rs h.1 (λ k. m (suc k)) i

taken_from : (v b e : Rational) → b +ℚ e ≤ℚ v → b ≤ℚ v +ℚ whole (negsuc 0) *ℚ e
taken_from v b e h = le_by _ _ _ _ (sym (Q.add_assoc b e (neg_ℚ e) ∙ ap (λ z. b +ℚ z) (Q.add-neg e) ∙ Q.add-zero b)) (ap (λ z. v +ℚ z) (minus_one-mul e)) (Q.add-le-add _ _ _ _ h (Q.le_refl (neg_ℚ e)))

back_to : (v e : Rational) → (v +ℚ neg_ℚ e) +ℚ e ≡ v
back_to v e = Q.add_assoc v (neg_ℚ e) e ∙ ap (λ z. v +ℚ z) (Q.add_comm (neg_ℚ e) e ∙ Q.add-neg e) ∙ Q.add-zero v

given_back : (v b e : Rational) → b ≤ℚ v +ℚ whole (negsuc 0) *ℚ e → b +ℚ e ≤ℚ v
given_back v b e h = le_by _ _ _ _ refl (sym (back_to v e)) (Q.add-le-add _ _ _ _ (le_by _ _ _ _ refl (ap (λ z. v +ℚ z) (sym (minus_one-mul e))) h) (Q.le_refl e))

taken_below : (v b e : Rational) → v ≤ℚ b +ℚ e → v +ℚ whole (negsuc 0) *ℚ e ≤ℚ b
taken_below v b e h = le_by _ _ _ _ (ap (λ z. v +ℚ z) (minus_one-mul e)) (sym (Q.add_assoc b e (neg_ℚ e) ∙ ap (λ z. b +ℚ z) (Q.add-neg e) ∙ Q.add-zero b)) (Q.add-le-add _ _ _ _ h (Q.le_refl (neg_ℚ e)))

given_below : (v b e : Rational) → v +ℚ whole (negsuc 0) *ℚ e ≤ℚ b → v ≤ℚ b +ℚ e
given_below v b e h = le_by _ _ _ _ (sym (back_to v e)) refl (Q.add-le-add _ _ _ _ (le_by _ _ _ _ (ap (λ z. v +ℚ z) (sym (minus_one-mul e))) refl h) (Q.le_refl e))

moved_row_met : (x : List Rational) (e b : Rational) (s : BoundSide) (r : Row) → AllBelow (length x) r.entries → RowMeets x (with_side s (b +ℚ e) r) → RowMeets (with_last x e) (moved_row (length x) s b r)
unfolding RowMeets
moved_row_met x e b Lower r h m = rw (sum-ended x e (whole (negsuc 0)) r.entries h) record { low = taken_from (sum_at x r.entries) b e m.low; high = tt }
moved_row_met x e b Upper r h m = rw (sum-ended x e (whole (negsuc 0)) r.entries h) record { low = tt; high = taken_below (sum_at x r.entries) b e m.high }

other_side_met : (x : List Rational) (e b : Rational) (s : BoundSide) (r : Row) → AllBelow (length x) r.entries → RowMeets x (with_side s b r) → RowMeets (with_last x e) (without_side s r)
unfolding RowMeets
other_side_met x e b Lower r h m = rw (sum-with_last x e r.entries h) record { low = tt; high = m.high }
other_side_met x e b Upper r h m = rw (sum-with_last x e r.entries h) record { low = m.low; high = tt }

side_met : (x : List Rational) (e b : Rational) (s : BoundSide) (r : Row) → AllBelow (length x) r.entries → RowMeets (with_last x e) (moved_row (length x) s b r) → RowMeets (with_last x e) (without_side s r) → RowMeets x (with_side s (b +ℚ e) r)
unfolding RowMeets
side_met x e b Lower r h m o = record { low = given_back (sum_at x r.entries) b e (rw (sum-ended x e (whole (negsuc 0)) r.entries h) at m.low); high = rw (sum-with_last x e r.entries h) at o.high }
side_met x e b Upper r h m o = record { low = rw (sum-with_last x e r.entries h) at o.low; high = given_below (sum_at x r.entries) b e (rw (sum-ended x e (whole (negsuc 0)) r.entries h) at m.high) }

auxiliary_rows_met : (x : List Rational) (e b : Rational) (s : BoundSide) (i : ℕ) (rs : List Row) → RowsInRange (length x) rs → Meets x (with_row_bound i s (b +ℚ e) rs) → RowMeets (with_last x e) (moved_at (length x) i s b rs) × Meets (with_last x e) (without_row_bound i s rs)
unfolding RowMeets
auxiliary_rows_met x e b s i [] h m = (record { low = tt; high = tt }, λ k. tt)
auxiliary_rows_met x e b s zero (r ∷ rs) h m = (moved_row_met x e b s r h.0 (m zero), λ k. go k)
  where
    go : Meets (with_last x e) (without_side s r ∷ rs)
    go zero = other_side_met x e (b +ℚ e) s r h.0 (m zero)
    go (suc k) = rows_met_with_last x e rs h.1 (λ n. m (suc n)) k
auxiliary_rows_met x e b s (suc i) (r ∷ rs) h m = let rest = auxiliary_rows_met x e b s i rs h.1 (λ n. m (suc n)) in (rest.0, λ k. go rest.1 k)
  where
    go : Meets (with_last x e) (without_row_bound i s rs) → Meets (with_last x e) (r ∷ without_row_bound i s rs)
    go rest zero = row_met_with_last x e r h.0 (m zero)
    go rest (suc k) = rest k

bounded_rows_met : (x : List Rational) (e b : Rational) (s : BoundSide) (i : ℕ) (rs : List Row) → RowsInRange (length x) rs → RowMeets (with_last x e) (moved_at (length x) i s b rs) → Meets (with_last x e) (without_row_bound i s rs) → Meets x (with_row_bound i s (b +ℚ e) rs)
bounded_rows_met x e b s i [] h m o k = tt
bounded_rows_met x e b s zero (r ∷ rs) h m o zero = side_met x e b s r h.0 m (o zero)
bounded_rows_met x e b s zero (r ∷ rs) h m o (suc k) = rows_met_without_last x e rs h.1 (λ n. o (suc n)) k
bounded_rows_met x e b s (suc i) (r ∷ rs) h m o zero = row_met_without_last x e r h.0 (o zero)
bounded_rows_met x e b s (suc i) (r ∷ rs) h m o (suc k) = bounded_rows_met x e b s i rs h.1 m (λ n. o (suc n)) k

-- ---- columns

abbrev Inside : List Rational → List Column → Type 0
Inside x cs = (j : ℕ) → IfSome (slice_get cs j) (λ c. IsWithin c.lower c.upper (number_at x j))

columns_met_with_last : (x : List Rational) (b : Rational) (cs : List Column) → length x ≡ length cs → Inside x cs → Inside (with_last x b) (cs ++ free_column ∷ [])
columns_met_with_last [] b [] e h zero = record { low = tt; high = tt }
columns_met_with_last [] b [] e h (suc j) = tt
columns_met_with_last [] b (c ∷ cs) e h j = absurd (omega arith)
columns_met_with_last (v ∷ x) b [] e h j = absurd (omega arith)
columns_met_with_last (v ∷ x) b (c ∷ cs) e h zero = h zero
columns_met_with_last (v ∷ x) b (c ∷ cs) e h (suc j) = columns_met_with_last x b cs (omega arith) (λ n. h (suc n)) j

columns_met_without_last : (x : List Rational) (b : Rational) (cs : List Column) → length x ≡ length cs → Inside (with_last x b) (cs ++ free_column ∷ []) → Inside x cs
columns_met_without_last x b [] e h j = tt
columns_met_without_last [] b (c ∷ cs) e h j = absurd (omega arith)
columns_met_without_last (v ∷ x) b (c ∷ cs) e h zero = h zero
columns_met_without_last (v ∷ x) b (c ∷ cs) e h (suc j) = columns_met_without_last x b cs (omega arith) (λ n. h (suc n)) j

lengthened_continuous : (cs : List Column) → ((j : ℕ) → IfSome (slice_get cs j) (λ c. c.integer ≡ false)) → (j : ℕ) → IfSome (slice_get (cs ++ free_column ∷ []) j) (λ c. c.integer ≡ false)
lengthened_continuous [] h zero = refl
lengthened_continuous [] h (suc j) = tt
lengthened_continuous (c ∷ cs) h zero = h zero
lengthened_continuous (c ∷ cs) h (suc j) = lengthened_continuous cs (λ n. h (suc n)) j

pub auxiliary_continuous : (p : Problem) (u : UsedBound) (d : Direction) → AllContinuous p → AllContinuous (unnamed_auxiliary p u d)
auxiliary_continuous p u d h = lengthened_continuous p.columns h

length-with_last : {A : Type 0} (x : List A) (b : A) → length (x ++ b ∷ []) ≡ suc (length x)
length-with_last [] b = refl
length-with_last (v ∷ x) b = ap suc (length-with_last x b)

-- ---- the value's row

value_sum : (p : Problem) (u : UsedBound) (x : List Rational) (e : Rational) → FormsInRange p → length x ≡ length p.columns → sum_at (with_last x e) (value_row p u).entries ≡ sign_of p.direction *ℚ sum_at x p.objective +ℚ neg_ℚ u.weight *ℚ e
value_sum p u x e f s =
    value-append (number_at (with_last x e)) (scaled (sign_of p.direction) p.objective) (entry_unless_zero (length p.columns) (neg_ℚ u.weight) [])
    ∙ ap₂ ◌+ℚ◌
    (sum-with_last x e (scaled (sign_of p.direction) p.objective) (below_scaled (length x) (sign_of p.direction) p.objective (rw (← s) at f.objective)) ∙ value-scaled (number_at x) (sign_of p.direction) p.objective)
    (value-unless_zero (with_last x e) (length p.columns) (neg_ℚ u.weight) [] ∙ Q.add-zero _ ∙ ap (λ v. neg_ℚ u.weight *ℚ v) (ap (number_at (with_last x e)) (sym s) ∙ last-with_last x e))

moved_by : (b e : Rational) → (b +ℚ e) -ℚ b ≡ e
moved_by b e = Q.add_comm (b +ℚ e) (neg_ℚ b) ∙ Q.cancel_right b e

promise_in_row : (v r w b e : Rational) → v ≡ r +ℚ w *ℚ ((b +ℚ e) -ℚ b) → v +ℚ neg_ℚ w *ℚ e ≡ r
promise_in_row v r w b e h = ap₂ ◌+ℚ◌ (h ∙ ap (λ z. r +ℚ w *ℚ z) (moved_by b e)) (Q.neg_mul w e) ∙ Q.add_assoc r (w *ℚ e) _ ∙ ap (λ z. r +ℚ z) (Q.add-neg (w *ℚ e)) ∙ Q.add-zero r

row_in_promise : (v r w b e : Rational) → v +ℚ neg_ℚ w *ℚ e ≡ r → v ≡ r +ℚ w *ℚ ((b +ℚ e) -ℚ b)
row_in_promise v r w b e h = sym (back_to v (w *ℚ e)) ∙ ap (λ z. z +ℚ w *ℚ e) (ap (λ z. v +ℚ z) (sym (Q.neg_mul w e)) ∙ h) ∙ ap (λ z. r +ℚ w *ℚ z) (sym (moved_by b e))

value_row_met : (p : Problem) (u : UsedBound) (e : Rational) (x : List Rational) → FormsInRange p → length x ≡ length p.columns → sign_of p.direction *ℚ sum_at x p.objective ≡ u.total +ℚ u.weight *ℚ ((u.bound +ℚ e) -ℚ u.bound) → RowMeets (with_last x e) (value_row p u)
unfolding RowMeets
value_row_met p u e x f s v =
    let same = value_sum p u x e f s ∙ promise_in_row _ u.total u.weight u.bound e v in
    record { low = le_by _ _ _ _ refl same (Q.le_refl _); high = le_by _ _ _ _ same refl (Q.le_refl _) }

value_promised : (p : Problem) (u : UsedBound) (e : Rational) (x : List Rational) → FormsInRange p → length x ≡ length p.columns → RowMeets (with_last x e) (value_row p u) → sign_of p.direction *ℚ sum_at x p.objective ≡ u.total +ℚ u.weight *ℚ ((u.bound +ℚ e) -ℚ u.bound)
unfolding RowMeets
value_promised p u e x f s m = row_in_promise _ u.total u.weight u.bound e (sym (value_sum p u x e f s) ∙ Q.le_antisymm _ _ m.high m.low)

-- ---- the points of the auxiliary problem are points with a moved bound, and its distance

rows_into_auxiliary : (p : Problem) (u : UsedBound) (d : Direction) (e : Rational) (x : List Rational) → FormsInRange p → length x ≡ length p.columns → RowMeets (with_last x e) (value_row p u) → Meets x (with_row_bound u.row u.side (u.bound +ℚ e) p.rows) → Meets (with_last x e) (unnamed_auxiliary p u d).rows
rows_into_auxiliary p u d e x f s v m =
    let P : ℕ → Type 0 = λ n. RowMeets (with_last x e) (moved_at n u.row u.side u.bound p.rows) in
    let all = auxiliary_rows_met x e u.bound u.side u.row p.rows (rw (← s) at f.rows) m in
    go v (subst P s all.0) all.1
  where
    go : RowMeets (with_last x e) (value_row p u) → RowMeets (with_last x e) (moved_at (length p.columns) u.row u.side u.bound p.rows) → Meets (with_last x e) (without_row_bound u.row u.side p.rows) → Meets (with_last x e) (unnamed_auxiliary p u d).rows
    go v m o zero = v
    go v m o (suc zero) = m
    go v m o (suc (suc i)) = o i

rows_from_auxiliary : (p : Problem) (u : UsedBound) (d : Direction) (e : Rational) (x : List Rational) → FormsInRange p → length x ≡ length p.columns → Meets (with_last x e) (unnamed_auxiliary p u d).rows → Meets x (with_row_bound u.row u.side (u.bound +ℚ e) p.rows)
rows_from_auxiliary p u d e x f s m =
    let P : ℕ → Type 0 = λ n. RowMeets (with_last x e) (moved_at n u.row u.side u.bound p.rows) in
    bounded_rows_met x e u.bound u.side u.row p.rows (rw (← s) at f.rows) (subst P (sym s) (m (suc zero))) (λ i. m (suc (suc i)))

pub point_of_auxiliary : (p : Problem) (u : UsedBound) (d : Direction) (e : Rational) (x : List Rational) → FormsInRange p → AllContinuous p → IsAsPromised p u (u.bound +ℚ e) x → Feasible (unnamed_auxiliary p u d) (with_last x e)
unfolding RowMeets
point_of_auxiliary p u d e x f n h =
    let s : length x ≡ length p.columns = h.feasible.relaxed.size in
    record {
      relaxed = record {
        size = length-with_last x e ∙ ap suc s ∙ sym (length-with_last p.columns free_column);
        columns = columns_met_with_last x e p.columns s h.feasible.relaxed.columns;
        rows = rows_into_auxiliary p u d e x f s (value_row_met p u e x f s h.value) h.feasible.relaxed.rows;
      };
      integers = λ j. not_whole (slice_get (p.columns ++ free_column ∷ []) j) (number_at (with_last x e) j) (lengthened_continuous p.columns n j);
    }

point_as_promised : (p : Problem) (u : UsedBound) (d : Direction) (e : Rational) (x : List Rational) → FormsInRange p → AllContinuous p → length x ≡ length p.columns → Feasible (unnamed_auxiliary p u d) (with_last x e) → IsAsPromised p u (u.bound +ℚ e) x
unfolding RowMeets
point_as_promised p u d e x f n s h = record {
  feasible = record {
    relaxed = record {
      size = s;
      columns = columns_met_without_last x e p.columns s h.relaxed.columns;
      rows = rows_from_auxiliary p u d e x f s h.relaxed.rows;
    };
    integers = λ j. not_whole (slice_get p.columns j) (number_at x j) (n j);
  };
  value = value_promised p u e x f s (h.relaxed.rows zero);
}

parted : (n : ℕ) (z : List Rational) → length z ≡ suc n → (x : List Rational) × (length x ≡ n) × (z ≡ with_last x (number_at z n))
parted n [] e = absurd (omega arith)
parted zero (v ∷ []) e = ([], refl, refl)
parted zero (v ∷ w ∷ z) e = absurd (omega arith)
parted (suc n) (v ∷ z) e = let rest = parted n z (omega arith) in (v ∷ rest.0, ap suc rest.1, ap (λ y. v ∷ y) rest.2)

pub point_in_range : (p : Problem) (u : UsedBound) (d : Direction) (z : List Rational) → FormsInRange p → AllContinuous p → Feasible (unnamed_auxiliary p u d) z → InBoundRange p u (u.bound +ℚ number_at z (length p.columns))
point_in_range p u d z f n h =
    let cut = parted (length p.columns) z (h.relaxed.size ∙ length-with_last p.columns free_column) in
    let P : List Rational → Type 0 = λ y. Feasible (unnamed_auxiliary p u d) y in
    (cut.0, point_as_promised p u d (number_at z (length p.columns)) cut.0 f n cut.1 (subst P cut.2 h))

auxiliary_value : (p : Problem) (u : UsedBound) (d : Direction) (z : List Rational) → objective_value (unnamed_auxiliary p u d) z ≡ number_at z (length p.columns)
auxiliary_value p u d z = Q.add-zero _ ∙ Q.add-zero _ ∙ Q.one-mul _

-- each number of the range is a point of the auxiliary problem, whose value is the distance
number_of_range_into : (p : Problem) (u : UsedBound) (d : Direction) (b : Rational) → FormsInRange p → AllContinuous p → InBoundRange p u b → (y : List Rational) × Feasible (unnamed_auxiliary p u d) y × (objective_value (unnamed_auxiliary p u d) y ≡ b -ℚ u.bound)
number_of_range_into p u d b f n r =
    let P : Rational → Type 0 = λ c. IsAsPromised p u c r.0 in (
      with_last r.0 (b -ℚ u.bound),
      point_of_auxiliary p u d (b -ℚ u.bound) r.0 f n (subst P (apart u.bound b) r.1),
      auxiliary_value p u d (with_last r.0 (b -ℚ u.bound)) ∙ ap (number_at (with_last r.0 (b -ℚ u.bound))) (sym r.1.feasible.relaxed.size) ∙ last-with_last r.0 (b -ℚ u.bound),
    )

-- the least point shows the lower end, and the greatest the upper one
pub least_shows : (p : Problem) (u : UsedBound) (z : List Rational) → FormsInRange p → AllContinuous p → IsOptimal (bound_auxiliary p u Min) z → HasLeastBound p u (Some (u.bound +ℚ number_at z (length p.columns)))
least_shows p u z f n named =
    let h = unnamed_optimal (unnamed_auxiliary p u Min) z named in (
      point_in_range p u Min z f n h.feasible,
      λ b r.
          let into = number_of_range_into p u Min b f n r in
          le_by _ _ _ _ refl (apart u.bound b) (Q.add-le-add _ _ _ _ (Q.le_refl u.bound) (not_less _ _ (λ l.
          h.best into.0 into.1 (lt_by (ap (λ v. one_ℚ *ℚ v) into.2 ∙ Q.one-mul _) (ap (λ v. one_ℚ *ℚ v) (auxiliary_value p u Min z) ∙ Q.one-mul _) l)))),
    )

pub greatest_shows : (p : Problem) (u : UsedBound) (z : List Rational) → FormsInRange p → AllContinuous p → IsOptimal (bound_auxiliary p u Max) z → HasGreatestBound p u (Some (u.bound +ℚ number_at z (length p.columns)))
greatest_shows p u z f n named =
    let h = unnamed_optimal (unnamed_auxiliary p u Max) z named in (
      point_in_range p u Max z f n h.feasible,
      λ b r.
          let into = number_of_range_into p u Max b f n r in
          le_by _ _ _ _ (apart u.bound b) refl (Q.add-le-add _ _ _ _ (Q.le_refl u.bound) (not_less _ _ (λ l.
          h.best into.0 into.1 (lt_by (ap (λ v. whole (negsuc 0) *ℚ v) into.2 ∙ minus_one-mul _) (ap (λ v. whole (negsuc 0) *ℚ v) (auxiliary_value p u Max z) ∙ minus_one-mul _) (neg_less l))))),
    )
