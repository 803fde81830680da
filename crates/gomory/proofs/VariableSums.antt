-- Sums over variables, and forms from their coefficients.
use Rattle.std.proofs.Common.{◌≡◌, ◌∙◌, ℕ, zero, suc, ◌+◌, ◌<◌, ◌≤◌, List, [], ◌∷◌, length, refl, sym, ap, subst, arith, slice_get}
use Rattle.std.specs.Prelude.{IfSome}
use mathlib.Core.Path.{ap₂}
use Rattle.rational.specs.Rational.{Rational, ◌+ℚ◌, ◌*ℚ◌, zero_ℚ, one_ℚ, neg_ℚ}
use Rattle.milp.specs.Form.{value_at}
use Rattle.milp.specs.Problem.{Row, Problem}
use Rattle.milp.specs.Points.{IsWhole}
use Rattle.verdicts.specs.WeightedSums.{coefficient_of, sum_below, AllBelow}
use Rattle.verdicts.proofs.Laws.{value-append, value_by_column, sum_zero, neg-zero}
use Rattle.rational.proofs.Laws as Q
use Rattle.rational.proofs.Laws.{field, field_units, signs}
use Rattle.basis.specs.Weights.{nonzero}
use Rattle.basis.proofs.Laws.{nonzero_cases, below-append}
use Rattle.gomory.specs.Cuts.{entries_at, form_from, rows_coefficient, sum_coefficient}
use Rattle.gomory.proofs.FractionalParts.{IsWhole-add}

-- k * sum f + sum g = sum h, where it is so at each variable
pub sum_combine : (n : ℕ) (k : Rational) (f g h : ℕ → Rational) → ((v : ℕ) → v < n → k *ℚ f v +ℚ g v ≡ h v) → k *ℚ sum_below n f +ℚ sum_below n g ≡ sum_below n h
sum_combine zero k f g h e = Q.add-zero _ ∙ Q.mul-zero k
sum_combine (suc n) k f g h e = order k (f n) (g n) (sum_below n f) (sum_below n g) ∙ ap₂ ◌+ℚ◌ (e n (omega arith)) (sum_combine n k f g h (λ v l. e v (omega arith)))
  where
    order : (k a b c d : Rational) → k *ℚ (a +ℚ c) +ℚ (b +ℚ d) ≡ (k *ℚ a +ℚ b) +ℚ (k *ℚ c +ℚ d)
    order k a b c d = simp field

turned : (a b : Rational) → neg_ℚ a +ℚ neg_ℚ b ≡ neg_ℚ (a +ℚ b)
turned a b = simp signs

pub sum_neg : (n : ℕ) (f : ℕ → Rational) → sum_below n (λ v. neg_ℚ (f v)) ≡ neg_ℚ (sum_below n f)
sum_neg zero f = sym (neg-zero)
sum_neg (suc n) f = ap (λ t. neg_ℚ (f n) +ℚ t) (sum_neg n f) ∙ turned (f n) (sum_below n f)

-- what is 0 from n on adds nothing
pub sum_longer : (n k : ℕ) (f : ℕ → Rational) → ((v : ℕ) → n ≤ v → f v ≡ zero_ℚ) → sum_below (k + n) f ≡ sum_below n f
sum_longer n zero f h = let e : zero + n ≡ n = omega arith in ap (λ m. sum_below m f) e
sum_longer n (suc k) f h = let e : suc k + n ≡ suc (k + n) = omega arith in ap (λ m. sum_below m f) e ∙ ap₂ ◌+ℚ◌ (h (k + n) (omega arith)) (sum_longer n k f h) ∙ Q.zero-add _

-- f j + .. , count numbers
abbrev pub run_sum : (ℕ → Rational) → ℕ → ℕ → Rational
run_sum f j zero = zero_ℚ
run_sum f j (suc count) = f j +ℚ run_sum f (suc j) count

run_last : (f : ℕ → Rational) (j count : ℕ) → run_sum f j (suc count) ≡ f (count + j) +ℚ run_sum f j count
run_last f j zero = let e : zero + j ≡ j = omega arith in ap (λ v. f v +ℚ zero_ℚ) (sym e)
run_last f j (suc count) =
    let e : count + suc j ≡ suc count + j = omega arith in
    ap (λ t. f j +ℚ t) (run_last f (suc j) count ∙ ap (λ v. f v +ℚ run_sum f (suc j) count) e) ∙ Q.add_left_comm _ _ _

run_below : (f : ℕ → Rational) (n : ℕ) → run_sum f 0 n ≡ sum_below n f
run_below f zero = refl
run_below f (suc n) = let e : n + 0 ≡ n = omega arith in run_last f 0 n ∙ ap₂ ◌+ℚ◌ (ap f e) (run_below f n)

value_one : (z : ℕ → Rational) (j : ℕ) (a : Rational) → value_at z (entries_at j (nonzero a)) ≡ a *ℚ z j
value_one z j a = nonzero_cases a (λ e n. ap (λ l. value_at z (entries_at j l)) e ∙ sym (ap (λ t. t *ℚ z j) n ∙ Q.zero-mul _)) (λ e n. ap (λ l. value_at z (entries_at j l)) e ∙ Q.add-zero _)

value_run : (z f : ℕ → Rational) (j count : ℕ) → value_at z (form_from j count f) ≡ run_sum (λ v. f v *ℚ z v) j count
value_run z f j zero = refl
value_run z f j (suc count) = value-append z (entries_at j (nonzero (f j))) (form_from (suc j) count f) ∙ ap₂ ◌+ℚ◌ (value_one z j (f j)) (value_run z f (suc j) count)

pub value_from : (z f : ℕ → Rational) (n : ℕ) → value_at z (form_from 0 n f) ≡ sum_below n (λ v. f v *ℚ z v)
value_from z f n = value_run z f 0 n ∙ run_below (λ v. f v *ℚ z v) n

below_one : (n j : ℕ) (a : Rational) → j < n → AllBelow n (entries_at j (nonzero a))
below_one n j a h = nonzero_cases a (λ e z. (let P : List Rational → Type 0 = λ l. AllBelow n (entries_at j l) in subst P (sym e) tt)) (λ e z. (let P : List Rational → Type 0 = λ l. AllBelow n (entries_at j l) in subst P (sym e) (h, tt)))

pub below_from : (n j count : ℕ) (f : ℕ → Rational) → j + count ≤ n → AllBelow n (form_from j count f)
below_from n j zero f h = tt
below_from n j (suc count) f h = below-append n (entries_at j (nonzero (f j))) (form_from (suc j) count f) (below_one n j (f j) (omega arith)) (below_from n (suc j) count f (omega arith))

pub sum_whole : (n : ℕ) (f : ℕ → Rational) → ((v : ℕ) → IsWhole (f v)) → IsWhole (sum_below n f)
sum_whole zero f h = refl
sum_whole (suc n) f h = IsWhole-add (f n) (sum_below n f) (h n) (sum_whole n f h)

-- ---- the sum of all variables times their weights, at a point of the system

below_run : (n m : ℕ) (f : ℕ → Rational) → sum_below (m + n) f ≡ run_sum f n m +ℚ sum_below n f
below_run n zero f = let e : zero + n ≡ n = omega arith in ap (λ k. sum_below k f) e ∙ sym (Q.zero-add _)
below_run n (suc m) f =
    let e : suc m + n ≡ suc (m + n) = omega arith in
    ap (λ k. sum_below k f) e ∙ ap (λ t. f (m + n) +ℚ t) (below_run n m f) ∙ sym (Q.add_assoc _ _ _) ∙ ap (λ t. t +ℚ sum_below n f) (sym (run_last f n m))

abbrev rows_value : (ℕ → Rational) → ℕ → List Row → (ℕ → Rational) → Rational
rows_value w v [] z = zero_ℚ
rows_value w v (row ∷ rows) z = w v *ℚ value_at z row.entries +ℚ rows_value w (suc v) rows z

by_rows : (n : ℕ) (w z : ℕ → Rational) (v : ℕ) (rows : List Row) → ((i : ℕ) → IfSome (slice_get rows i) (λ row. AllBelow n row.entries)) → sum_below n (λ j. rows_coefficient w v rows j *ℚ z j) ≡ rows_value w v rows z
by_rows n w z v [] h = sum_zero n (λ j. zero_ℚ *ℚ z j) (λ j k. Q.zero-mul (z j))
by_rows n w z v (row ∷ rows) h =
    sym (sum_combine n (w v) (λ j. coefficient_of row.entries j *ℚ z j) (λ j. rows_coefficient w (suc v) rows j *ℚ z j) (λ j. (w v *ℚ coefficient_of row.entries j +ℚ rows_coefficient w (suc v) rows j) *ℚ z j) (λ j l. order (w v) (coefficient_of row.entries j) (rows_coefficient w (suc v) rows j) (z j)))
    ∙ ap₂ (λ s t. w v *ℚ s +ℚ t) (sym (value_by_column n z row.entries (h 0))) (by_rows n w z (suc v) rows (λ i. h (suc i)))
  where
    order : (k a b y : Rational) → k *ℚ (a *ℚ y) +ℚ b *ℚ y ≡ (k *ℚ a +ℚ b) *ℚ y
    order k a b y = simp field

as_run : (w z : ℕ → Rational) (v : ℕ) (rows : List Row) → ((k : ℕ) → IfSome (slice_get rows k) (λ row. z (v + k) ≡ value_at z row.entries)) → rows_value w v rows z ≡ run_sum (λ u. w u *ℚ z u) v (length rows)
as_run w z v [] h = refl
as_run w z v (row ∷ rows) h =
    let e : v ≡ v + 0 = omega arith in
    ap₂ ◌+ℚ◌ (ap (λ t. w v *ℚ t) (sym (ap z e ∙ h 0))) (as_run w z (suc v) rows (λ k. (let P : ℕ → Type 0 = λ u. IfSome (slice_get rows k) (λ row. z u ≡ value_at z row.entries) in let e : v + suc k ≡ suc v + k = omega arith in subst P e (h (suc k)))))

pub sum_value : (p : Problem) (w z : ℕ → Rational) → ((i : ℕ) → IfSome (slice_get p.rows i) (λ row. AllBelow (length p.columns) row.entries)) → ((k : ℕ) → IfSome (slice_get p.rows k) (λ row. z (length p.columns + k) ≡ value_at z row.entries))
    → value_at z (form_from 0 (length p.columns) (sum_coefficient p w)) ≡ sum_below (length p.columns + length p.rows) (λ v. w v *ℚ z v)
sum_value p w z over holds =
    let e : length p.rows + length p.columns ≡ length p.columns + length p.rows = omega arith in
    value_from z (sum_coefficient p w) (length p.columns)
    ∙ sym (sum_combine (length p.columns) one_ℚ (λ j. w j *ℚ z j) (λ j. rows_coefficient w (length p.columns) p.rows j *ℚ z j) (λ j. sum_coefficient p w j *ℚ z j) (λ j l. order (w j) (rows_coefficient w (length p.columns) p.rows j) (z j)))
    ∙ ap₂ (λ s t. s +ℚ t) (Q.one-mul _) (by_rows (length p.columns) w z (length p.columns) p.rows over ∙ as_run w z (length p.columns) p.rows holds)
    ∙ Q.add_comm _ _ ∙ sym (below_run (length p.columns) (length p.rows) (λ v. w v *ℚ z v)) ∙ ap (λ k. sum_below k (λ v. w v *ℚ z v)) e
  where
    order : (a b y : Rational) → one_ℚ *ℚ (a *ℚ y) +ℚ b *ℚ y ≡ (a +ℚ b) *ℚ y
    order a b y = simp (field, field_units)
