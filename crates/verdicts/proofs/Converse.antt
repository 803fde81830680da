-- A feasible point passes the test, and so does an improving ray.
use Rattle.std.proofs.Common.{◌≡◌, ℕ, suc, List, [], ◌∷◌, Bool, true, false, not, ◌&&◌, ◌||◌, refl, Option, Some, None, IfSome, slice_get, length, IsTrue, arith}
use Rattle.std.specs.Prelude.{ℤ, ◌≤ℤ◌, ◌<ℤ◌, int_le, int_lt}
use Rattle.std.proofs.lemmas.Int.{ints}
use Rattle.std.proofs.lemmas.Bool.{and_from}
use Rattle.std.proofs.lemmas.Option.{IfSome_then}
use Rattle.std.proofs.lemmas.Bool.Decides.{nat_tests}
use Rattle.rational.specs.Rational.{Rational, ◌≤ℚ◌, zero_ℚ}
use Rattle.rational.specs.Compare.{is_whole}
use Rattle.milp.specs.Points.{IsWhole}
use Rattle.milp.specs.Problem.{Column, Row, Problem}
use Rattle.milp.specs.Form.{number_at, sum_at}
use Rattle.milp.specs.Points.{IsWithin, IsHarmless, Feasible, IsImprovingRay}
use Rattle.verdicts.specs.Proves.{lies_above, lies_below, meets_columns, meets_rows, meets, bound_for, is_improving_ray}

true_le : (a b : ℤ) → a ≤ℤ b → int_le a b ≡ true
true_le a b h = grind (arith, ints)

true_lt : (a b : ℤ) → a <ℤ b → int_lt a b ≡ true
true_lt a b h = grind (arith, ints)

true_whole : (b : Bool) (v : Rational) → (IsTrue b → IsWhole v) → (not b || is_whole v) ≡ true
true_whole true v h = let e : v.denominator ≡ 1 = h refl in grind (arith, nat_tests)
true_whole false v h = refl

true_within : (lower upper : Option Rational) (v : Rational) → IsWithin lower upper v → (lies_above lower v && lies_below upper v) ≡ true
true_within lower upper v h = and_from _ _ (low lower h.low) (high upper h.high)
  where
    low : (o : Option Rational) → IfSome o (λ b. b ≤ℚ v) → lies_above o v ≡ true
    low None k = refl
    low (Some b) k = true_le _ _ k.cross

    high : (o : Option Rational) → IfSome o (λ b. v ≤ℚ b) → lies_below o v ≡ true
    high None k = refl
    high (Some b) k = true_le _ _ k.cross

true_columns : (ray : Bool) (cs : List Column) (x : List Rational) → length x ≡ length cs → ((j : ℕ) → IfSome (slice_get cs j) (λ c. IsWithin (bound_for ray c.lower) (bound_for ray c.upper) (number_at x j))) → ((j : ℕ) → IfSome (slice_get cs j) (λ c. IsTrue c.integer → IsWhole (number_at x j))) → meets_columns ray cs x ≡ true
true_columns ray [] [] e h k = refl
true_columns ray [] (v ∷ vs) e h k = absurd (omega arith)
true_columns ray (c ∷ cs) [] e h k = absurd (omega arith)
true_columns ray (c ∷ cs) (v ∷ vs) e h k = and_from _ _ (true_within (bound_for ray c.lower) (bound_for ray c.upper) v (h 0)) (and_from _ _ (true_whole c.integer v (k 0)) (true_columns ray cs vs (omega arith) (λ j. h (suc j)) (λ j. k (suc j))))

true_rows : (ray : Bool) (rs : List Row) (x : List Rational) → ((i : ℕ) → IfSome (slice_get rs i) (λ r. IsWithin (bound_for ray r.lower) (bound_for ray r.upper) (sum_at x r.entries))) → meets_rows ray rs x ≡ true
true_rows ray [] x h = refl
true_rows ray (r ∷ rs) x h = and_from _ _ (true_within (bound_for ray r.lower) (bound_for ray r.upper) (sum_at x r.entries) (h 0)) (true_rows ray rs x (λ i. h (suc i)))

pub true_meets : (p : Problem) (x : List Rational) → Feasible p x → meets p x ≡ true
true_meets p x h = and_from _ _ (true_columns false p.columns x h.relaxed.size h.relaxed.columns h.integers) (true_rows false p.rows x h.relaxed.rows)

within_zero : (lower upper : Option Rational) (v : Rational) → IsHarmless lower upper v → IsWithin (bound_for true lower) (bound_for true upper) v
within_zero lower upper v h = record { low = low lower h.low; high = high upper h.high }
  where
    low : (o : Option Rational) → IfSome o (λ b. zero_ℚ ≤ℚ v) → IfSome (bound_for true o) (λ b. b ≤ℚ v)
    low None k = tt
    low (Some b) k = k

    high : (o : Option Rational) → IfSome o (λ b. v ≤ℚ zero_ℚ) → IfSome (bound_for true o) (λ b. v ≤ℚ b)
    high None k = tt
    high (Some b) k = k

pub true_ray : (p : Problem) (r : List Rational) → IsImprovingRay p r → is_improving_ray p r ≡ true
true_ray p r h = and_from _ _
    (and_from _ _
    (true_columns true p.columns r h.size (λ j. IfSome_then (slice_get p.columns j) (h.columns j) (λ c k. within_zero c.lower c.upper (number_at r j) k)) h.integers)
    (true_rows true p.rows r (λ i. IfSome_then (slice_get p.rows i) (h.rows i) (λ w k. within_zero w.lower w.upper (sum_at r w.entries) k))))
    (true_lt _ _ h.improves.cross)
