-- The test of a point is feasibility, and the test of a ray is that it improves.
use Rattle.std.proofs.Common.{◌≡◌, ℕ, zero, suc, List, [], ◌∷◌, Bool, true, false, not, ◌&&◌, ◌||◌, refl, ap, Option, Some, None, IfSome, slice_get, length, IsTrue}
use Rattle.std.proofs.lemmas.Bool.{and_parts}
use Rattle.std.proofs.lemmas.Option.{IfSome_then}
use Rattle.rational.specs.Rational.{Rational, ◌≤ℚ◌, zero_ℚ, ◌*ℚ◌}
use Rattle.rational.specs.Compare.{is_less, is_whole}
use Rattle.milp.specs.Points.{IsWhole}
use Rattle.milp.specs.Problem.{Column, Row, Problem}
use Rattle.milp.specs.Form.{number_at, sum_at}
use Rattle.milp.specs.Points.{IsWithin, IsHarmless, Feasible, IsImprovingRay, sign_of}
use Rattle.verdicts.specs.Proves.{lies_above, lies_below, meets_columns, meets_rows, meets, bound_for, is_improving_ray}
use Rattle.rational.proofs.Laws.{at_most_true, whole_true, less_true}

within_true : (lower upper : Option Rational) (v : Rational) → (lies_above lower v && lies_below upper v) ≡ true → IsWithin lower upper v
within_true lower upper v h =
    let both = and_parts (lies_above lower v) (lies_below upper v) h in
    record { low = low lower both.0; high = high upper both.1 }
  where
    low : (o : Option Rational) → lies_above o v ≡ true → IfSome o (λ b. b ≤ℚ v)
    low None e = tt
    low (Some b) e = at_most_true b v e

    high : (o : Option Rational) → lies_below o v ≡ true → IfSome o (λ b. v ≤ℚ b)
    high None e = tt
    high (Some b) e = at_most_true v b e

-- the parts of the test of a first column
parts : (ray : Bool) (c : Column) (cs : List Column) (v : Rational) (vs : List Rational) → meets_columns ray (c ∷ cs) (v ∷ vs) ≡ true → IsWithin (bound_for ray c.lower) (bound_for ray c.upper) v × ((not c.integer || is_whole v) ≡ true) × (meets_columns ray cs vs ≡ true)
parts ray c cs v vs h =
    let both = and_parts (lies_above (bound_for ray c.lower) v && lies_below (bound_for ray c.upper) v) ((not c.integer || is_whole v) && meets_columns ray cs vs) h in
    let rest = and_parts (not c.integer || is_whole v) (meets_columns ray cs vs) both.1 in
    (within_true (bound_for ray c.lower) (bound_for ray c.upper) v both.0, rest.0, rest.1)

same_size : (ray : Bool) (cs : List Column) (x : List Rational) → meets_columns ray cs x ≡ true → length x ≡ length cs
same_size ray [] [] h = refl
same_size ray [] (v ∷ vs) h = cc
same_size ray (c ∷ cs) [] h = cc
same_size ray (c ∷ cs) (v ∷ vs) h = ap suc (same_size ray cs vs (parts ray c cs v vs h).2)

columns_within : (ray : Bool) (cs : List Column) (x : List Rational) → meets_columns ray cs x ≡ true → (j : ℕ) → IfSome (slice_get cs j) (λ c. IsWithin (bound_for ray c.lower) (bound_for ray c.upper) (number_at x j))
columns_within ray [] x h j = tt
columns_within ray (c ∷ cs) [] h j = cc
columns_within ray (c ∷ cs) (v ∷ vs) h zero = (parts ray c cs v vs h).0
columns_within ray (c ∷ cs) (v ∷ vs) h (suc j) = columns_within ray cs vs (parts ray c cs v vs h).2 j

if_integer : (b : Bool) (v : Rational) → (not b || is_whole v) ≡ true → IsTrue b → IsWhole v
if_integer true v h e = whole_true v h
if_integer false v h e = cc

columns_whole : (ray : Bool) (cs : List Column) (x : List Rational) → meets_columns ray cs x ≡ true → (j : ℕ) → IfSome (slice_get cs j) (λ c. IsTrue c.integer → IsWhole (number_at x j))
columns_whole ray [] x h j = tt
columns_whole ray (c ∷ cs) [] h j = cc
columns_whole ray (c ∷ cs) (v ∷ vs) h zero = if_integer c.integer v (parts ray c cs v vs h).1
columns_whole ray (c ∷ cs) (v ∷ vs) h (suc j) = columns_whole ray cs vs (parts ray c cs v vs h).2 j

rows_within : (ray : Bool) (rs : List Row) (x : List Rational) → meets_rows ray rs x ≡ true → (i : ℕ) → IfSome (slice_get rs i) (λ r. IsWithin (bound_for ray r.lower) (bound_for ray r.upper) (sum_at x r.entries))
rows_within ray [] x h i = tt
rows_within ray (r ∷ rs) x h i = go i (and_parts (lies_above (bound_for ray r.lower) (sum_at x r.entries) && lies_below (bound_for ray r.upper) (sum_at x r.entries)) (meets_rows ray rs x) h) (rows_within ray rs x)
  where
    go : (i : ℕ) → ((lies_above (bound_for ray r.lower) (sum_at x r.entries) && lies_below (bound_for ray r.upper) (sum_at x r.entries)) ≡ true) × (meets_rows ray rs x ≡ true) → (meets_rows ray rs x ≡ true → (i : ℕ) → IfSome (slice_get rs i) (λ r. IsWithin (bound_for ray r.lower) (bound_for ray r.upper) (sum_at x r.entries))) → IfSome (slice_get (r ∷ rs) i) (λ r. IsWithin (bound_for ray r.lower) (bound_for ray r.upper) (sum_at x r.entries))
    go zero both rest = within_true (bound_for ray r.lower) (bound_for ray r.upper) (sum_at x r.entries) both.0
    go (suc i) both rest = rest both.1 i

pub meets_true : (p : Problem) (x : List Rational) → meets p x ≡ true → Feasible p x
meets_true p x h =
    let both = and_parts (meets_columns false p.columns x) (meets_rows false p.rows x) h in
    record {
      relaxed = record { size = same_size false p.columns x both.0; columns = columns_within false p.columns x both.0; rows = rows_within false p.rows x both.1 };
      integers = columns_whole false p.columns x both.0;
    }

-- ---- rays

harmless : (lower upper : Option Rational) (v : Rational) → IsWithin (bound_for true lower) (bound_for true upper) v → IsHarmless lower upper v
harmless lower upper v h = record { low = low lower h.low; high = high upper h.high }
  where
    low : (o : Option Rational) → IfSome (bound_for true o) (λ b. b ≤ℚ v) → IfSome o (λ b. zero_ℚ ≤ℚ v)
    low None k = tt
    low (Some b) k = k

    high : (o : Option Rational) → IfSome (bound_for true o) (λ b. v ≤ℚ b) → IfSome o (λ b. v ≤ℚ zero_ℚ)
    high None k = tt
    high (Some b) k = k

pub ray_true : (p : Problem) (r : List Rational) → is_improving_ray p r ≡ true → IsImprovingRay p r
ray_true p r h =
    let all = and_parts (meets_columns true p.columns r && meets_rows true p.rows r) (is_less (sign_of p.direction *ℚ sum_at r p.objective) zero_ℚ) h in
    let both = and_parts (meets_columns true p.columns r) (meets_rows true p.rows r) all.0 in
    record {
      size = same_size true p.columns r both.0;
      columns = λ j. IfSome_then (slice_get p.columns j) (columns_within true p.columns r both.0 j) (λ c k. harmless c.lower c.upper (number_at r j) k);
      rows = λ i. IfSome_then (slice_get p.rows i) (rows_within true p.rows r both.1 i) (λ w k. harmless w.lower w.upper (sum_at r w.entries) k);
      integers = columns_whole true p.columns r both.0;
      improves = less_true _ _ all.1;
    }
