-- Where weights show the objective at the root, no ray improves it.
use Rattle.std.proofs.Common.{◌≡◌, ◌∙◌, List, [], ◌∷◌, Bool, true, false, refl, sym, ap, Option, Some, None, IfSome, slice_get, option_and_then, length, if◌then◌else◌}
use Rattle.std.proofs.lemmas.Bool.{and_parts}
use Rattle.rational.specs.Rational.{Rational, ◌≤ℚ◌, ◌+ℚ◌, ◌*ℚ◌, ◌-ℚ◌, zero_ℚ, one_ℚ}
use Rattle.rational.proofs.Laws as Q
use Rattle.rational.proofs.Laws.{less_true, less_false}
use Rattle.milp.specs.Form.{Entry, number_at, sum_at}
use Rattle.milp.specs.Problem.{Column, Row, Problem}
use Rattle.milp.specs.Points.{IsHarmless, IsImprovingRay, sign_of}
use Rattle.rational.specs.Compare.{is_less, is_at_most}
use Rattle.verdicts.specs.WeightedSums.{scaled, Weighted, combined, combined_bound}
use Rattle.verdicts.specs.Certificate.{Version, One, Two, Item, Weights, Bound}
use Rattle.verdicts.specs.Proves.{term, bound_used, row_term, column_term, derived_term, split_term, joined, gathered, terms, same_form, shows, node_passes}
use Rattle.verdicts.proofs.Duality.{value-append, value-scaled}
use Rattle.verdicts.proofs.Numbers.{le_by, mul-le-mul_neg}
use Rattle.verdicts.proofs.Forms.{same_form-value}

-- the term's weight times its form does not fall along the ray
record Rises (r : List Rational) (t : Weighted) : Type 0 where
  pub up : zero_ℚ ≤ℚ t.weight *ℚ sum_at r t.form

abbrev AllRise : List Rational → List Weighted → Type 0
AllRise r [] = Unit {0}
AllRise r (t ∷ ts) = Rises r t × AllRise r ts

term_rises : (r : List Rational) (w : Rational) (form : List Entry) (lower upper : Option Rational) → IsHarmless lower upper (sum_at r form) → IfSome (term w form (bound_used w lower upper)) (Rises r)
term_rises r w form lower upper h = go (is_less zero_ℚ w) refl
  where
    low : (o : Option Rational) → zero_ℚ ≤ℚ w → IfSome o (λ b. zero_ℚ ≤ℚ sum_at r form) → IfSome (term w form o) (Rises r)
    low None k l = tt
    low (Some b) k l = record { up = le_by _ _ _ _ (sym (Q.mul-zero w)) refl (Q.mul-le-mul w zero_ℚ (sum_at r form) k l) }

    high : (o : Option Rational) → w ≤ℚ zero_ℚ → IfSome o (λ b. sum_at r form ≤ℚ zero_ℚ) → IfSome (term w form o) (Rises r)
    high None k l = tt
    high (Some b) k l = record { up = le_by _ _ _ _ (sym (Q.mul-zero w)) refl (mul-le-mul_neg w (sum_at r form) zero_ℚ k l) }

    go : (b : Bool) → is_less zero_ℚ w ≡ b → IfSome (term w form (if b then lower else upper)) (Rises r)
    go true e = low lower (Q.le_of_lt _ _ (less_true _ _ e)) h.low
    go false e = high upper (less_false _ _ e) h.high

row_rises : (p : Problem) (r : List Rational) → IsImprovingRay p r → (i : Item) → IfSome (row_term p i) (Rises r)
row_rises p r h i = go (slice_get p.rows i.index) (h.rows i.index)
  where
    go : (o : Option Row) → IfSome o (λ w. IsHarmless w.lower w.upper (sum_at r w.entries)) → IfSome (option_and_then (λ w. term i.weight w.entries (bound_used i.weight w.lower w.upper)) o) (Rises r)
    go None k = tt
    go (Some w) k = term_rises r i.weight w.entries w.lower w.upper k

column_rises : (p : Problem) (r : List Rational) → IsImprovingRay p r → (i : Item) → IfSome (column_term p [] i) (Rises r)
column_rises p r h i = term_rises r i.weight (record { column = i.index; coefficient = one_ℚ } ∷ []) (option_and_then (λ c. c.lower) (slice_get p.columns i.index)) (option_and_then (λ c. c.upper) (slice_get p.columns i.index)) (go (slice_get p.columns i.index) (h.columns i.index))
  where
    unit : sum_at r (record { column = i.index; coefficient = one_ℚ } ∷ []) ≡ number_at r i.index
    unit = Q.add-zero _ ∙ Q.one-mul _

    go : (o : Option Column) → IfSome o (λ c. IsHarmless c.lower c.upper (number_at r i.index)) → IsHarmless (option_and_then (λ c. c.lower) o) (option_and_then (λ c. c.upper) o) (sum_at r (record { column = i.index; coefficient = one_ℚ } ∷ []))
    go None k = record { low = tt; high = tt }
    go (Some c) k = let P : Rational → Type 0 = λ v. IsHarmless c.lower c.upper v in rw unit k

joined_rise : (r : List Rational) (o : Option Weighted) (rest : Option (List Weighted)) → IfSome o (Rises r) → IfSome rest (AllRise r) → IfSome (joined o rest) (AllRise r)
joined_rise r None rest h k = tt
joined_rise r (Some t) None h k = tt
joined_rise r (Some t) (Some ts) h k = (h, k)

gathered_rise : (r : List Rational) (f : Item → Option Weighted) (is : List Item) (rest : Option (List Weighted)) → ((i : Item) → IfSome (f i) (Rises r)) → IfSome rest (AllRise r) → IfSome (gathered f is rest) (AllRise r)
gathered_rise r f [] rest h k = k
gathered_rise r f (i ∷ is) rest h k = joined_rise r (f i) (gathered f is rest) (h i) (gathered_rise r f is rest h k)

no_derived : (r : List Rational) (i : Item) → IfSome (derived_term [] i) (Rises r)
no_derived r i = go (is_less zero_ℚ i.weight)
  where
    go : (b : Bool) → IfSome (if b then None else None) (Rises r)
    go true = tt
    go false = tt

no_split : (r : List Rational) (i : Item) → IfSome (split_term [] i) (Rises r)
no_split r i = go (is_less zero_ℚ i.weight)
  where
    go : (b : Bool) → IfSome (if b then None else None) (Rises r)
    go true = tt
    go false = tt

terms_rise : (p : Problem) (w : Weights) (r : List Rational) → IsImprovingRay p r → IfSome (terms p [] [] [] w) (AllRise r)
terms_rise p w r h =
    gathered_rise r (row_term p) w.rows _ (row_rises p r h)
    (gathered_rise r (column_term p []) w.columns _ (column_rises p r h)
    (gathered_rise r (derived_term []) w.derived _ (no_derived r)
    (gathered_rise r (split_term []) w.splits (Some []) (no_split r) tt)))

combined_rises : (r : List Rational) (ts : List Weighted) → AllRise r ts → zero_ℚ ≤ℚ sum_at r (combined ts)
combined_rises r [] h = Q.le_refl zero_ℚ
combined_rises r (t ∷ ts) h =
    le_by _ _ _ _ (sym (Q.add-zero zero_ℚ)) (value-append (number_at r) (scaled t.weight t.form) (combined ts) ∙ ap (λ v. v +ℚ sum_at r (combined ts)) (value-scaled (number_at r) t.weight t.form))
    (Q.add-le-add _ _ _ _ h.0.up (combined_rises r ts h.1))

-- where weights show the objective, no ray improves it
no_ray : (p : Problem) (w : Weights) (ts : List Weighted) (r : List Rational) → terms p [] [] [] w ≡ Some ts → same_form (length p.columns) (combined ts) (scaled (sign_of p.direction) p.objective) ≡ true → IsImprovingRay p r → ⊥
no_ray p w ts r are form ray =
    let rise : zero_ℚ ≤ℚ sum_at r (combined ts) = combined_rises r ts (rw are at (terms_rise p w r ray)) in
    let same = same_form-value (length p.columns) r (combined ts) (scaled (sign_of p.direction) p.objective) ray.size form in
    Q.lt-not-le _ _ ray.improves (le_by _ _ _ _ refl (sym (same ∙ value-scaled (number_at r) (sign_of p.direction) p.objective)) rise)

bound_no_ray : (p : Problem) (w : Weights) (r : List Rational) (bound : Rational) (o : Option (List Weighted)) → terms p [] [] [] w ≡ o → shows (length p.columns) o (scaled (sign_of p.direction) p.objective) bound ≡ true → IsImprovingRay p r → ⊥
bound_no_ray p w r bound None are h ray = cc
bound_no_ray p w r bound (Some ts) are h ray = no_ray p w ts r are (and_parts (same_form (length p.columns) (combined ts) (scaled (sign_of p.direction) p.objective)) (is_at_most bound (combined_bound ts)) h).0 ray

-- a leaf at the root that passes against a value
pub leaf_no_ray : (p : Problem) (v : Version) (goal : Rational) (w : Weights) (r : List Rational) → node_passes p v (Some goal) [] [] (Bound w) ≡ true → IsImprovingRay p r → ⊥
leaf_no_ray p One goal w r h ray = bound_no_ray p w r (sign_of p.direction *ℚ (goal -ℚ p.constant)) (terms p [] [] [] w) refl h ray
leaf_no_ray p Two goal w r h ray = bound_no_ray p w r (sign_of p.direction *ℚ (goal -ℚ p.constant)) (terms p [] [] [] w) refl h ray
