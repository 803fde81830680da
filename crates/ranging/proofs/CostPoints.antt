-- The points of the auxiliary problem of a cost's end are costs with the weights that show them; its rays show that there
-- is no end.
use Rattle.std.proofs.Common.{◌≡◌, ◌∙◌, ℕ, zero, suc, ◌+◌, ◌<◌, List, [], ◌∷◌, Bool, true, false, cond, ◌==◌, refl, sym, ap, subst, Option, Some, None, IfSome, slice_get, length, if◌then◌else◌, arith}
use Rattle.std.specs.Prelude.{negsuc}
use Rattle.rational.specs.Rational.{Rational, ◌≤ℚ◌, ◌<ℚ◌, ◌+ℚ◌, ◌-ℚ◌, ◌*ℚ◌, neg_ℚ, zero_ℚ, one_ℚ, whole}
use Rattle.rational.proofs.Laws as Q
use Rattle.rational.proofs.Laws.{field}
use Rattle.milp.specs.Form.{Entry, number_at, sum_at}
use Rattle.milp.specs.Problem.{Column, Row, Problem}
use Rattle.milp.specs.declared.Direction.{Direction}
use Rattle.milp.specs.declared.Direction.TheVariants.{Min, Max}
use Rattle.milp.specs.Points.{IsWithin, IsHarmless, Feasible, IsImprovingRay, sign_of}
use Rattle.verdicts.specs.WeightedSums.{scaled, AllBelow}
use Rattle.verdicts.proofs.Laws.{le_by, neg-zero, neg_le, minus_one-mul, coefficient-scaled}
use Rattle.ranging.specs.CostRanges.{without_column, with_cost, InCostRange, signed_number, HasLowestCost, HasHighestCost}
use Rattle.ranging.specs.TightBounds.{FormsInRange, tight_forms, AllNonNegative, IsTightSum}
use Rattle.ranging.specs.CostAuxiliary.{cost_coefficient, given_cost, cost_row, cost_rows, weight_columns, cost_auxiliary}
use Rattle.ranging.proofs.Order.{not_less, difference_less, product_above, lt_by, neg_less}
use Rattle.ranging.proofs.TightSums.{tight_sum_best, tight_sum_least}
use Rattle.ranging.proofs.CostRows.{turned, given_and_cost, row_sum, row_there, length-weight_columns}
use Rattle.ranging.proofs.Places.{from_first}

-- ---- points

-- a fact of each row holds of that of column k
at_row : (F : Row → Type 0) (p : Problem) (x : List Rational) (j k : ℕ) → k < length p.columns → ((i : ℕ) → IfSome (slice_get (cost_rows p x j 0 (length p.columns)) i) F) → F (cost_row p x j k)
at_row F p x j k l h = go (slice_get (cost_rows p x j 0 (length p.columns)) k) (row_there p x j 0 (length p.columns) k l) (h k)
  where
    go : (o : Option Row) → o ≡ Some (cost_row p x j (0 + k)) → IfSome o F → F (cost_row p x j k)
    go o e m = let R : ℕ → Type 0 = λ n. F (cost_row p x j n) in subst R (from_first k) (rw e at m)

cut : (a b : ℕ) → suc a ≡ suc b → a ≡ b
cut a b e = omega arith

-- each weight's column begins at 0
weights_from_zero : (F : Rational → Rational → Type 0) → ((v : Rational) → F zero_ℚ v → zero_ℚ ≤ℚ v) → (ws : List Rational) (i : ℕ) (fs : List (List Entry)) → length ws ≡ length fs → ((m : ℕ) → IfSome (slice_get (weight_columns i fs) m) (λ c. IfSome c.lower (λ b. F b (number_at ws m)))) → AllNonNegative ws
weights_from_zero F from [] i fs e h = tt
weights_from_zero F from (w ∷ ws) i [] e h = absurd (omega arith)
weights_from_zero F from (w ∷ ws) i (f ∷ fs) e h = (from w (h zero), weights_from_zero F from ws (suc i) fs (omega arith) (λ m. h (suc m)))

taken_over : (c t v g : Rational) → c *ℚ t +ℚ v ≡ g → v ≡ g +ℚ neg_ℚ t *ℚ c
taken_over c t v g e = sym (Q.cancel_right (c *ℚ t) v) ∙ ap (λ z. neg_ℚ (c *ℚ t) +ℚ z) e ∙ Q.add_comm _ g ∙ ap (λ z. g +ℚ z) (sym (Q.neg_mul t c ∙ ap neg_ℚ (Q.mul_comm t c)))

-- a point of the auxiliary problem is a cost with the weights that show it
pub point_is_tight_sum : (p : Problem) (x : List Rational) (j : ℕ) (d : Direction) (t : Rational) (ws : List Rational) → Feasible (cost_auxiliary p x j d) (t ∷ ws) → IsTightSum p x ws (scaled (sign_of p.direction) (with_cost p j t).objective)
point_is_tight_sum p x j d t ws h = record {
  signs = weights_from_zero (λ b v. b ≤ℚ v) (λ v k. k) ws 1 (tight_forms p x) size (λ m. low (slice_get (weight_columns 1 (tight_forms p x)) m) (number_at ws m) (h.relaxed.columns (suc m)));
  same = λ k l.
      let m = at_row (λ r. IsWithin r.lower r.upper (sum_at (t ∷ ws) r.entries)) p x j k l h.relaxed.rows in
      taken_over (cost_coefficient p j k) t _ (given_cost p j k) (sym (row_sum p x j k t ws size) ∙ Q.le_antisymm _ _ m.high m.low) ∙ given_and_cost p j k t ∙ sym (coefficient-scaled (sign_of p.direction) (with_cost p j t).objective k);
}
  where
    size : length ws ≡ length (tight_forms p x)
    size = cut (length ws) (length (weight_columns 1 (tight_forms p x))) h.relaxed.size ∙ length-weight_columns 1 (tight_forms p x)

    low : (o : Option Column) (v : Rational) → IfSome o (λ c. IsWithin c.lower c.upper v) → IfSome o (λ c. IfSome c.lower (λ b. b ≤ℚ v))
    low None v k = tt
    low (Some c) v k = k.low

below_without : (n j : ℕ) (es : List Entry) → AllBelow n es → AllBelow n (without_column j es)
below_without n j [] h = tt
below_without n j (e ∷ es) h = go (e.column == j) (below_without n j es h.1)
  where
    go : (b : Bool) → AllBelow n (without_column j es) → AllBelow n (if b then without_column j es else e ∷ without_column j es)
    go true r = r
    go false r = (h.0, r)

pub objective_in_range : (p : Problem) (j : ℕ) (t : Rational) → FormsInRange p → j < length p.columns → AllBelow (length p.columns) (with_cost p j t).objective
objective_in_range p j t f l = (l, below_without (length p.columns) j p.objective f.objective)

-- a feasible point is a cost with which x is best
pub point_shows_best : (p : Problem) (x : List Rational) (j : ℕ) (d : Direction) (t : Rational) (ws : List Rational) → FormsInRange p → j < length p.columns → Feasible p x → Feasible (cost_auxiliary p x j d) (t ∷ ws) → InCostRange p x j t
point_shows_best p x j d t ws f l h k = tight_sum_best p x ws j t f (objective_in_range p j t f l) h (point_is_tight_sum p x j d t ws k)

-- ---- rays

-- a ray of the auxiliary problem shows a multiple of column j alone
ray_is_tight_sum : (p : Problem) (x : List Rational) (j : ℕ) (d : Direction) (q : Rational) (vs : List Rational) → IsImprovingRay (cost_auxiliary p x j d) (q ∷ vs) → IsTightSum p x vs (record { column = j; coefficient = sign_of p.direction *ℚ q } ∷ [])
ray_is_tight_sum p x j d q vs h = record {
  signs = weights_from_zero (λ b v. zero_ℚ ≤ℚ v) (λ v k. k) vs 1 (tight_forms p x) size (λ m. low (slice_get (weight_columns 1 (tight_forms p x)) m) (number_at vs m) (h.columns (suc m)));
  same = λ k l.
      let m = at_row (λ r. IsHarmless r.lower r.upper (sum_at (q ∷ vs) r.entries)) p x j k l h.rows in
      taken_over (cost_coefficient p j k) q _ zero_ℚ (sym (row_sum p x j k q vs size) ∙ Q.le_antisymm _ _ m.high m.low) ∙ Q.zero-add _ ∙ own k (k == j) refl;
}
  where
    size : length vs ≡ length (tight_forms p x)
    size = cut (length vs) (length (weight_columns 1 (tight_forms p x))) h.size ∙ length-weight_columns 1 (tight_forms p x)

    low : (o : Option Column) (v : Rational) → IfSome o (λ c. IsHarmless c.lower c.upper v) → IfSome o (λ c. IfSome c.lower (λ b. zero_ℚ ≤ℚ v))
    low None v k = tt
    low (Some c) v k = k.low

    own : (k : ℕ) (b : Bool) → (k == j) ≡ b → neg_ℚ q *ℚ cond b (neg_ℚ (sign_of p.direction)) zero_ℚ ≡ cond (j == k) (sign_of p.direction *ℚ q) zero_ℚ +ℚ zero_ℚ
    own k true g = Q.neg_mul _ _ ∙ ap neg_ℚ (Q.mul_neg _ _) ∙ Q.neg_neg _ ∙ Q.mul_comm _ _ ∙ sym (ap (λ b. cond b (sign_of p.direction *ℚ q) zero_ℚ +ℚ zero_ℚ) (turned k j true g) ∙ Q.add-zero _)
    own k false g = Q.mul-zero _ ∙ sym (ap (λ b. cond b (sign_of p.direction *ℚ q) zero_ℚ +ℚ zero_ℚ) (turned k j false g) ∙ Q.add-zero _)

-- a factor above 0 goes from both sides
cut_factor : (q a b : Rational) → zero_ℚ <ℚ q → q *ℚ a ≤ℚ q *ℚ b → a ≤ℚ b
cut_factor q a b h g = not_less b a (λ l. product_above q (a -ℚ b) h (difference_less b a l) (le_by _ _ _ _ (Q.mul_add q a (neg_ℚ b) ∙ ap (λ z. q *ℚ a +ℚ z) (Q.mul_neg q b)) (sym (Q.add-neg (q *ℚ b))) (Q.add-le-add _ _ _ _ g (Q.le_refl (neg_ℚ (q *ℚ b))))))

multiple : (s q v : Rational) → (s *ℚ q) *ℚ v +ℚ zero_ℚ ≡ q *ℚ (s *ℚ v)
multiple s q v = Q.add-zero _ ∙ regroup s q v
  where
    regroup : (s q v : Rational) → (s *ℚ q) *ℚ v ≡ q *ℚ (s *ℚ v)
    regroup s q v = simp field

pub ray_shows_no_highest : (p : Problem) (x : List Rational) (j : ℕ) (q : Rational) (vs : List Rational) → FormsInRange p → j < length p.columns → IsImprovingRay (cost_auxiliary p x j Max) (q ∷ vs) → HasHighestCost p x j None
ray_shows_no_highest p x j q vs f l h = λ y k. cut_factor q (signed_number p j x) (signed_number p j y) rises
    (le_by _ _ _ _ (sym (multiple (sign_of p.direction) q (number_at x j))) (sym (multiple (sign_of p.direction) q (number_at y j))) (tight_sum_least p x vs _ f (l, tt) (ray_is_tight_sum p x j Max q vs h) y k))
  where
    value : whole (negsuc 0) *ℚ (one_ℚ *ℚ q +ℚ zero_ℚ) ≡ neg_ℚ q
    value = ap (λ z. whole (negsuc 0) *ℚ z) (Q.add-zero _ ∙ Q.one-mul q) ∙ minus_one-mul q

    rises : zero_ℚ <ℚ q
    rises = lt_by (sym neg-zero) (sym (Q.neg_neg q)) (neg_less (lt_by (sym value) refl h.improves))

pub ray_shows_no_lowest : (p : Problem) (x : List Rational) (j : ℕ) (q : Rational) (vs : List Rational) → FormsInRange p → j < length p.columns → IsImprovingRay (cost_auxiliary p x j Min) (q ∷ vs) → HasLowestCost p x j None
ray_shows_no_lowest p x j q vs f l h = λ y k. cut_factor (neg_ℚ q) (signed_number p j y) (signed_number p j x) rises
    (le_by _ _ _ _ (Q.neg_mul q (signed_number p j y)) (Q.neg_mul q (signed_number p j x))
    (neg_le _ _ (le_by _ _ _ _ (sym (multiple (sign_of p.direction) q (number_at x j))) (sym (multiple (sign_of p.direction) q (number_at y j))) (tight_sum_least p x vs _ f (l, tt) (ray_is_tight_sum p x j Min q vs h) y k))))
  where
    falls : q <ℚ zero_ℚ
    falls = lt_by (sym (Q.one-mul _ ∙ Q.add-zero _ ∙ Q.one-mul q)) refl h.improves

    rises : zero_ℚ <ℚ neg_ℚ q
    rises = lt_by (sym neg-zero) refl (neg_less falls)
