-- A number lies between the ends of a cost range exactly where the point order_at_any_cost best with it.
use Rattle.std.proofs.Common.{◌≡◌, ◌∙◌, ℕ, List, sym, ap, Option, Some, None, IfSome, inl, inr}
use Rattle.std.specs.Prelude.{◌↔◌}
use Rattle.rational.specs.Rational.{Rational, ◌≤ℚ◌, ◌<ℚ◌, ◌+ℚ◌, ◌-ℚ◌, ◌*ℚ◌, neg_ℚ, zero_ℚ}
use Rattle.rational.proofs.Laws as Q
use Rattle.rational.proofs.Laws.{field, field_units, signs}
use Rattle.milp.specs.Form.{number_at, sum_at}
use Rattle.milp.specs.Problem.{Problem}
use Rattle.milp.specs.Points.{Feasible, IsWithin, objective_value, sign_of}
use Rattle.verdicts.proofs.Laws.{le_by, neg_le}
use Rattle.ranging.specs.CostRanges.{without_column, with_cost, InCostRange, signed_number, HasLowestCost, HasHighestCost, HasCostEnds}
use Rattle.ranging.proofs.Order.{le_or_le, not_less, apart, le_cancel, difference, difference_less, product_above}

-- ---- a value at one cost, and at another

score : Problem → ℕ → Rational → List Rational → Rational
score p j t y = sign_of p.direction *ℚ objective_value (with_cost p j t) y

score_at_other_cost : (p : Problem) (j : ℕ) (a t : Rational) (y : List Rational) → score p j t y ≡ score p j a y +ℚ (t -ℚ a) *ℚ signed_number p j y
unfolding score
score_at_other_cost p j a t y =
    ap (λ z. sign_of p.direction *ℚ ((z *ℚ number_at y j +ℚ sum_at y (without_column j p.objective)) +ℚ p.constant)) (apart a t)
    ∙ parts (sign_of p.direction) a (t -ℚ a) (number_at y j) (sum_at y (without_column j p.objective)) p.constant
  where
    parts : (s a k v r c : Rational) → s *ℚ (((a +ℚ k) *ℚ v +ℚ r) +ℚ c) ≡ s *ℚ ((a *ℚ v +ℚ r) +ℚ c) +ℚ k *ℚ (s *ℚ v)
    parts s a k v r c = simp field

score_at_other_cost_back : (p : Problem) (j : ℕ) (a t : Rational) (y : List Rational) → score p j t y ≡ score p j a y +ℚ neg_ℚ ((a -ℚ t) *ℚ signed_number p j y)
score_at_other_cost_back p j a t y = score_at_other_cost p j a t y ∙ ap (λ z. score p j a y +ℚ z) (parts a t (signed_number p j y))
  where
    parts : (a t d : Rational) → (t -ℚ a) *ℚ d ≡ neg_ℚ ((a -ℚ t) *ℚ d)
    parts a t d = simp (field, signs, field_units)

-- ---- feasible points do not hang on the cost

pub feasible_with : (p : Problem) (j : ℕ) (t : Rational) (y : List Rational) → Feasible p y → Feasible (with_cost p j t) y
feasible_with p j t y f = record { relaxed = record { size = f.relaxed.size; columns = f.relaxed.columns; rows = f.relaxed.rows }; integers = f.integers }

pub feasible_back : (p : Problem) (j : ℕ) (t : Rational) (y : List Rational) → Feasible (with_cost p j t) y → Feasible p y
feasible_back p j t y f = record { relaxed = record { size = f.relaxed.size; columns = f.relaxed.columns; rows = f.relaxed.rows }; integers = f.integers }

-- x is at least as good as each feasible point
AtLeast : Problem → List Rational → ℕ → Rational → Type 0
AtLeast p x j t = (y : List Rational) → Feasible p y → score p j t x ≤ℚ score p j t y

best_is_at_least : (p : Problem) (x : List Rational) (j : ℕ) (t : Rational) → InCostRange p x j t → AtLeast p x j t
unfolding AtLeast score
best_is_at_least p x j t h y f = not_less _ _ (h.best y (feasible_with p j t y f))

at_least_is_best : (p : Problem) (x : List Rational) (j : ℕ) (t : Rational) → Feasible p x → AtLeast p x j t → InCostRange p x j t
unfolding AtLeast score
at_least_is_best p x j t f h = record { feasible = feasible_with p j t x f; best = λ y k b. Q.lt-not-le _ _ b (h y (feasible_back p j t y k)) }

-- ---- between the ends

-- the cost goes up, and y has at least as much of the column
order_at_higher_cost : (p : Problem) (x y : List Rational) (j : ℕ) (a t : Rational) → a ≤ℚ t → signed_number p j x ≤ℚ signed_number p j y → score p j a x ≤ℚ score p j a y → score p j t x ≤ℚ score p j t y
order_at_higher_cost p x y j a t h d g =
    le_by _ _ _ _ (score_at_other_cost p j a t x) (score_at_other_cost p j a t y)
    (Q.add-le-add _ _ _ _ g (Q.mul-le-mul (t -ℚ a) _ _ (difference a t h) d))

-- the cost goes down, and y has at most as much of the column
order_at_lower_cost : (p : Problem) (x y : List Rational) (j : ℕ) (b t : Rational) → t ≤ℚ b → signed_number p j y ≤ℚ signed_number p j x → score p j b x ≤ℚ score p j b y → score p j t x ≤ℚ score p j t y
order_at_lower_cost p x y j b t h d g =
    le_by _ _ _ _ (score_at_other_cost_back p j b t x) (score_at_other_cost_back p j b t y)
    (Q.add-le-add _ _ _ _ g (neg_le _ _ (Q.mul-le-mul (b -ℚ t) _ _ (difference t b h) d)))

-- y has just as much of the column
order_at_any_cost : (p : Problem) (x y : List Rational) (j : ℕ) (m t : Rational) → signed_number p j x ≤ℚ signed_number p j y → signed_number p j y ≤ℚ signed_number p j x → score p j m x ≤ℚ score p j m y → score p j t x ≤ℚ score p j t y
order_at_any_cost p x y j m t d e g = elim (le_or_le m t) [
  | inl k ↦ order_at_higher_cost p x y j m t k d g
  | inr k ↦ order_at_lower_cost p x y j m t k e g
]

order_above_lowest : (p : Problem) (x y : List Rational) (j : ℕ) (m t : Rational) (low : Option Rational) → InCostRange p x j m → HasLowestCost p x j low → IfSome low (λ a. a ≤ℚ t) → Feasible p y → signed_number p j x ≤ℚ signed_number p j y → score p j t x ≤ℚ score p j t y
unfolding AtLeast
order_above_lowest p x y j m t None h s k f d = order_at_any_cost p x y j m t d (s y f) (best_is_at_least p x j m h y f)
order_above_lowest p x y j m t (Some a) h s k f d = order_at_higher_cost p x y j a t k d (best_is_at_least p x j a s.0 y f)

order_below_highest : (p : Problem) (x y : List Rational) (j : ℕ) (m t : Rational) (high : Option Rational) → InCostRange p x j m → HasHighestCost p x j high → IfSome high (λ b. t ≤ℚ b) → Feasible p y → signed_number p j y ≤ℚ signed_number p j x → score p j t x ≤ℚ score p j t y
unfolding AtLeast
order_below_highest p x y j m t None h s k f d = order_at_any_cost p x y j m t (s y f) d (best_is_at_least p x j m h y f)
order_below_highest p x y j m t (Some b) h s k f d = order_at_lower_cost p x y j b t k d (best_is_at_least p x j b s.0 y f)

inside_is_best : (p : Problem) (x : List Rational) (j : ℕ) (low high : Option Rational) → HasCostEnds p x j low high → (t : Rational) → IsWithin low high t → InCostRange p x j t
unfolding AtLeast
inside_is_best p x j low high s t w = at_least_is_best p x j t (feasible_back p j s.cost x s.holds.feasible) (λ y f. elim (le_or_le (signed_number p j x) (signed_number p j y)) [
  | inl d ↦ order_above_lowest p x y j s.cost t low s.holds s.lowest w.low f d
  | inr d ↦ order_below_highest p x y j s.cost t high s.holds s.highest w.high f d
])

-- ---- beyond an end

-- y is as good at a, and pulls more: at a lower cost it is better
better_below_lowest : (p : Problem) (x y : List Rational) (j : ℕ) (a t : Rational) → t <ℚ a → score p j a y ≤ℚ score p j a x → signed_number p j x <ℚ signed_number p j y → score p j t x ≤ℚ score p j t y → ⊥
better_below_lowest p x y j a t h g d k =
    product_above (a -ℚ t) (signed_number p j y -ℚ signed_number p j x) (difference_less t a h) (difference_less _ _ d)
    (over (score p j a x) (score p j a y) (a -ℚ t) (signed_number p j x) (signed_number p j y) g (le_by _ _ _ _ (sym (score_at_other_cost_back p j a t x)) (sym (score_at_other_cost_back p j a t y)) k))
  where
    over : (u v k d e : Rational) → v ≤ℚ u → u +ℚ neg_ℚ (k *ℚ d) ≤ℚ v +ℚ neg_ℚ (k *ℚ e) → k *ℚ (e -ℚ d) ≤ℚ zero_ℚ
    over u v k d e g h =
        let less : neg_ℚ (k *ℚ d) ≤ℚ neg_ℚ (k *ℚ e) = le_cancel u _ _ (Q.le_trans _ _ _ h (Q.add-le-add _ _ _ _ g (Q.le_refl _))) in
        le_by _ _ _ _ (Q.mul_add k e (neg_ℚ d) ∙ ap (λ z. k *ℚ e +ℚ z) (Q.mul_neg k d)) (sym (Q.add-neg (k *ℚ e))) (Q.add-le-add _ _ _ _ (Q.le_refl (k *ℚ e)) less)

-- y is as good at b, and pulls less: at a higher cost it is better
better_above_highest : (p : Problem) (x y : List Rational) (j : ℕ) (b t : Rational) → b <ℚ t → score p j b y ≤ℚ score p j b x → signed_number p j y <ℚ signed_number p j x → score p j t x ≤ℚ score p j t y → ⊥
better_above_highest p x y j b t h g d k =
    product_above (t -ℚ b) (signed_number p j x -ℚ signed_number p j y) (difference_less b t h) (difference_less _ _ d)
    (over (score p j b x) (score p j b y) (t -ℚ b) (signed_number p j x) (signed_number p j y) g (le_by _ _ _ _ (sym (score_at_other_cost p j b t x)) (sym (score_at_other_cost p j b t y)) k))
  where
    over : (u v k d e : Rational) → v ≤ℚ u → u +ℚ k *ℚ d ≤ℚ v +ℚ k *ℚ e → k *ℚ (d -ℚ e) ≤ℚ zero_ℚ
    over u v k d e g h =
        let less : k *ℚ d ≤ℚ k *ℚ e = le_cancel u _ _ (Q.le_trans _ _ _ h (Q.add-le-add _ _ _ _ g (Q.le_refl _))) in
        le_by _ _ _ _ (Q.mul_add k d (neg_ℚ e) ∙ ap (λ z. k *ℚ d +ℚ z) (Q.mul_neg k e)) (sym (Q.add-neg (k *ℚ e))) (Q.add-le-add _ _ _ _ less (Q.le_refl (neg_ℚ (k *ℚ e))))

lowest_is_least : (p : Problem) (x : List Rational) (j : ℕ) (t : Rational) (low : Option Rational) → HasLowestCost p x j low → InCostRange p x j t → IfSome low (λ a. a ≤ℚ t)
unfolding AtLeast score
lowest_is_least p x j t None s h = tt
lowest_is_least p x j t (Some a) s h = not_less t a (λ l. let kept = s.1 in better_below_lowest p x kept.0 j a t l kept.2 kept.3 (best_is_at_least p x j t h kept.0 kept.1))

highest_is_greatest : (p : Problem) (x : List Rational) (j : ℕ) (t : Rational) (high : Option Rational) → HasHighestCost p x j high → InCostRange p x j t → IfSome high (λ b. t ≤ℚ b)
unfolding AtLeast score
highest_is_greatest p x j t None s h = tt
highest_is_greatest p x j t (Some b) s h = not_less b t (λ l. let kept = s.1 in better_above_highest p x kept.0 j b t l kept.2 kept.3 (best_is_at_least p x j t h kept.0 kept.1))

pub between_cost_ends : (p : Problem) (x : List Rational) (j : ℕ) (low high : Option Rational) → HasCostEnds p x j low high → (t : Rational) → IsWithin low high t ↔ InCostRange p x j t
between_cost_ends p x j low high s t = (inside_is_best p x j low high s t, λ h. record { low = lowest_is_least p x j t low s.lowest h; high = highest_is_greatest p x j t high s.highest h })
