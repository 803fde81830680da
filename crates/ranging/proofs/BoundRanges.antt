-- A number lies between the ends of a bound's range exactly where it is in the range.
use Rattle.std.proofs.Common.{◌≡◌, ◌∙◌, ℕ, zero, suc, List, [], ◌∷◌, sym, ap, subst, Option, Some, None, IfSome, slice_get, length, inl, inr}
use mathlib.Core.Path.{ap₂}
use Rattle.std.specs.Prelude.{◌↔◌}
use Rattle.rational.specs.Rational.{Rational, ◌≤ℚ◌, ◌+ℚ◌, ◌-ℚ◌, ◌*ℚ◌, neg_ℚ}
use Rattle.rational.proofs.Laws as Q
use Rattle.rational.proofs.Laws.{field}
use Rattle.milp.specs.Form.{number_at, sum_at}
use Rattle.milp.specs.Problem.{Column, Row, Problem}
use Rattle.milp.specs.Points.{IsWithin, Feasible, sign_of}
use Rattle.ranging.specs.BoundRanges.{BoundSide, Lower, Upper, with_side, with_row_bound, with_bound, UsedBound, InBoundRange, HasLeastBound, HasGreatestBound, AllContinuous, HasBoundEnds}
use Rattle.ranging.proofs.Order.{le_or_less}
use Rattle.ranging.proofs.Mixtures.{IsMix, mix_same, mix_le, mixed_of, mixed, mixed_size, mixed_number, mixed_sum, low_mixed, high_mixed, within_mixed}
use Rattle.ranging.proofs.Meeting.{RowMeets, Meets, not_whole}

row_mixed : (k l : Rational) (x y : List Rational) (r : Row) → length x ≡ length y → IsMix k l → RowMeets x r → RowMeets y r → RowMeets (mixed k l x y) r
unfolding RowMeets
row_mixed k l x y r e m g h = rw (mixed_sum k l x y r.entries e) (within_mixed k l (sum_at x r.entries) (sum_at y r.entries) r.lower r.upper m g h)

side_mixed : (k l a b : Rational) (x y : List Rational) (s : BoundSide) (r : Row) → length x ≡ length y → IsMix k l → RowMeets x (with_side s a r) → RowMeets y (with_side s b r) → RowMeets (mixed k l x y) (with_side s (k *ℚ a +ℚ l *ℚ b) r)
unfolding RowMeets
side_mixed k l a b x y Lower r e m g h = rw (mixed_sum k l x y r.entries e) record { low = mix_le k l a b (sum_at x r.entries) (sum_at y r.entries) m g.low h.low; high = high_mixed k l (sum_at x r.entries) (sum_at y r.entries) r.upper m g.high h.high }
side_mixed k l a b x y Upper r e m g h = rw (mixed_sum k l x y r.entries e) record { low = low_mixed k l (sum_at x r.entries) (sum_at y r.entries) r.lower m g.low h.low; high = mix_le k l (sum_at x r.entries) (sum_at y r.entries) a b m g.high h.high }

rows_same : (k l : Rational) (x y : List Rational) (rs : List Row) → length x ≡ length y → IsMix k l → Meets x rs → Meets y rs → Meets (mixed k l x y) rs
rows_same k l x y [] e m g h i = tt
rows_same k l x y (r ∷ rs) e m g h zero = row_mixed k l x y r e m (g zero) (h zero)
rows_same k l x y (r ∷ rs) e m g h (suc i) = rows_same k l x y rs e m (λ n. g (suc n)) (λ n. h (suc n)) i

rows_mixed : (k l a b : Rational) (x y : List Rational) (s : BoundSide) (rs : List Row) (at : ℕ) → length x ≡ length y → IsMix k l → Meets x (with_row_bound at s a rs) → Meets y (with_row_bound at s b rs) → Meets (mixed k l x y) (with_row_bound at s (k *ℚ a +ℚ l *ℚ b) rs)
rows_mixed k l a b x y s [] at e m g h i = tt
rows_mixed k l a b x y s (r ∷ rs) zero e m g h zero = side_mixed k l a b x y s r e m (g zero) (h zero)
rows_mixed k l a b x y s (r ∷ rs) zero e m g h (suc i) = rows_same k l x y rs e m (λ n. g (suc n)) (λ n. h (suc n)) i
rows_mixed k l a b x y s (r ∷ rs) (suc at) e m g h zero = row_mixed k l x y r e m (g zero) (h zero)
rows_mixed k l a b x y s (r ∷ rs) (suc at) e m g h (suc i) = rows_mixed k l a b x y s rs at e m (λ n. g (suc n)) (λ n. h (suc n)) i

columns_mixed : (k l v u : Rational) (o : Option Column) → IsMix k l → IfSome o (λ c. IsWithin c.lower c.upper v) → IfSome o (λ c. IsWithin c.lower c.upper u) → IfSome o (λ c. IsWithin c.lower c.upper (k *ℚ v +ℚ l *ℚ u))
columns_mixed k l v u None m g h = tt
columns_mixed k l v u (Some c) m g h = within_mixed k l v u c.lower c.upper m g h

feasible_mixed : (p : Problem) (k l a b : Rational) (x y : List Rational) (i : ℕ) (s : BoundSide) → AllContinuous p → IsMix k l → Feasible (with_bound p i s a) x → Feasible (with_bound p i s b) y → Feasible (with_bound p i s (k *ℚ a +ℚ l *ℚ b)) (mixed k l x y)
unfolding RowMeets
feasible_mixed p k l a b x y i s n m g h =
    let e : length x ≡ length y = g.relaxed.size ∙ sym h.relaxed.size in
    record {
      relaxed = record {
        size = mixed_size k l x y e ∙ g.relaxed.size;
        columns = λ j. let P : Rational → Type 0 = λ v. IfSome (slice_get p.columns j) (λ c. IsWithin c.lower c.upper v) in subst P (sym (mixed_number k l x y j e)) (columns_mixed k l (number_at x j) (number_at y j) (slice_get p.columns j) m (g.relaxed.columns j) (h.relaxed.columns j));
        rows = rows_mixed k l a b x y s p.rows i e m g.relaxed.rows h.relaxed.rows;
      };
      integers = λ j. not_whole (slice_get p.columns j) (number_at (mixed k l x y) j) (n j);
    }

value_mixed : (k l a b s v u r w c : Rational) → IsMix k l → s *ℚ v ≡ r +ℚ w *ℚ (a -ℚ c) → s *ℚ u ≡ r +ℚ w *ℚ (b -ℚ c) → s *ℚ (k *ℚ v +ℚ l *ℚ u) ≡ r +ℚ w *ℚ ((k *ℚ a +ℚ l *ℚ b) -ℚ c)
value_mixed k l a b s v u r w c m g h =
    apart s k l v u ∙ ap₂ (λ y z. k *ℚ y +ℚ l *ℚ z) g h ∙ together k l a b r w (neg_ℚ c)
    ∙ ap₂ (λ y z. y +ℚ w *ℚ ((k *ℚ a +ℚ l *ℚ b) +ℚ z)) (mix_same k l r m) (mix_same k l (neg_ℚ c) m)
  where
    apart : (s k l v u : Rational) → s *ℚ (k *ℚ v +ℚ l *ℚ u) ≡ k *ℚ (s *ℚ v) +ℚ l *ℚ (s *ℚ u)
    apart s k l v u = simp field

    together : (k l a b r w n : Rational) → k *ℚ (r +ℚ w *ℚ (a +ℚ n)) +ℚ l *ℚ (r +ℚ w *ℚ (b +ℚ n)) ≡ (k *ℚ r +ℚ l *ℚ r) +ℚ w *ℚ ((k *ℚ a +ℚ l *ℚ b) +ℚ (k *ℚ n +ℚ l *ℚ n))
    together k l a b r w n = simp field

range_mixed : (p : Problem) (u : UsedBound) (k l a b : Rational) → AllContinuous p → IsMix k l → InBoundRange p u a → InBoundRange p u b → InBoundRange p u (k *ℚ a +ℚ l *ℚ b)
range_mixed p u k l a b n m g h =
    let e : length g.0 ≡ length h.0 = g.1.feasible.relaxed.size ∙ sym h.1.feasible.relaxed.size in (
      mixed k l g.0 h.0,
      record {
        feasible = feasible_mixed p k l a b g.0 h.0 u.row u.side n m g.1.feasible h.1.feasible;
        value = ap (λ z. sign_of p.direction *ℚ z) (mixed_sum k l g.0 h.0 p.objective e) ∙ value_mixed k l a b (sign_of p.direction) (sum_at g.0 p.objective) (sum_at h.0 p.objective) u.total u.weight u.bound m g.1.value h.1.value;
      },
    )

-- with two numbers all between them are in the range
bound_range_convex : (p : Problem) (u : UsedBound) (a b t : Rational) → AllContinuous p → InBoundRange p u a → InBoundRange p u b → a ≤ℚ t → t ≤ℚ b → InBoundRange p u t
bound_range_convex p u a b t n g h low high = elim (le_or_less b a) [
  | inl k ↦ let P : Rational → Type 0 = λ z. InBoundRange p u z in subst P (Q.le_antisymm a t low (Q.le_trans t b a high k)) g
  | inr d ↦ let P : Rational → Type 0 = λ z. InBoundRange p u z in mixed_of a b t low high d (λ k l m e. subst P (sym e) (range_mixed p u k l a b n m g h))
]

inside_ends : (p : Problem) (u : UsedBound) (low high : Option Rational) (t : Rational) → AllContinuous p → HasLeastBound p u low → HasGreatestBound p u high → IsWithin low high t → InBoundRange p u t
inside_ends p u None None t n g h w = let a = g t in let b = h t in bound_range_convex p u a.0 b.0 t n a.2 b.2 a.1 b.1
inside_ends p u None (Some b) t n g h w = let a = g t in bound_range_convex p u a.0 b t n a.2 h.0 a.1 w.high
inside_ends p u (Some a) None t n g h w = let b = h t in bound_range_convex p u a b.0 t n g.0 b.2 w.low b.1
inside_ends p u (Some a) (Some b) t n g h w = bound_range_convex p u a b t n g.0 h.0 w.low w.high

least_is_least : (p : Problem) (u : UsedBound) (t : Rational) (low : Option Rational) → HasLeastBound p u low → InBoundRange p u t → IfSome low (λ a. a ≤ℚ t)
least_is_least p u t None g h = tt
least_is_least p u t (Some a) g h = g.1 t h

greatest_is_greatest : (p : Problem) (u : UsedBound) (t : Rational) (high : Option Rational) → HasGreatestBound p u high → InBoundRange p u t → IfSome high (λ b. t ≤ℚ b)
greatest_is_greatest p u t None g h = tt
greatest_is_greatest p u t (Some b) g h = g.1 t h

pub between_bound_ends : (p : Problem) (u : UsedBound) (low high : Option Rational) → HasBoundEnds p u low high → (t : Rational) → IsWithin low high t ↔ InBoundRange p u t
between_bound_ends p u low high s t = (inside_ends p u low high t s.continuous s.has_least s.has_greatest, λ h. record { low = least_is_least p u t low s.has_least h; high = greatest_is_greatest p u t high s.has_greatest h })
