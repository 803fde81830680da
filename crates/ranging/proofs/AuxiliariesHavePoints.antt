-- Each auxiliary problem has a point: the cost that stands with the weights of a leaf, or the best point with no distance.
use Rattle.std.proofs.Common.{◌≡◌, ◌∙◌, ℕ, zero, suc, ◌+◌, ◌<◌, ◌==◌, cond, List, [], ◌∷◌, ◌++◌, Bool, true, false, refl, sym, ap, Some, IfSome, IsTrue, slice_get, option_and_then, length, arith}
use Rattle.std.proofs.lemmas.Bool.{eqb-true}
use mathlib.Core.Path.{ap₂}
use Rattle.rational.specs.Rational.{Rational, ◌+ℚ◌, ◌-ℚ◌, ◌*ℚ◌, neg_ℚ, zero_ℚ}
use Rattle.rational.proofs.Laws as Q
use Rattle.milp.specs.Form.{Entry, number_at, sum_at}
use Rattle.milp.specs.Problem.{Row, Problem}
use Rattle.milp.specs.declared.Direction.{Direction}
use Rattle.milp.specs.Points.{IsWithin, IsWhole, Feasible, objective_value, sign_of}
use Rattle.verdicts.specs.Certificate.{Version, Weights, Bound}
use Rattle.verdicts.specs.WeightedSums.{coefficient_of}
use Rattle.verdicts.specs.Proves.{node_passes}
use Rattle.verdicts.proofs.Laws.{le_by, coefficient-scaled}
use Rattle.ranging.specs.TightBounds.{tight_forms, AllNonNegative, FormsInRange}
use Rattle.ranging.specs.CostAuxiliary.{cost_coefficient, given_cost, cost_row, cost_rows, weight_columns, cost_auxiliary}
use Rattle.ranging.specs.BoundRanges.{BoundSide, Lower, Upper, with_side, with_row_bound, bound_of, used_bound, weight_using, AllContinuous}
use Rattle.ranging.specs.BoundAuxiliary.{unnamed_auxiliary, bound_auxiliary}
use Rattle.ranging.proofs.Meeting.{RowMeets, Meets, not_whole}
use Rattle.ranging.proofs.CostRows.{row_sum, length-weight_columns}
use Rattle.ranging.proofs.TightWeights.{SpansObjective, leaf_spans_objective}
use Rattle.ranging.proofs.BoundPoints.{point_of_auxiliary}
use Rattle.ranging.proofs.PlaceNames.{named_feasible}

-- ---- of a cost

weights_within : (ws : List Rational) (i : ℕ) (fs : List (List Entry)) → length ws ≡ length fs → AllNonNegative ws → (m : ℕ) → IfSome (slice_get (weight_columns i fs) m) (λ c. IsWithin c.lower c.upper (number_at ws m))
weights_within ws i [] e h m = tt
weights_within [] i (f ∷ fs) e h m = absurd (omega arith)
weights_within (w ∷ ws) i (f ∷ fs) e h zero = record { low = h.0; high = tt }
weights_within (w ∷ ws) i (f ∷ fs) e h (suc m) = weights_within ws (suc i) fs (omega arith) h.1 m

weights_continuous : (i : ℕ) (fs : List (List Entry)) (m : ℕ) → IfSome (slice_get (weight_columns i fs) m) (λ c. c.integer ≡ false)
weights_continuous i [] m = tt
weights_continuous i (f ∷ fs) zero = refl
weights_continuous i (f ∷ fs) (suc m) = weights_continuous (suc i) fs m

rows_within : (p : Problem) (x : List Rational) (j : ℕ) (z : List Rational) (k n : ℕ) → ((i : ℕ) → i < k + n → sum_at z (cost_row p x j i).entries ≡ given_cost p j i) → (i : ℕ) → IfSome (slice_get (cost_rows p x j k n) i) (λ r. IsWithin r.lower r.upper (sum_at z r.entries))
rows_within p x j z k zero h i = tt
rows_within p x j z k (suc n) h zero = let e = h k (omega arith) in record { low = le_by _ _ _ _ refl e (Q.le_refl _); high = le_by _ _ _ _ e refl (Q.le_refl _) }
rows_within p x j z k (suc n) h (suc i) = rows_within p x j z (suc k) n (λ m l. h m (omega arith)) i

-- the cost that stands, and what it has in the rows
own_cost : (p : Problem) (j k : ℕ) → cost_coefficient p j k *ℚ coefficient_of p.objective j +ℚ sign_of p.direction *ℚ coefficient_of p.objective k ≡ given_cost p j k
own_cost p j k = go (k == j) refl
  where
    go : (b : Bool) → (k == j) ≡ b → cond b (neg_ℚ (sign_of p.direction)) zero_ℚ *ℚ coefficient_of p.objective j +ℚ sign_of p.direction *ℚ coefficient_of p.objective k ≡ cond b zero_ℚ (sign_of p.direction *ℚ coefficient_of p.objective k)
    go true g =
        ap₂ (λ a i. a +ℚ sign_of p.direction *ℚ coefficient_of p.objective i) (Q.neg_mul (sign_of p.direction) (coefficient_of p.objective j)) (eqb-true k j g)
        ∙ Q.add_comm _ _ ∙ Q.add-neg _
    go false g = ap (λ a. a +ℚ sign_of p.direction *ℚ coefficient_of p.objective k) (Q.zero-mul _) ∙ Q.zero-add _

spanned_is_point : (p : Problem) (x : List Rational) (j : ℕ) (d : Direction) → SpansObjective p x → (ws : List Rational) × Feasible (cost_auxiliary p x j d) (coefficient_of p.objective j ∷ ws)
spanned_is_point p x j d s = (
  s.spanned.weights,
  record {
    relaxed = record {
      size = ap suc (s.spanned.size ∙ sym (length-weight_columns 1 (tight_forms p x)));
      columns = columns;
      rows = rows_within p x j (coefficient_of p.objective j ∷ s.spanned.weights) 0 (length p.columns) (λ k l.
          row_sum p x j k (coefficient_of p.objective j) s.spanned.weights s.spanned.size
          ∙ ap (λ v. cost_coefficient p j k *ℚ coefficient_of p.objective j +ℚ v) (s.spanned.same k ∙ s.same k (omega arith) ∙ coefficient-scaled (sign_of p.direction) p.objective k)
          ∙ own_cost p j k);
    };
    integers = integers;
  },
)
  where
    columns : (i : ℕ) → IfSome (slice_get (cost_auxiliary p x j d).columns i) (λ c. IsWithin c.lower c.upper (number_at (coefficient_of p.objective j ∷ s.spanned.weights) i))
    columns zero = record { low = tt; high = tt }
    columns (suc m) = weights_within s.spanned.weights 1 (tight_forms p x) s.spanned.size s.spanned.signs m

    continuous : (i : ℕ) → IfSome (slice_get (cost_auxiliary p x j d).columns i) (λ c. c.integer ≡ false)
    continuous zero = refl
    continuous (suc m) = weights_continuous 1 (tight_forms p x) m

    integers : (i : ℕ) → IfSome (slice_get (cost_auxiliary p x j d).columns i) (λ c. IsTrue c.integer → IsWhole (number_at (coefficient_of p.objective j ∷ s.spanned.weights) i))
    integers i = not_whole (slice_get (cost_auxiliary p x j d).columns i) (number_at (coefficient_of p.objective j ∷ s.spanned.weights) i) (continuous i)

-- the weights that show x best are a point, with the cost as it stands
pub cost_has_point : (p : Problem) (x : List Rational) (j : ℕ) (d : Direction) (v : Version) (w : Weights) → FormsInRange p → Feasible p x → node_passes p v (Some (objective_value p x)) [] [] (Bound w) ≡ true → (ws : List Rational) × Feasible (cost_auxiliary p x j d) (coefficient_of p.objective j ∷ ws)
cost_has_point p x j d v w f h passes = spanned_is_point p x j d (leaf_spans_objective p x v w f h passes)

-- ---- of a bound

side_meets : (x : List Rational) (s : BoundSide) (b : Rational) (r : Row) → bound_of s r ≡ Some b → RowMeets x r → RowMeets x (with_side s b r)
unfolding RowMeets
side_meets x Lower b r e m = record { low = rw e at m.low; high = m.high }
side_meets x Upper b r e m = record { low = m.low; high = rw e at m.high }

own_bound_meets : (x : List Rational) (s : BoundSide) (b : Rational) (i : ℕ) (rs : List Row) → option_and_then (bound_of s) (slice_get rs i) ≡ Some b → Meets x rs → Meets x (with_row_bound i s b rs)
own_bound_meets x s b i [] e m k = tt
own_bound_meets x s b zero (r ∷ rs) e m zero = side_meets x s b r e (m zero)
own_bound_meets x s b zero (r ∷ rs) e m (suc k) = m (suc k)
own_bound_meets x s b (suc i) (r ∷ rs) e m zero = m zero
own_bound_meets x s b (suc i) (r ∷ rs) e m (suc k) = own_bound_meets x s b i rs e (λ n. m (suc n)) k

-- the point itself, where the bound does not move
pub bound_has_point : (p : Problem) (x : List Rational) (w : Weights) (i : ℕ) (s : BoundSide) (b : Rational) (d : Direction) → FormsInRange p → AllContinuous p → Feasible p x → option_and_then (bound_of s) (slice_get p.rows i) ≡ Some b → Feasible (bound_auxiliary p (used_bound p x w i s b) d) (x ++ zero_ℚ ∷ [])
unfolding RowMeets
bound_has_point p x w i s b d f n h e =
    named_feasible (unnamed_auxiliary p (used_bound p x w i s b) d) (x ++ zero_ℚ ∷ [])
    (point_of_auxiliary p (used_bound p x w i s b) d zero_ℚ x f n (record {
      feasible = record {
        relaxed = record {
          size = h.relaxed.size;
          columns = h.relaxed.columns;
          rows = own_bound_meets x s (b +ℚ zero_ℚ) i p.rows (e ∙ ap Some (sym (Q.add-zero b))) h.relaxed.rows;
        };
        integers = h.integers;
      };
      value = sym (ap (λ v. sign_of p.direction *ℚ sum_at x p.objective +ℚ weight_using i s w.rows *ℚ v) (unmoved b) ∙ ap (λ v. sign_of p.direction *ℚ sum_at x p.objective +ℚ v) (Q.mul-zero _) ∙ Q.add-zero _);
    }))
  where
    unmoved : (b : Rational) → (b +ℚ zero_ℚ) -ℚ b ≡ zero_ℚ
    unmoved b = ap (λ v. v -ℚ b) (Q.add-zero b) ∙ Q.add-neg b
