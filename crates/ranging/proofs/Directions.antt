-- Steps along a direction.
use Rattle.std.proofs.Common.{◌≡◌, ◌∙◌, List, refl, sym, ap, subst, Option, Some, None, IfSome, slice_get, length}
use Rattle.rational.specs.Rational.{Rational, ◌≤ℚ◌, ◌<ℚ◌, ◌+ℚ◌, ◌-ℚ◌, ◌*ℚ◌, inv_ℚ, zero_ℚ, one_ℚ}
use Rattle.rational.proofs.Laws as Q
use Rattle.milp.specs.Form.{number_at, sum_at}
use Rattle.milp.specs.Problem.{Column, Row, Problem}
use Rattle.milp.specs.Points.{IsWithin, IsHarmless, Feasible, IsUnbounded}
use Rattle.verdicts.proofs.Laws.{le_by}
use Rattle.ranging.specs.BoundRanges.{AllContinuous}
use Rattle.ranging.proofs.Order.{difference, some_above, inverse_above}
use Rattle.ranging.proofs.Mixtures.{mixed, mixed_size, mixed_number, mixed_sum}
use Rattle.ranging.proofs.Meeting.{not_whole}

-- z + q * r
abbrev pub along : Rational → List Rational → List Rational → List Rational
along q z r = mixed one_ℚ q z r

within_along : (q v d : Rational) (lower upper : Option Rational) → zero_ℚ ≤ℚ q → IsWithin lower upper v → IsHarmless lower upper d → IsWithin lower upper (one_ℚ *ℚ v +ℚ q *ℚ d)
within_along q v d lower upper g h k = record { low = low lower h.low k.low; high = high upper h.high k.high }
  where
    low : (o : Option Rational) → IfSome o (λ b. b ≤ℚ v) → IfSome o (λ b. zero_ℚ ≤ℚ d) → IfSome o (λ b. b ≤ℚ one_ℚ *ℚ v +ℚ q *ℚ d)
    low None i j = tt
    low (Some b) i j = le_by _ _ _ _ (sym (Q.add-zero b)) refl (Q.add-le-add _ _ _ _ (le_by _ _ _ _ refl (Q.one-mul v) i) (le_by _ _ _ _ (sym (Q.mul-zero q)) refl (Q.mul-le-mul q zero_ℚ d g j)))

    high : (o : Option Rational) → IfSome o (λ b. v ≤ℚ b) → IfSome o (λ b. d ≤ℚ zero_ℚ) → IfSome o (λ b. one_ℚ *ℚ v +ℚ q *ℚ d ≤ℚ b)
    high None i j = tt
    high (Some b) i j = le_by _ _ _ _ refl (sym (Q.add-zero b)) (Q.add-le-add _ _ _ _ (le_by _ _ _ _ (Q.one-mul v) refl i) (le_by _ _ _ _ refl (sym (Q.mul-zero q)) (Q.mul-le-mul q d zero_ℚ g j)))

column_along : (q v d : Rational) (o : Option Column) → zero_ℚ ≤ℚ q → IfSome o (λ c. IsWithin c.lower c.upper v) → IfSome o (λ c. IsHarmless c.lower c.upper d) → IfSome o (λ c. IsWithin c.lower c.upper (one_ℚ *ℚ v +ℚ q *ℚ d))
column_along q v d None g h k = tt
column_along q v d (Some c) g h k = within_along q v d c.lower c.upper g h k

row_along : (q : Rational) (z r : List Rational) (o : Option Row) → length z ≡ length r → zero_ℚ ≤ℚ q → IfSome o (λ w. IsWithin w.lower w.upper (sum_at z w.entries)) → IfSome o (λ w. IsHarmless w.lower w.upper (sum_at r w.entries)) → IfSome o (λ w. IsWithin w.lower w.upper (sum_at (along q z r) w.entries))
row_along q z r None e g h k = tt
row_along q z r (Some w) e g h k = rw (mixed_sum one_ℚ q z r w.entries e) (within_along q (sum_at z w.entries) (sum_at r w.entries) w.lower w.upper g h k)

pub along_feasible : (p : Problem) (q : Rational) (z r : List Rational) → AllContinuous p → zero_ℚ ≤ℚ q → IsUnbounded p z r → Feasible p (along q z r)
along_feasible p q z r n g h =
    let f = h.feasible.relaxed in
    let e : length z ≡ length r = f.size ∙ sym h.ray.size in
    record {
      relaxed = record {
        size = mixed_size one_ℚ q z r e ∙ f.size;
        columns = λ j. let P : Rational → Type 0 = λ v. IfSome (slice_get p.columns j) (λ c. IsWithin c.lower c.upper v) in subst P (sym (mixed_number one_ℚ q z r j e)) (column_along q (number_at z j) (number_at r j) (slice_get p.columns j) g (f.columns j) (h.ray.columns j));
        rows = λ i. row_along q z r (slice_get p.rows i) e g (f.rows i) (h.ray.rows i);
      };
      integers = λ j. not_whole (slice_get p.columns j) (number_at (along q z r) j) (n j);
    }

-- how far to go: from v by steps of d, which is above 0, to t
pub steps : (v t d : Rational) → zero_ℚ <ℚ d → ((t -ℚ v) *ℚ inv_ℚ d) *ℚ d ≡ t -ℚ v
steps v t d h = Q.mul_assoc (t -ℚ v) (inv_ℚ d) d ∙ ap (λ y. (t -ℚ v) *ℚ y) (Q.mul_comm (inv_ℚ d) d ∙ Q.mul-inv d (some_above d h)) ∙ Q.mul-one (t -ℚ v)

pub enough : (v t d : Rational) → v ≤ℚ t → zero_ℚ <ℚ d → zero_ℚ ≤ℚ (t -ℚ v) *ℚ inv_ℚ d
enough v t d g h = le_by _ _ _ _ (sym (Q.mul-zero (t -ℚ v))) refl (Q.mul-le-mul (t -ℚ v) zero_ℚ (inv_ℚ d) (difference v t g) (inverse_above d h))
