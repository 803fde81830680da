-- Steps along an improving ray stay feasible, and longer ones are better.
use Rattle.std.proofs.Common.{◌≡◌, ◌∙◌, ℕ, zero, suc, ◌+◌, ◌-◌, ◌<◌, List, [], ◌∷◌, Bool, true, false, refl, sym, ap, Option, Some, None, IfSome, slice_get, length, IsTrue, arith}
use Rattle.std.specs.Prelude.{pos, ◌+ℤ◌}
use Rattle.std.proofs.lemmas.Int.{ints}
use Rattle.rational.specs.Rational.{Rational, ◌≤ℚ◌, ◌<ℚ◌, zero_ℚ, one_ℚ, ◌*ℚ◌, ◌+ℚ◌, neg_ℚ, whole}
use Rattle.milp.specs.Form.{Entry}
use Rattle.rational.proofs.Laws as Q
use Rattle.rational.proofs.Laws.{field, field_units, signs}
use Rattle.rational.specs.Compare.{is_less}
use Rattle.milp.specs.Points.{IsWhole}
use Rattle.milp.specs.Problem.{Column, Row, Problem}
use Rattle.milp.specs.Form.{number_at, sum_at}
use Rattle.milp.specs.Points.{IsWithin, IsHarmless, Feasible, IsUnbounded, IsBetter, sign_of, objective_value}
use Rattle.verdicts.specs.Rays.{moved}
use Rattle.rational.proofs.Laws.{less_true, less_false}
use Rattle.verdicts.proofs.Numbers.{le_by, IsWhole-add, IsWhole-mul}

moved_size : (x r : List Rational) (t : ℕ) → length x ≡ length r → length (moved x t r) ≡ length x
moved_size [] r t e = refl
moved_size (v ∷ vs) [] t e = absurd (omega arith)
moved_size (v ∷ vs) (d ∷ ds) t e = ap suc (moved_size vs ds t (omega arith))

nothing : (t : ℕ) → zero_ℚ ≡ zero_ℚ +ℚ whole (pos t) *ℚ zero_ℚ
nothing t = sym (ap (λ y. zero_ℚ +ℚ y) (Q.mul-zero (whole (pos t))) ∙ Q.add-zero zero_ℚ)

moved_number : (x r : List Rational) (t j : ℕ) → length x ≡ length r → number_at (moved x t r) j ≡ number_at x j +ℚ whole (pos t) *ℚ number_at r j
moved_number [] [] t j e = nothing t
moved_number [] (d ∷ ds) t j e = absurd (omega arith)
moved_number (v ∷ vs) [] t j e = absurd (omega arith)
moved_number (v ∷ vs) (d ∷ ds) t zero e = refl
moved_number (v ∷ vs) (d ∷ ds) t (suc j) e = moved_number vs ds t j (omega arith)

moved_sum : (x r : List Rational) (t : ℕ) (es : List Entry) → length x ≡ length r → sum_at (moved x t r) es ≡ sum_at x es +ℚ whole (pos t) *ℚ sum_at r es
moved_sum x r t [] e = nothing t
moved_sum x r t (a ∷ es) e = rw (moved_number x r t a.column e, moved_sum x r t es e) (parts a.coefficient (number_at x a.column) (whole (pos t)) (number_at r a.column) (sum_at x es) (sum_at r es))
  where
    parts : (c v t d s u : Rational) → c *ℚ (v +ℚ t *ℚ d) +ℚ (s +ℚ t *ℚ u) ≡ (c *ℚ v +ℚ s) +ℚ t *ℚ (c *ℚ d +ℚ u)
    parts c v t d s u = simp field

stays_within : (lower upper : Option Rational) (v d : Rational) (t : ℕ) → IsWithin lower upper v → IsHarmless lower upper d → IsWithin lower upper (v +ℚ whole (pos t) *ℚ d)
stays_within lower upper v d t h k = record { low = low lower h.low k.low; high = high upper h.high k.high }
  where
    low : (o : Option Rational) → IfSome o (λ b. b ≤ℚ v) → IfSome o (λ b. zero_ℚ ≤ℚ d) → IfSome o (λ b. b ≤ℚ v +ℚ whole (pos t) *ℚ d)
    low None i j = tt
    low (Some b) i j = le_by _ _ _ _ (sym (Q.add-zero b)) refl (Q.add-le-add _ _ _ _ i (le_by _ _ _ _ (sym (Q.mul-zero (whole (pos t)))) refl (Q.mul-le-mul (whole (pos t)) zero_ℚ d (Q.zero-le_whole t) j)))

    high : (o : Option Rational) → IfSome o (λ b. v ≤ℚ b) → IfSome o (λ b. d ≤ℚ zero_ℚ) → IfSome o (λ b. v +ℚ whole (pos t) *ℚ d ≤ℚ b)
    high None i j = tt
    high (Some b) i j = le_by _ _ _ _ refl (sym (Q.add-zero b)) (Q.add-le-add _ _ _ _ i (le_by _ _ _ _ refl (sym (Q.mul-zero (whole (pos t)))) (Q.mul-le-mul (whole (pos t)) d zero_ℚ (Q.zero-le_whole t) j)))

pub step_feasible : (p : Problem) (x r : List Rational) → IsUnbounded p x r → (t : ℕ) → Feasible p (moved x t r)
step_feasible p x r h t =
    let f = h.feasible.relaxed in
    let e : length x ≡ length r = f.size ∙ sym h.ray.size in
    record {
      relaxed = record {
        size = moved_size x r t e ∙ f.size;
        columns = λ j. column e j (slice_get p.columns j) (f.columns j) (h.ray.columns j);
        rows = λ i. row e (slice_get p.rows i) (f.rows i) (h.ray.rows i);
      };
      integers = λ j. integer e j (slice_get p.columns j) (h.feasible.integers j) (h.ray.integers j);
    }
  where
    column : length x ≡ length r → (j : ℕ) (o : Option Column) → IfSome o (λ c. IsWithin c.lower c.upper (number_at x j)) → IfSome o (λ c. IsHarmless c.lower c.upper (number_at r j)) → IfSome o (λ c. IsWithin c.lower c.upper (number_at (moved x t r) j))
    column e j None a b = tt
    column e j (Some c) a b = rw (moved_number x r t j e) (stays_within c.lower c.upper (number_at x j) (number_at r j) t a b)

    row : length x ≡ length r → (o : Option Row) → IfSome o (λ w. IsWithin w.lower w.upper (sum_at x w.entries)) → IfSome o (λ w. IsHarmless w.lower w.upper (sum_at r w.entries)) → IfSome o (λ w. IsWithin w.lower w.upper (sum_at (moved x t r) w.entries))
    row e None a b = tt
    row e (Some w) a b = rw (moved_sum x r t w.entries e) (stays_within w.lower w.upper (sum_at x w.entries) (sum_at r w.entries) t a b)

    integer : length x ≡ length r → (j : ℕ) (o : Option Column) → IfSome o (λ c. IsTrue c.integer → IsWhole (number_at x j)) → IfSome o (λ c. IsTrue c.integer → IsWhole (number_at r j)) → IfSome o (λ c. IsTrue c.integer → IsWhole (number_at (moved x t r) j))
    integer e j None a b = tt
    integer e j (Some c) a b = λ i. rw (moved_number x r t j e) (IsWhole-add (number_at x j) (whole (pos t) *ℚ number_at r j) (a i) (IsWhole-mul (whole (pos t)) (number_at r j) refl (b i)))

-- ---- longer is better

pub lt_from_not : (a b : Rational) → ¬ (b ≤ℚ a) → a <ℚ b
lt_from_not a b h = go (is_less a b) refl
  where
    go : (t : Bool) → is_less a b ≡ t → a <ℚ b
    go true e = less_true a b e
    go false e = absurd (h (less_false a b e))

le_cancel : (a b c : Rational) → a +ℚ b ≤ℚ a +ℚ c → b ≤ℚ c
le_cancel a b c h = le_by _ _ _ _ (sym (Q.cancel_right a b)) (sym (Q.cancel_right a c)) (Q.add-le-add _ _ _ _ (Q.le_refl (neg_ℚ a)) h)

-- m below 0: k + (t + 1 + n) * m is below k + t * m
falls : (k m : Rational) (t n : ℕ) → m <ℚ zero_ℚ → k +ℚ whole (pos (t + suc n)) *ℚ m <ℚ k +ℚ whole (pos t) *ℚ m
falls k m t n h = lt_from_not _ _ (λ g.
    let split : whole (pos (t + suc n)) ≡ whole (pos t) +ℚ (whole (pos n) +ℚ one_ℚ) = ap whole (later t n) ∙ sym (ap (λ y. whole (pos t) +ℚ y) (Q.whole-add (pos n) (pos 1)) ∙ Q.whole-add (pos t) (pos n +ℤ pos 1)) in
    let less : m *ℚ whole (pos n) ≤ℚ zero_ℚ = rw (Q.mul_comm m (whole (pos n))) (le_by _ _ _ _ refl (sym (Q.mul-zero (whole (pos n)))) (Q.mul-le-mul (whole (pos n)) m zero_ℚ (Q.zero-le_whole n) (Q.le_of_lt _ _ h))) in
    let apart : k +ℚ (whole (pos t) +ℚ (whole (pos n) +ℚ one_ℚ)) *ℚ m ≡ (k +ℚ whole (pos t) *ℚ m) +ℚ (m *ℚ whole (pos n) +ℚ m) = regroup k m (whole (pos t)) (whole (pos n)) in
    let rest : zero_ℚ ≤ℚ m *ℚ whole (pos n) +ℚ m = le_cancel (k +ℚ whole (pos t) *ℚ m) zero_ℚ _ (le_by _ _ _ _ (Q.add-zero _) (sym (ap (λ w. k +ℚ w *ℚ m) split ∙ apart)) g) in
    Q.lt-not-le _ _ h (Q.le_trans _ _ _ rest (le_by _ _ _ _ refl (sym (Q.zero-add m)) (Q.add-le-add _ _ _ _ less (Q.le_refl m)))))
  where
    later : (t n : ℕ) → pos (t + suc n) ≡ pos t +ℤ (pos n +ℤ pos 1)
    later t n = omega (arith, ints)

    regroup : (k m t n : Rational) → k +ℚ (t +ℚ (n +ℚ one_ℚ)) *ℚ m ≡ (k +ℚ t *ℚ m) +ℚ (m *ℚ n +ℚ m)
    regroup k m t n = simp (field, field_units)

value_moved : (p : Problem) (x r : List Rational) (t : ℕ) → length x ≡ length r → sign_of p.direction *ℚ objective_value p (moved x t r) ≡ sign_of p.direction *ℚ objective_value p x +ℚ whole (pos t) *ℚ (sign_of p.direction *ℚ sum_at r p.objective)
value_moved p x r t e = rw (moved_sum x r t p.objective e) (parts (sign_of p.direction) (sum_at x p.objective) (whole (pos t)) (sum_at r p.objective) p.constant)
  where
    parts : (s a t b c : Rational) → s *ℚ ((a +ℚ t *ℚ b) +ℚ c) ≡ s *ℚ (a +ℚ c) +ℚ t *ℚ (s *ℚ b)
    parts s a t b c = simp field

pub step_better : (p : Problem) (x r : List Rational) → IsUnbounded p x r → (t u : ℕ) → t < u → IsBetter p (moved x u r) (moved x t r)
step_better p x r h t u l =
    let e : length x ≡ length r = h.feasible.relaxed.size ∙ sym h.ray.size in
    let more : t + suc (u - t - 1) ≡ u = omega arith in
    let f = falls (sign_of p.direction *ℚ objective_value p x) (sign_of p.direction *ℚ sum_at r p.objective) t (u - t - 1) h.ray.improves in
    rw (value_moved p x r t e, value_moved p x r u e) (rw more at f)
