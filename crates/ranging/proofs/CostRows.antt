-- What stands in the rows of the auxiliary problem of a cost's end.
use Rattle.std.proofs.Common.{◌≡◌, ◌∙◌, ℕ, zero, suc, ◌+◌, ◌<◌, List, [], ◌∷◌, Bool, true, false, cond, ◌==◌, refl, sym, ap, subst, Some, IfSome, slice_get, get_or, length, if◌then◌else◌, arith}
use Rattle.std.proofs.lemmas.Bool.{eqb-true}
use Rattle.std.proofs.lemmas.Bool.Decides.{nat_tests}
use mathlib.Core.Path.{ap₂}
use Rattle.rational.specs.Rational.{Rational, ◌+ℚ◌, ◌*ℚ◌, neg_ℚ, zero_ℚ}
use Rattle.rational.specs.Compare.{is_zero}
use Rattle.rational.proofs.Laws as Q
use Rattle.rational.proofs.Laws.{field, field_units, signs, zero_true}
use Rattle.milp.specs.Form.{Entry, number_at, sum_at}
use Rattle.milp.specs.Problem.{Problem}
use Rattle.milp.specs.Points.{sign_of}
use Rattle.verdicts.specs.WeightedSums.{scaled, coefficient_of}
use Rattle.verdicts.proofs.Laws.{coefficient-append, coefficient-scaled}
use Rattle.ranging.specs.CostRanges.{without_column, with_cost}
use Rattle.ranging.specs.TightBounds.{tight_forms, weighted_sum}
use Rattle.ranging.specs.CostAuxiliary.{entry_unless_zero, coefficients_at, cost_coefficient, given_cost, cost_row, cost_rows, weight_columns}
use Rattle.ranging.proofs.Places.{place_here, place_behind}

-- ---- the coefficients of an objective with another cost

without_is_gone : (j : ℕ) (es : List Entry) → coefficient_of (without_column j es) j ≡ zero_ℚ
without_is_gone j [] = refl
without_is_gone j (e ∷ es) = go (e.column == j) refl (without_is_gone j es)
  where
    go : (b : Bool) → (e.column == j) ≡ b → coefficient_of (without_column j es) j ≡ zero_ℚ → coefficient_of (if b then without_column j es else e ∷ without_column j es) j ≡ zero_ℚ
    go true g h = h
    go false g h = rw (g, h) (Q.add-zero zero_ℚ)

others_stay : (j k : ℕ) (es : List Entry) → (k == j) ≡ false → coefficient_of (without_column j es) k ≡ coefficient_of es k
others_stay j k [] d = refl
others_stay j k (e ∷ es) d = go (e.column == j) refl (others_stay j k es d)
  where
    other : (a : ℕ) → (a == j) ≡ true → (a == k) ≡ false
    other a g = let h : ¬ (k ≡ j) = grind (arith, nat_tests) in let i : a ≡ j = eqb-true a j g in grind (arith, nat_tests)

    go : (b : Bool) → (e.column == j) ≡ b → coefficient_of (without_column j es) k ≡ coefficient_of es k → coefficient_of (if b then without_column j es else e ∷ without_column j es) k ≡ cond (e.column == k) e.coefficient zero_ℚ +ℚ coefficient_of es k
    go true g h = h ∙ sym (ap (λ b. cond b e.coefficient zero_ℚ +ℚ coefficient_of es k) (other e.column g) ∙ Q.zero-add _)
    go false g h = ap (λ v. cond (e.column == k) e.coefficient zero_ℚ +ℚ v) h

pub turned : (a b : ℕ) (t : Bool) → (a == b) ≡ t → (b == a) ≡ t
turned a b true g = grind (arith, nat_tests)
turned a b false g = grind (arith, nat_tests)

coefficient-with_cost : (p : Problem) (j k : ℕ) (t : Rational) (b : Bool) → (k == j) ≡ b → coefficient_of (with_cost p j t).objective k ≡ cond b t (coefficient_of p.objective k)
coefficient-with_cost p j k t true g =
    ap₂ (λ b v. cond b t zero_ℚ +ℚ v) (turned k j true g) (let P : ℕ → Type 0 = λ n. coefficient_of (without_column j p.objective) n ≡ zero_ℚ in subst P (sym (eqb-true k j g)) (without_is_gone j p.objective)) ∙ Q.add-zero t
coefficient-with_cost p j k t false g = ap₂ (λ b v. cond b t zero_ℚ +ℚ v) (turned k j false g) (others_stay j k p.objective g) ∙ Q.zero-add _

-- the objective with the cost t is what is given, and t times what the cost has in the rows taken away
pub given_and_cost : (p : Problem) (j k : ℕ) (t : Rational) → given_cost p j k +ℚ neg_ℚ t *ℚ cost_coefficient p j k ≡ sign_of p.direction *ℚ coefficient_of (with_cost p j t).objective k
given_and_cost p j k t = go (k == j) refl
  where
    own : (s t : Rational) → zero_ℚ +ℚ neg_ℚ t *ℚ neg_ℚ s ≡ s *ℚ t
    own s t = Q.zero-add _ ∙ Q.neg_mul t (neg_ℚ s) ∙ ap neg_ℚ (Q.mul_neg t s) ∙ Q.neg_neg _ ∙ Q.mul_comm t s

    go : (b : Bool) → (k == j) ≡ b → cond b zero_ℚ (sign_of p.direction *ℚ coefficient_of p.objective k) +ℚ neg_ℚ t *ℚ cond b (neg_ℚ (sign_of p.direction)) zero_ℚ ≡ sign_of p.direction *ℚ coefficient_of (with_cost p j t).objective k
    go true g = own (sign_of p.direction) t ∙ sym (ap (λ v. sign_of p.direction *ℚ v) (coefficient-with_cost p j k t true g))
    go false g = ap (λ v. sign_of p.direction *ℚ coefficient_of p.objective k +ℚ v) (Q.mul-zero (neg_ℚ t)) ∙ Q.add-zero _ ∙ sym (ap (λ v. sign_of p.direction *ℚ v) (coefficient-with_cost p j k t false g))

-- ---- entries without zeros

pub value-unless_zero : (z : List Rational) (i : ℕ) (c : Rational) (rest : List Entry) → sum_at z (entry_unless_zero i c rest) ≡ c *ℚ number_at z i +ℚ sum_at z rest
value-unless_zero z i c rest = go (is_zero c) refl
  where
    go : (b : Bool) → is_zero c ≡ b → sum_at z (if b then rest else record { column = i; coefficient = c } ∷ rest) ≡ c *ℚ number_at z i +ℚ sum_at z rest
    go true g = sym (ap (λ v. v *ℚ number_at z i +ℚ sum_at z rest) (zero_true c g) ∙ ap (λ v. v +ℚ sum_at z rest) (Q.zero-mul _) ∙ Q.zero-add _)
    go false g = refl

coefficient-unless_zero : (i : ℕ) (c : Rational) (rest : List Entry) (k : ℕ) → coefficient_of (entry_unless_zero i c rest) k ≡ cond (i == k) c zero_ℚ +ℚ coefficient_of rest k
coefficient-unless_zero i c rest k = go (is_zero c) refl
  where
    none : (b : Bool) → cond b zero_ℚ zero_ℚ ≡ zero_ℚ
    none true = refl
    none false = refl

    go : (b : Bool) → is_zero c ≡ b → coefficient_of (if b then rest else record { column = i; coefficient = c } ∷ rest) k ≡ cond (i == k) c zero_ℚ +ℚ coefficient_of rest k
    go true g = sym (ap (λ v. cond (i == k) v zero_ℚ +ℚ coefficient_of rest k) (zero_true c g) ∙ ap (λ v. v +ℚ coefficient_of rest k) (none (i == k)) ∙ Q.zero-add _)
    go false g = refl

-- ---- a row's sum

coefficients_value : (z : List Rational) (k i : ℕ) (ws : List Rational) (fs : List (List Entry)) → length ws ≡ length fs → ((n : ℕ) → number_at z (i + n) ≡ number_at ws n) → sum_at z (coefficients_at k i fs) ≡ coefficient_of (weighted_sum ws fs) k
coefficients_value z k i [] [] e h = refl
coefficients_value z k i [] (f ∷ fs) e h = absurd (omega arith)
coefficients_value z k i (w ∷ ws) [] e h = refl
coefficients_value z k i (w ∷ ws) (f ∷ fs) e h =
    value-unless_zero z i (coefficient_of f k) (coefficients_at k (suc i) fs)
    ∙ ap₂ ◌+ℚ◌ (ap (λ v. coefficient_of f k *ℚ v) here ∙ Q.mul_comm _ w) (coefficients_value z k (suc i) ws fs (omega arith) (λ n. ap (number_at z) (place_behind i n) ∙ h (suc n)))
    ∙ sym (coefficient-append (scaled w f) (weighted_sum ws fs) k ∙ ap (λ v. v +ℚ coefficient_of (weighted_sum ws fs) k) (coefficient-scaled w f k))
  where
    here : number_at z i ≡ w
    here = ap (number_at z) (sym (place_here i)) ∙ h zero

-- the cost, and the weighted sum of the tight forms
pub row_sum : (p : Problem) (x : List Rational) (j k : ℕ) (t : Rational) (ws : List Rational) → length ws ≡ length (tight_forms p x) → sum_at (t ∷ ws) (cost_row p x j k).entries ≡ cost_coefficient p j k *ℚ t +ℚ coefficient_of (weighted_sum ws (tight_forms p x)) k
row_sum p x j k t ws e =
    value-unless_zero (t ∷ ws) 0 (cost_coefficient p j k) (coefficients_at k 1 (tight_forms p x))
    ∙ ap (λ v. cost_coefficient p j k *ℚ t +ℚ v) (coefficients_value (t ∷ ws) k 1 ws (tight_forms p x) e (λ n. ap (number_at (t ∷ ws)) (one_on n)))
  where
    one_on : (n : ℕ) → 1 + n ≡ suc n
    one_on n = omega arith

-- ---- a row's coefficients

none_before : (k i l : ℕ) (fs : List (List Entry)) → l < i → coefficient_of (coefficients_at k i fs) l ≡ zero_ℚ
none_before k i l [] h = refl
none_before k i l (f ∷ fs) h =
    coefficient-unless_zero i (coefficient_of f k) (coefficients_at k (suc i) fs) l
    ∙ ap₂ (λ b v. cond b (coefficient_of f k) zero_ℚ +ℚ v) different (none_before k (suc i) l fs (omega arith)) ∙ Q.zero-add zero_ℚ
  where
    different : (i == l) ≡ false
    different = grind (arith, nat_tests)

form_at : (k i m : ℕ) (fs : List (List Entry)) → coefficient_of (coefficients_at k i fs) (i + m) ≡ coefficient_of (get_or fs m []) k
form_at k i m [] = refl
form_at k i zero (f ∷ fs) =
    coefficient-unless_zero i (coefficient_of f k) (coefficients_at k (suc i) fs) (i + 0)
    ∙ ap₂ (λ b v. cond b (coefficient_of f k) zero_ℚ +ℚ v) same (none_before k (suc i) (i + 0) fs (omega arith)) ∙ Q.add-zero _
  where
    same : (i == (i + 0)) ≡ true
    same = grind (arith, nat_tests)
form_at k i (suc m) (f ∷ fs) =
    coefficient-unless_zero i (coefficient_of f k) (coefficients_at k (suc i) fs) (i + suc m)
    ∙ ap₂ (λ b v. cond b (coefficient_of f k) zero_ℚ +ℚ v) different (ap (coefficient_of (coefficients_at k (suc i) fs)) (sym (place_behind i m)) ∙ form_at k (suc i) m fs) ∙ Q.zero-add _
  where
    different : (i == (i + suc m)) ≡ false
    different = grind (arith, nat_tests)

pub coefficient_of_cost : (p : Problem) (x : List Rational) (j k : ℕ) → coefficient_of (cost_row p x j k).entries 0 ≡ cost_coefficient p j k
coefficient_of_cost p x j k =
    coefficient-unless_zero 0 (cost_coefficient p j k) (coefficients_at k 1 (tight_forms p x)) 0
    ∙ ap (λ v. cost_coefficient p j k +ℚ v) (none_before k 1 0 (tight_forms p x) (omega arith)) ∙ Q.add-zero _

pub coefficient_of_weight : (p : Problem) (x : List Rational) (j k m : ℕ) → coefficient_of (cost_row p x j k).entries (suc m) ≡ coefficient_of (get_or (tight_forms p x) m []) k
coefficient_of_weight p x j k m =
    coefficient-unless_zero 0 (cost_coefficient p j k) (coefficients_at k 1 (tight_forms p x)) (suc m)
    ∙ ap (λ b. cond b (cost_coefficient p j k) zero_ℚ +ℚ coefficient_of (coefficients_at k 1 (tight_forms p x)) (suc m)) different
    ∙ Q.zero-add _ ∙ ap (coefficient_of (coefficients_at k 1 (tight_forms p x))) (one_more m) ∙ form_at k 1 m (tight_forms p x)
  where
    different : (0 == suc m) ≡ false
    different = grind (arith, nat_tests)

    one_more : (m : ℕ) → suc m ≡ 1 + m
    one_more m = omega arith

-- ---- rows and columns by their places

pub row_there : (p : Problem) (x : List Rational) (j k n i : ℕ) → i < n → slice_get (cost_rows p x j k n) i ≡ Some (cost_row p x j (k + i))
row_there p x j k zero i h = absurd (omega arith)
row_there p x j k (suc n) zero h = ap (λ m. Some (cost_row p x j m)) (sym (place_here k))
row_there p x j k (suc n) (suc i) h = row_there p x j (suc k) n i (omega arith) ∙ ap (λ m. Some (cost_row p x j m)) (place_behind k i)

pub row_at : (p : Problem) (x : List Rational) (j k n i : ℕ) → IfSome (slice_get (cost_rows p x j k n) i) (λ r. r ≡ cost_row p x j (k + i))
row_at p x j k zero i = tt
row_at p x j k (suc n) zero = ap (cost_row p x j) (sym (place_here k))
row_at p x j k (suc n) (suc i) = let P : ℕ → Type 0 = λ m. IfSome (slice_get (cost_rows p x j (suc k) n) i) (λ r. r ≡ cost_row p x j m) in subst P (place_behind k i) (row_at p x j (suc k) n i)

pub length-weight_columns : (i : ℕ) (fs : List (List Entry)) → length (weight_columns i fs) ≡ length fs
length-weight_columns i [] = refl
length-weight_columns i (f ∷ fs) = ap suc (length-weight_columns (suc i) fs)
