-- Weights on the bounds that are tight at a point show that no feasible point has less of the form that they make.
use Rattle.std.proofs.Common.{◌≡◌, ◌∙◌, ℕ, zero, suc, ◌+◌, ◌<◌, List, [], ◌∷◌, ◌++◌, Bool, true, false, refl, sym, ap, subst, Option, Some, None, IfSome, slice_get, length, if◌then◌else◌, arith}
use mathlib.Core.Path.{ap₂}
use Rattle.std.specs.Prelude.{negsuc}
use Rattle.rational.specs.Rational.{Rational, ◌≤ℚ◌, ◌+ℚ◌, ◌*ℚ◌, neg_ℚ, zero_ℚ, one_ℚ, whole}
use Rattle.rational.specs.Compare.{is_same}
use Rattle.rational.proofs.Laws as Q
use Rattle.rational.proofs.Laws.{same_true}
use Rattle.milp.specs.Form.{Entry, number_at, sum_at}
use Rattle.milp.specs.Problem.{Column, Row, Problem}
use Rattle.milp.specs.Points.{IsWithin, Feasible, sign_of, objective_value}
use Rattle.verdicts.specs.WeightedSums.{scaled, sum_below, coefficient_of, AllBelow}
use Rattle.verdicts.proofs.Laws.{le_by, neg_le, minus_one-mul, value-append, value-scaled, value_by_column}
use Rattle.ranging.specs.CostRanges.{with_cost, InCostRange, HasLowestCost, HasHighestCost}
use Rattle.ranging.specs.TightBounds.{RowsInRange, FormsInRange, if_tight, tight_at, tight_rows, tight_columns, tight_forms, weighted_sum, AllNonNegative, IsTightSum}
use Rattle.ranging.proofs.CostRanges.{feasible_with, feasible_back}
use Rattle.ranging.proofs.Places.{place_here, place_behind, from_first}

-- ---- tight forms do not fall

abbrev AllRise : List Rational → List Rational → List (List Entry) → Type 0
AllRise x y [] = Unit {0}
AllRise x y (f ∷ fs) = (sum_at x f ≤ℚ sum_at y f) × AllRise x y fs

low_rises : (x y : List Rational) (form : List Entry) (lower : Option Rational) (rest : List (List Entry)) → IfSome lower (λ b. b ≤ℚ sum_at y form) → AllRise x y rest → AllRise x y (if_tight lower (sum_at x form) form rest)
low_rises x y form None rest h r = r
low_rises x y form (Some b) rest h r = go (is_same b (sum_at x form)) refl
  where
    go : (t : Bool) → is_same b (sum_at x form) ≡ t → AllRise x y (if t then form ∷ rest else rest)
    go true e = (le_by _ _ _ _ (sym (same_true b (sum_at x form) e)) refl h, r)
    go false e = r

high_rises : (x y : List Rational) (form : List Entry) (upper : Option Rational) (rest : List (List Entry)) → IfSome upper (λ b. sum_at y form ≤ℚ b) → AllRise x y rest → AllRise x y (if_tight upper (sum_at x form) (scaled (whole (negsuc 0)) form) rest)
high_rises x y form None rest h r = r
high_rises x y form (Some b) rest h r = go (is_same b (sum_at x form)) refl
  where
    negated : (z : List Rational) → sum_at z (scaled (whole (negsuc 0)) form) ≡ neg_ℚ (sum_at z form)
    negated z = value-scaled (number_at z) (whole (negsuc 0)) form ∙ minus_one-mul (sum_at z form)

    go : (t : Bool) → is_same b (sum_at x form) ≡ t → AllRise x y (if t then scaled (whole (negsuc 0)) form ∷ rest else rest)
    go true e = (le_by _ _ _ _ (negated x) (negated y) (neg_le _ _ (le_by _ _ _ _ refl (sym (same_true b (sum_at x form) e)) h)), r)
    go false e = r

rise_at : (x y : List Rational) (form : List Entry) (lower upper : Option Rational) (rest : List (List Entry)) → IsWithin lower upper (sum_at y form) → AllRise x y rest → AllRise x y (tight_at x form lower upper rest)
rise_at x y form lower upper rest h r = low_rises x y form lower _ h.low (high_rises x y form upper rest h.high r)

rows_rise : (x y : List Rational) (rs : List Row) → ((i : ℕ) → IfSome (slice_get rs i) (λ r. IsWithin r.lower r.upper (sum_at y r.entries))) → AllRise x y (tight_rows x rs)
rows_rise x y [] h = tt
rows_rise x y (r ∷ rs) h = rise_at x y r.entries r.lower r.upper _ (h zero) (rows_rise x y rs (λ n. h (suc n)))

columns_rise : (x y : List Rational) (at : ℕ) (cs : List Column) (rest : List (List Entry)) → ((i : ℕ) → IfSome (slice_get cs i) (λ c. IsWithin c.lower c.upper (number_at y (at + i)))) → AllRise x y rest → AllRise x y (tight_columns x at cs rest)
columns_rise x y at [] rest h r = r
columns_rise x y at (c ∷ cs) rest h r =
    let P : Rational → Type 0 = λ v. IsWithin c.lower c.upper v in
    let here : number_at y (at + 0) ≡ sum_at y (record { column = at; coefficient = one_ℚ } ∷ []) = ap (number_at y) (place_here at) ∙ sym (Q.add-zero _ ∙ Q.one-mul _) in
    rise_at x y (record { column = at; coefficient = one_ℚ } ∷ []) c.lower c.upper _ (subst P here (h zero))
    (columns_rise x y (suc at) cs rest (λ i. let R : ℕ → Type 0 = λ k. IfSome (slice_get cs i) (λ d. IsWithin d.lower d.upper (number_at y k)) in subst R (sym (place_behind at i)) (h (suc i))) r)

all_rise : (p : Problem) (x y : List Rational) → Feasible p y → AllRise x y (tight_forms p x)
all_rise p x y f = columns_rise x y 0 p.columns _ (λ i. let R : ℕ → Type 0 = λ k. IfSome (slice_get p.columns i) (λ d. IsWithin d.lower d.upper (number_at y k)) in subst R (sym (from_first i)) (f.relaxed.columns i)) (rows_rise x y p.rows f.relaxed.rows)

weighted_sum_rises : (x y ws : List Rational) (fs : List (List Entry)) → AllNonNegative ws → AllRise x y fs → sum_at x (weighted_sum ws fs) ≤ℚ sum_at y (weighted_sum ws fs)
weighted_sum_rises x y [] fs h r = Q.le_refl zero_ℚ
weighted_sum_rises x y (w ∷ ws) [] h r = Q.le_refl zero_ℚ
weighted_sum_rises x y (w ∷ ws) (f ∷ fs) h r = le_by _ _ _ _ (split x) (split y) (Q.add-le-add _ _ _ _ (Q.mul-le-mul w _ _ h.0 r.0) (weighted_sum_rises x y ws fs h.1 r.1))
  where
    split : (z : List Rational) → sum_at z (scaled w f ++ weighted_sum ws fs) ≡ w *ℚ sum_at z f +ℚ sum_at z (weighted_sum ws fs)
    split z = value-append (number_at z) (scaled w f) (weighted_sum ws fs) ∙ ap (λ v. v +ℚ sum_at z (weighted_sum ws fs)) (value-scaled (number_at z) w f)

-- ---- all forms speak of the problem's columns

abbrev pub AllFormsBelow : ℕ → List (List Entry) → Type 0
AllFormsBelow n [] = Unit {0}
AllFormsBelow n (f ∷ fs) = AllBelow n f × AllFormsBelow n fs

pub below_append : (n : ℕ) (f g : List Entry) → AllBelow n f → AllBelow n g → AllBelow n (f ++ g)
below_append n [] g h k = k
below_append n (e ∷ f) g h k = (h.0, below_append n f g h.1 k)

pub below_scaled : (n : ℕ) (s : Rational) (es : List Entry) → AllBelow n es → AllBelow n (scaled s es)
below_scaled n s [] h = tt
below_scaled n s (e ∷ es) h = (h.0, below_scaled n s es h.1)

if_below : (n : ℕ) (o : Option Rational) (v : Rational) (form : List Entry) (rest : List (List Entry)) → AllBelow n form → AllFormsBelow n rest → AllFormsBelow n (if_tight o v form rest)
if_below n None v form rest h r = r
if_below n (Some b) v form rest h r = go (is_same b v)
  where
    go : (t : Bool) → AllFormsBelow n (if t then form ∷ rest else rest)
    go true = (h, r)
    go false = r

at_below : (n : ℕ) (x : List Rational) (form : List Entry) (lower upper : Option Rational) (rest : List (List Entry)) → AllBelow n form → AllFormsBelow n rest → AllFormsBelow n (tight_at x form lower upper rest)
at_below n x form lower upper rest h r = if_below n lower _ form _ h (if_below n upper _ _ rest (below_scaled n (whole (negsuc 0)) form h) r)

rows_below : (n : ℕ) (x : List Rational) (rs : List Row) → RowsInRange n rs → AllFormsBelow n (tight_rows x rs)
rows_below n x [] h = tt
rows_below n x (r ∷ rs) h = at_below n x r.entries r.lower r.upper _ h.0 (rows_below n x rs h.1)

columns_below : (n : ℕ) (x : List Rational) (at : ℕ) (cs : List Column) (rest : List (List Entry)) → at + length cs ≡ n → AllFormsBelow n rest → AllFormsBelow n (tight_columns x at cs rest)
columns_below n x at [] rest e r = r
columns_below n x at (c ∷ cs) rest e r = at_below n x (record { column = at; coefficient = one_ℚ } ∷ []) c.lower c.upper _ (omega arith, tt) (columns_below n x (suc at) cs rest (omega arith) r)

weighted_sum_below : (n : ℕ) (ws : List Rational) (fs : List (List Entry)) → AllFormsBelow n fs → AllBelow n (weighted_sum ws fs)
weighted_sum_below n [] fs h = tt
weighted_sum_below n (w ∷ ws) [] h = tt
weighted_sum_below n (w ∷ ws) (f ∷ fs) h = below_append n (scaled w f) (weighted_sum ws fs) (below_scaled n w f h.0) (weighted_sum_below n ws fs h.1)

pub tight_below : (p : Problem) (x : List Rational) → FormsInRange p → AllFormsBelow (length p.columns) (tight_forms p x)
tight_below p x f = columns_below (length p.columns) x 0 p.columns _ (omega arith) (rows_below (length p.columns) x p.rows f.rows)

-- ---- together

same_below : (n : ℕ) (f g : ℕ → Rational) → ((k : ℕ) → k < n → f k ≡ g k) → sum_below n f ≡ sum_below n g
same_below zero f g h = refl
same_below (suc n) f g h = ap₂ ◌+ℚ◌ (h n (omega arith)) (same_below n f g (λ k l. h k (omega arith)))

-- forms with the same coefficients have the same value
pub value_by_coefficients : (n : ℕ) (z : List Rational) (f g : List Entry) → AllBelow n f → AllBelow n g → ((k : ℕ) → k < n → coefficient_of f k ≡ coefficient_of g k) → sum_at z f ≡ sum_at z g
value_by_coefficients n z f g b c h = value_by_column n (number_at z) f b ∙ same_below n _ _ (λ k l. ap (λ c. c *ℚ number_at z k) (h k l)) ∙ sym (value_by_column n (number_at z) g c)

-- no feasible point has less of the form than x
pub tight_sum_least : (p : Problem) (x ws : List Rational) (form : List Entry) → FormsInRange p → AllBelow (length p.columns) form → IsTightSum p x ws form → (y : List Rational) → Feasible p y → sum_at x form ≤ℚ sum_at y form
tight_sum_least p x ws form f b w y h = le_by _ _ _ _ (value x) (value y) (weighted_sum_rises x y ws (tight_forms p x) w.signs (all_rise p x y h))
  where
    value : (z : List Rational) → sum_at z form ≡ sum_at z (weighted_sum ws (tight_forms p x))
    value z = value_by_coefficients (length p.columns) z form (weighted_sum ws (tight_forms p x)) b (weighted_sum_below (length p.columns) ws (tight_forms p x) (tight_below p x f)) (λ k l. sym (w.same k l))

-- weights that make the objective with the cost t show that x is best with it
pub tight_sum_best : (p : Problem) (x ws : List Rational) (j : ℕ) (t : Rational) → FormsInRange p → AllBelow (length p.columns) (with_cost p j t).objective → Feasible p x → IsTightSum p x ws (scaled (sign_of p.direction) (with_cost p j t).objective) → InCostRange p x j t
tight_sum_best p x ws j t f b h w = record {
  feasible = feasible_with p j t x h;
  best = λ y k l. Q.lt-not-le _ _ l (le_by _ _ _ _ (parts x) (parts y) (Q.add-le-add _ _ _ _ (tight_sum_least p x ws _ f (below_scaled (length p.columns) (sign_of p.direction) (with_cost p j t).objective b) w y (feasible_back p j t y k)) (Q.le_refl (sign_of p.direction *ℚ p.constant))));
}
  where
    parts : (z : List Rational) → sign_of p.direction *ℚ objective_value (with_cost p j t) z ≡ sum_at z (scaled (sign_of p.direction) (with_cost p j t).objective) +ℚ sign_of p.direction *ℚ p.constant
    parts z = Q.mul_add _ _ _ ∙ ap (λ v. v +ℚ sign_of p.direction *ℚ p.constant) (sym (value-scaled (number_at z) (sign_of p.direction) (with_cost p j t).objective))

single : (s : Rational) (j : ℕ) (z : List Rational) → sum_at z (record { column = j; coefficient = s } ∷ []) ≡ s *ℚ number_at z j
single s j z = Q.add-zero _

-- weights that make the column with_cost_alone show that there is no end
pub tight_sum_no_highest : (p : Problem) (x ws : List Rational) (j : ℕ) → FormsInRange p → j < length p.columns → IsTightSum p x ws (record { column = j; coefficient = sign_of p.direction } ∷ []) → HasHighestCost p x j None
tight_sum_no_highest p x ws j f l w = λ y h. le_by _ _ _ _ (sym (single (sign_of p.direction) j x)) (sym (single (sign_of p.direction) j y)) (tight_sum_least p x ws _ f (l, tt) w y h)

pub tight_sum_no_lowest : (p : Problem) (x ws : List Rational) (j : ℕ) → FormsInRange p → j < length p.columns → IsTightSum p x ws (record { column = j; coefficient = neg_ℚ (sign_of p.direction) } ∷ []) → HasLowestCost p x j None
tight_sum_no_lowest p x ws j f l w = λ y h. le_by _ _ _ _ (turned y) (turned x) (neg_le _ _ (tight_sum_least p x ws _ f (l, tt) w y h))
  where
    turned : (z : List Rational) → sign_of p.direction *ℚ number_at z j ≡ neg_ℚ (sum_at z (record { column = j; coefficient = neg_ℚ (sign_of p.direction) } ∷ []))
    turned z = sym (ap neg_ℚ (single (neg_ℚ (sign_of p.direction)) j z ∙ Q.neg_mul _ _) ∙ Q.neg_neg _)
