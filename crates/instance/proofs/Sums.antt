-- A sum that fits is the sum.
use Rattle.std.proofs.Common.{◌≡◌, ◌<◌, ℕ, zero, suc, refl, ◌+◌, ◌&&◌, nat_le, nat_lt, not, List, [], ◌∷◌, length, get_or, slice_get, Bool, true, false, cond, sym, ap, subst, arith, Result, Ok, Err, IfOk}
use Rattle.std.specs.List.{All}
use Rattle.std.proofs.lemmas.Bool.{and_parts, ltb-true}
use Rattle.rational.specs.Rational.{Rational, zero_ℚ, ◌+ℚ◌, ◌*ℚ◌}
use Rattle.rational.proofs.Laws as Q
use Rattle.milp.specs.Form.{Entry, number_at, sum_at}
use Rattle.milp.specs.Problem.{Row, Problem}
use Rattle.milp.specs.Points.{objective_value}
use Rattle.fraction.specs.declared.frac.NoFit.{NoFit}
use Rattle.fraction.specs.Fits.{fits, sum_fits}
use Rattle.fraction.specs.Answers.{add_answer}
use Rattle.rational.specs.Compare.{is_zero}
use Rattle.instance.specs.WellFormed.{are_entries_from, are_entries}
use Rattle.instance.specs.Sums.{and_then, sum_answer, form_of, value_answer}

ok_then : {B : Type 0} → (t : Bool) (v : Rational) (e : NoFit) (f : Rational → Result B NoFit) (P : B → Type 0) → IfOk (f v) P → IfOk (and_then (cond t (Ok v) (Err e)) f) P
ok_then true v e f P h = h
ok_then false v e f P h = tt

product_then : (t : Bool) (p : Rational) (d : NoFit) (g f : Rational → Result Rational NoFit) (P : Rational → Type 0) → IfOk (and_then (g p) f) P → IfOk (and_then (and_then (cond t (Ok p) (Err d)) g) f) P
product_then true p d g f P h = h
product_then false p d g f P h = tt

from_total : (x : List Rational) (total : Rational) (es : List Entry) → IfOk (sum_answer x total es) (λ v. v ≡ total +ℚ sum_at x es)
from_total x total [] = sym (Q.add-zero total)
from_total x total (e ∷ es) =
    let p = e.coefficient *ℚ number_at x e.column in
    let P : Rational → Type 0 = λ v. v ≡ total +ℚ (p +ℚ sum_at x es) in
    let Q' : Rational → Type 0 = λ w. IfOk (sum_answer x (total +ℚ p) es) (λ v. v ≡ w) in
    product_then (fits p) p _ (add_answer total) (λ s. sum_answer x s es) P (ok_then (sum_fits total p) (total +ℚ p) _ (λ s. sum_answer x s es) P (subst Q' (Q.add_assoc total p (sum_at x es)) (from_total x (total +ℚ p) es)))

pub sum_fits_ok : (x : List Rational) (es : List Entry) → IfOk (sum_answer x zero_ℚ es) (λ v. v ≡ sum_at x es)
sum_fits_ok x es =
    let Q' : Rational → Type 0 = λ w. IfOk (sum_answer x zero_ℚ es) (λ v. v ≡ w) in
    subst Q' (Q.zero-add (sum_at x es)) (from_total x zero_ℚ es)

pub sum_ok : (x : List Rational) (es : List Entry) (r : Result Rational NoFit) → r ≡ sum_answer x zero_ℚ es → IfOk r (λ v. v ≡ sum_at x es)
sum_ok x es r h =
    let P : Result Rational NoFit → Type 0 = λ r. IfOk r (λ v. v ≡ sum_at x es) in
    subst P (sym h) (sum_fits_ok x es)

-- the sum's answer leads on from the sum itself
pub then_sum : {B : Type 0} → (x : List Rational) (es : List Entry) (f : Rational → Result B NoFit) (P : B → Type 0) → IfOk (f (sum_at x es)) P → IfOk (and_then (sum_answer x zero_ℚ es) f) P
then_sum x es f P h = go (sum_answer x zero_ℚ es) (sum_fits_ok x es)
  where
    go : (r : Result Rational NoFit) → IfOk r (λ v. v ≡ sum_at x es) → IfOk (and_then r f) P
    go (Ok v) e = let R : Rational → Type 0 = λ v. IfOk (f v) P in subst R (sym e) h
    go (Err d) e = tt

if_fits : (t : Bool) (v : Rational) (e : NoFit) → IfOk (cond t (Ok v) (Err e)) (λ w. w ≡ v)
if_fits true v e = refl
if_fits false v e = tt

pub value_ok : (p : Problem) (x : List Rational) (r : Result Rational NoFit) → r ≡ value_answer p x → IfOk r (λ v. v ≡ objective_value p x)
value_ok p x r h =
    let P : Result Rational NoFit → Type 0 = λ r. IfOk r (λ v. v ≡ objective_value p x) in
    subst P (sym h) (then_sum x p.objective (λ v. add_answer v p.constant) (λ v. v ≡ objective_value p x) (if_fits (sum_fits (sum_at x p.objective) p.constant) (objective_value p x) _))

-- ---- the columns of a well-formed form are those of the point

first_in_range : (least n : ℕ) (e : Entry) (es : List Entry) → are_entries_from least n (e ∷ es) ≡ true → (e.column < n) × (are_entries_from (e.column + 1) n es ≡ true)
first_in_range least n e es h =
    let low = and_parts (nat_le least e.column) (nat_lt e.column n && (not (is_zero e.coefficient) && are_entries_from (e.column + 1) n es)) h in
    let column = and_parts (nat_lt e.column n) (not (is_zero e.coefficient) && are_entries_from (e.column + 1) n es) low.1 in
    (ltb-true e.column n column.0, (and_parts (not (is_zero e.coefficient)) (are_entries_from (e.column + 1) n es) column.1).1)

in_range : (least n m : ℕ) (es : List Entry) → m ≡ n → are_entries_from least n es ≡ true → (k : ℕ) (d : Entry) → k < length es → (get_or es k d).column < m
in_range least n m [] is h k d small = absurd (omega arith)
in_range least n m (e ∷ es) is h zero d small = let lt : e.column < n = (first_in_range least n e es h).0 in omega (arith, lt, is)
in_range least n m (e ∷ es) is h (suc k) d small = in_range (e.column + 1) n m es is (first_in_range least n e es h).1 k d (omega arith)

pub form_in_range : (n m : ℕ) (es : List Entry) → m ≡ n → are_entries n es ≡ true → All (λ (e : Entry). e.column < m) es
form_in_range n m es is h = in_range 0 n m es is h

pub row_at : (rows : List Row) (i : ℕ) (r : Row) → i < length rows → r ≡ get_or rows i r → form_of (slice_get rows i) ≡ r.entries
row_at [] i r small is = absurd (omega arith)
row_at (s ∷ rs) zero r small is = ap (λ (r : Row). r.entries) (sym is)
row_at (s ∷ rs) (suc i) r small is = row_at rs i r (omega arith) is
