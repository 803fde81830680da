-- A point or a ray of a problem with columns for forms, without the forms' numbers, is one of the problem without them.
use Rattle.std.proofs.Common.{◌≡◌, ◌∙◌, ℕ, zero, suc, ◌+◌, List, [], ◌∷◌, ◌++◌, map, Bool, true, false, not, ◌&&◌, ◌||◌, refl, sym, ap, Option, Some, None, length, arith}
use Rattle.std.specs.Prelude.{drop, option_map}
use Rattle.std.proofs.lemmas.Bool.{and_parts, and_from}
use mathlib.Core.Path.{ap₂}
use Rattle.rational.specs.Rational.{Rational, ◌+ℚ◌, ◌*ℚ◌, zero_ℚ}
use Rattle.rational.specs.Compare.{is_less, is_same, is_whole}
use Rattle.milp.specs.Form.{Entry, number_at, sum_at}
use Rattle.milp.specs.Problem.{Column, Row, Problem}
use Rattle.milp.specs.Points.{objective_value, sign_of}
use Rattle.verdicts.specs.Proves.{lies_above, lies_below, bound_for, meets_columns, meets_rows, meets, is_improving_ray, point_passes, value_passes, ray_passes}
use Rattle.row_columns.specs.Extended.{moved, moved_row, IsExtended}
use Rattle.row_columns.proofs.ExtendedParts.{as_many_columns}

pub number_dropped : (n : ℕ) (x : List Rational) (j : ℕ) → number_at x (n + j) ≡ number_at (drop n x) j
number_dropped zero x j = let e : 0 + j ≡ j = omega arith in ap (number_at x) e
number_dropped (suc n) [] j = refl
number_dropped (suc n) (v ∷ vs) j = let e : suc n + j ≡ suc (n + j) = omega arith in ap (number_at (v ∷ vs)) e ∙ number_dropped n vs j

pub sum_dropped : (n : ℕ) (x : List Rational) (form : List Entry) → sum_at x (moved n form) ≡ sum_at (drop n x) form
sum_dropped n x [] = refl
sum_dropped n x (e ∷ es) = ap₂ ◌+ℚ◌ (ap (λ v. e.coefficient *ℚ v) (number_dropped n x e.column)) (sum_dropped n x es)

columns_dropped : (ray : Bool) (columns cs : List Column) (x : List Rational) → meets_columns ray (columns ++ cs) x ≡ true → meets_columns ray cs (drop (length columns) x) ≡ true
columns_dropped ray [] cs x h = h
columns_dropped ray (c ∷ columns) cs [] h = cc
columns_dropped ray (c ∷ columns) cs (v ∷ vs) h =
    let both = and_parts (lies_above (bound_for ray c.lower) v && lies_below (bound_for ray c.upper) v) ((not c.integer || is_whole v) && meets_columns ray (columns ++ cs) vs) h in
    columns_dropped ray columns cs vs (and_parts (not c.integer || is_whole v) (meets_columns ray (columns ++ cs) vs) both.1).1

rows_dropped : (ray : Bool) (n : ℕ) (rs more : List Row) (x : List Rational) → meets_rows ray (map (moved_row n) rs ++ more) x ≡ true → meets_rows ray rs (drop n x) ≡ true
rows_dropped ray n [] more x h = refl
rows_dropped ray n (r ∷ rs) more x h =
    let within : Rational → Bool = λ v. lies_above (bound_for ray r.lower) v && lies_below (bound_for ray r.upper) v in
    let both = and_parts (within (sum_at x (moved n r.entries))) (meets_rows ray (map (moved_row n) rs ++ more) x) h in
    and_from _ _ (ap within (sym (sum_dropped n x r.entries)) ∙ both.0) (rows_dropped ray n rs more x both.1)

parts_dropped : (ray : Bool) (p q : Problem) (forms : List (List Entry)) → IsExtended p forms q → (x : List Rational) → (meets_columns ray q.columns x && meets_rows ray q.rows x) ≡ true → (meets_columns ray p.columns (drop (length forms) x) && meets_rows ray p.rows (drop (length forms) x)) ≡ true
parts_dropped ray p q forms h x t =
    let both = and_parts (meets_columns ray q.columns x) (meets_rows ray q.rows x) t in
    and_from _ _
    (ap (λ n. meets_columns ray p.columns (drop n x)) (sym (as_many_columns forms h.columns h.are_columns)) ∙ columns_dropped ray h.columns p.columns x (ap (λ cs. meets_columns ray cs x) (sym h.all_columns) ∙ both.0))
    (rows_dropped ray (length forms) p.rows h.rows x (ap (λ rs. meets_rows ray rs x) (sym h.all_rows) ∙ both.1))

pub meets_dropped : (p q : Problem) (forms : List (List Entry)) → IsExtended p forms q → (x : List Rational) → meets q x ≡ true → meets p (drop (length forms) x) ≡ true
meets_dropped p q forms h x t = parts_dropped false p q forms h x t

pub objective_dropped : (p q : Problem) (forms : List (List Entry)) → IsExtended p forms q → (x : List Rational) → objective_value q x ≡ objective_value p (drop (length forms) x)
objective_dropped p q forms h x = ap₂ ◌+ℚ◌ (ap (sum_at x) h.objective ∙ sum_dropped (length forms) x p.objective) h.constant

ray_dropped : (p q : Problem) (forms : List (List Entry)) → IsExtended p forms q → (r : List Rational) → is_improving_ray q r ≡ true → is_improving_ray p (drop (length forms) r) ≡ true
ray_dropped p q forms h r t =
    let both = and_parts (meets_columns true q.columns r && meets_rows true q.rows r) (is_less (sign_of q.direction *ℚ sum_at r q.objective) zero_ℚ) t in
    and_from _ _ (parts_dropped true p q forms h r both.0)
    (ap (λ v. is_less v zero_ℚ) (sym (ap₂ ◌*ℚ◌ (ap sign_of h.direction) (ap (sum_at r) h.objective ∙ sum_dropped (length forms) r p.objective))) ∙ both.1)

-- ---- the parts of a certificate

pub point_restored : (p q : Problem) (forms : List (List Entry)) → IsExtended p forms q → (o : Option (List Rational)) → point_passes q o ≡ true → point_passes p (option_map (drop (length forms)) o) ≡ true
point_restored p q forms h None t = cc
point_restored p q forms h (Some x) t = meets_dropped p q forms h x t

pub value_restored : (p q : Problem) (forms : List (List Entry)) → IsExtended p forms q → (o : Option (List Rational)) (v : Option Rational) → value_passes q o v ≡ true → value_passes p (option_map (drop (length forms)) o) v ≡ true
value_restored p q forms h None v t = cc
value_restored p q forms h (Some x) None t = cc
value_restored p q forms h (Some x) (Some v) t = ap (is_same v) (sym (objective_dropped p q forms h x)) ∙ t

pub ray_restored : (p q : Problem) (forms : List (List Entry)) → IsExtended p forms q → (o : Option (List Rational)) → ray_passes q o ≡ true → ray_passes p (option_map (drop (length forms)) o) ≡ true
ray_restored p q forms h None t = cc
ray_restored p q forms h (Some r) t = ray_dropped p q forms h r t
