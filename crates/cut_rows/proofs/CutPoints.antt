-- Points and rays of a problem with cuts as rows.
use Rattle.std.proofs.Common.{◌≡◌, ◌∙◌, List, [], ◌∷◌, ◌++◌, Bool, true, false, ◌&&◌, refl, sym, ap, Option, Some, None}
use Rattle.std.proofs.lemmas.Bool.{and_parts, and_from}
use mathlib.Core.Path.{ap₂}
use Rattle.rational.specs.Rational.{Rational, ◌+ℚ◌, ◌*ℚ◌, zero_ℚ}
use Rattle.rational.specs.Compare.{is_less, is_same}
use Rattle.milp.specs.Form.{sum_at}
use Rattle.milp.specs.Problem.{Column, Row, Problem}
use Rattle.milp.specs.Points.{Feasible, objective_value, sign_of}
use Rattle.verdicts.specs.Certificate.{Derived}
use Rattle.verdicts.specs.Proves.{lies_above, lies_below, bound_for, meets_columns, meets_rows, point_passes, value_passes, ray_passes}
use Rattle.verdicts.proofs.Laws.{meets_true, true_meets}
use Rattle.cut_rows.specs.CutProblem.{IsCutProblem}

fewer_rows : (ray : Bool) (rows more : List Row) (x : List Rational) → meets_rows ray (rows ++ more) x ≡ true → meets_rows ray rows x ≡ true
fewer_rows ray [] more x h = refl
fewer_rows ray (r ∷ rows) more x h =
    let both = and_parts (lies_above (bound_for ray r.lower) (sum_at x r.entries) && lies_below (bound_for ray r.upper) (sum_at x r.entries)) (meets_rows ray (rows ++ more) x) h in
    and_from _ _ both.0 (fewer_rows ray rows more x both.1)

parts_met : (ray : Bool) (p q : Problem) (cuts : List Derived) → IsCutProblem p cuts q → (x : List Rational) → (meets_columns ray q.columns x && meets_rows ray q.rows x) ≡ true → (meets_columns ray p.columns x && meets_rows ray p.rows x) ≡ true
parts_met ray p q cuts h x t =
    let both = and_parts (meets_columns ray q.columns x) (meets_rows ray q.rows x) t in
    and_from _ _
    (ap (λ (cs : List Column). meets_columns ray cs x) (sym h.columns) ∙ both.0)
    (fewer_rows ray p.rows h.rows x (ap (λ (rs : List Row). meets_rows ray rs x) (sym h.all_rows) ∙ both.1))

pub feasible_without : (p q : Problem) (cuts : List Derived) (x : List Rational) → IsCutProblem p cuts q → Feasible q x → Feasible p x
feasible_without p q cuts x h f = meets_true p x (parts_met false p q cuts h x (true_meets q x f))

pub same_value : (p q : Problem) (cuts : List Derived) (x : List Rational) → IsCutProblem p cuts q → objective_value q x ≡ objective_value p x
same_value p q cuts x h = ap₂ ◌+ℚ◌ (ap (sum_at x) h.objective) h.constant

-- ---- the parts of a certificate

pub point_restored : (p q : Problem) (cuts : List Derived) → IsCutProblem p cuts q → (o : Option (List Rational)) → point_passes q o ≡ true → point_passes p o ≡ true
point_restored p q cuts h None t = cc
point_restored p q cuts h (Some x) t = parts_met false p q cuts h x t

pub value_restored : (p q : Problem) (cuts : List Derived) → IsCutProblem p cuts q → (o : Option (List Rational)) (v : Option Rational) → value_passes q o v ≡ true → value_passes p o v ≡ true
value_restored p q cuts h None v t = cc
value_restored p q cuts h (Some x) None t = cc
value_restored p q cuts h (Some x) (Some v) t = ap (is_same v) (sym (same_value p q cuts x h)) ∙ t

pub ray_restored : (p q : Problem) (cuts : List Derived) → IsCutProblem p cuts q → (o : Option (List Rational)) → ray_passes q o ≡ true → ray_passes p o ≡ true
ray_restored p q cuts h None t = cc
ray_restored p q cuts h (Some r) t =
    let both = and_parts (meets_columns true q.columns r && meets_rows true q.rows r) (is_less (sign_of q.direction *ℚ sum_at r q.objective) zero_ℚ) t in
    and_from _ _ (parts_met true p q cuts h r both.0) (ap (λ v. is_less v zero_ℚ) (sym (ap₂ ◌*ℚ◌ (ap sign_of h.direction) (ap (sum_at r) h.objective))) ∙ both.1)
