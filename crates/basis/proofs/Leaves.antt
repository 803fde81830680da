-- Certificates of one leaf, and of a point and a ray.
use Rattle.std.proofs.Common.{◌≡◌, List, [], ◌∷◌, length, refl, sym, subst, arith, Bool, true, ◌==◌, Some, None}
use Rattle.std.specs.Prelude.{◌&&◌}
use Rattle.std.proofs.lemmas.Bool.Decides.{nat_tests}
use Rattle.rational.specs.Rational.{Rational, ◌*ℚ◌, ◌+ℚ◌, ◌-ℚ◌}
use Rattle.rational.proofs.Laws as Q
use Rattle.rational.proofs.Laws.{field, signs, field_units}
use Rattle.milp.specs.Form.{sum_at}
use Rattle.milp.specs.Problem.{Problem}
use Rattle.milp.specs.Points.{Feasible, IsBetter, IsImprovingRay, objective_value, sign_of}
use Rattle.verdicts.specs.Certificate.{Optimal, Infeasible, Side, Weights, Derived, Empty, Bound}
use Rattle.verdicts.specs.WeightedSums.{scaled}
use Rattle.rational.specs.Compare.{is_same}
use Rattle.verdicts.specs.Proves.{shows, refutes, terms, meets, is_improving_ray, first_failing, Part, Proves, bound_passes}
use Rattle.verdicts.proofs.Laws.{bound_under, true_meets, true_ray}
use Rattle.basis.specs.Dictionary.{Dictionary}
use Rattle.basis.specs.Node.{IsOverColumns, IsNodePoint}
use Rattle.basis.specs.Relaxation.{IsOptimalRelaxation, leaf_certificate, point_certificate, ShowsObjective, ShowsInfeasible}
use Rattle.basis.specs.declared.Place.{Place}
use Rattle.rational.proofs.Laws.{true_same}
use Rattle.basis.proofs.Ends.{optimal_weights_show}
use Rattle.basis.proofs.Optimal.{shows_leaf}
use Rattle.basis.proofs.Blocked.{refutes_leaf}

all_pass : (a b c d : Part) (t u v w : Bool) → t ≡ true → u ≡ true → v ≡ true → w ≡ true
    → first_failing (record { part = a; passes = t } ∷ record { part = b; passes = u } ∷ record { part = c; passes = v } ∷ record { part = d; passes = w } ∷ []) ≡ None
all_pass a b c d t u v w h k l m = rw (h, k, l, m) refl

three_pass : (a b c : Part) (t u v : Bool) → t ≡ true → u ≡ true → v ≡ true → first_failing (record { part = a; passes = t } ∷ record { part = b; passes = u } ∷ record { part = c; passes = v } ∷ []) ≡ None
three_pass a b c t u v h k l = rw (h, k, l) refl

two_pass : (a b : Part) (t u : Bool) → t ≡ true → u ≡ true → first_failing (record { part = a; passes = t } ∷ record { part = b; passes = u } ∷ []) ≡ None
two_pass a b t u h k = rw (h, k) refl

size_passes : (p : Problem) → ((length p.rows == length p.rows) && (length p.columns == length p.columns)) ≡ true
size_passes p = grind (arith, nat_tests)

-- s * (V - c0) for the value V of the point
value_less : (p : Problem) (x : List Rational) → objective_value p x -ℚ p.constant ≡ sum_at x p.objective
value_less p x = parts (sum_at x p.objective) p.constant
  where
    parts : (a c : Rational) → (a +ℚ c) -ℚ c ≡ a
    parts a c = simp (field, signs, field_units)

pub optimal_passes : (p : Problem) (ds : List Derived) (sides : List Side) (x : List Rational) (w : Weights) → ShowsObjective p ds sides x w → bound_passes p (Some (objective_value p x)) (terms p ds sides [] w) ≡ true
optimal_passes p ds sides x w h =
    let P : Rational → Type 0 = λ v. shows (length p.columns) (terms p ds sides [] w) (scaled (sign_of p.direction) p.objective) (sign_of p.direction *ℚ v) ≡ true in
    subst P (sym (value_less p x)) (shows_leaf p ds sides x w h)

pub optimal_is_best : (p : Problem) (ds : List Derived) (sides : List Side) (x : List Rational) (w : Weights) (b : List Place) (d : Dictionary) → IsOverColumns p ds sides → IsOptimalRelaxation p ds sides x w b d → (y : List Rational) → IsNodePoint p ds sides y → IsBetter p y x → ⊥
optimal_is_best p ds sides x w b d over h y k better =
    Q.lt-not-le _ _ better (bound_under p (objective_value p x) ds sides [] w y (optimal_passes p ds sides x w (optimal_weights_show p ds sides x w b d over h)) k.relaxed k.columns tt k.derived)

pub optimal_proves : (p : Problem) (x : List Rational) (w : Weights) → Feasible p x → ShowsObjective p [] [] x w → Proves p (leaf_certificate p Optimal (Some (objective_value p x)) (Some x) (Bound w))
optimal_proves p x w h k =
    all_pass Part.Size Part.Point Part.Value (Part.Node 1) ((length p.rows == length p.rows) && (length p.columns == length p.columns)) (meets p x) (is_same (objective_value p x) (objective_value p x))
    (bound_passes p (Some (objective_value p x)) (terms p [] [] [] w)) (size_passes p) (true_meets p x h) (true_same (objective_value p x) (objective_value p x) refl) (optimal_passes p [] [] x w k)

pub infeasible_proves : (p : Problem) (w : Weights) → ShowsInfeasible p [] [] w → Proves p (leaf_certificate p Infeasible None None (Empty w))
infeasible_proves p w k = two_pass Part.Size (Part.Node 1) ((length p.rows == length p.rows) && (length p.columns == length p.columns)) (refutes (length p.columns) (terms p [] [] [] w)) (size_passes p) (refutes_leaf p [] [] w k)

pub unbounded_proves : (p : Problem) (x ray : List Rational) → Feasible p x → IsImprovingRay p ray → Proves p (point_certificate p x ray)
unbounded_proves p x ray h k = three_pass Part.Size Part.Point Part.Ray ((length p.rows == length p.rows) && (length p.columns == length p.columns)) (meets p x) (is_improving_ray p ray) (size_passes p) (true_meets p x h) (true_ray p ray k)
