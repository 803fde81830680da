-- What the checker's acceptance of a certificate of one leaf says of its point and its weights.
use Rattle.std.proofs.Common.{◌≡◌, ◌∙◌, ◌==◌, ◌&&◌, cond, if◌then◌else◌, Bool, true, false, List, [], ◌∷◌, length, refl, sym, ap, subst, Some, None, is_some, Result, Ok, Err, IfOk}
use Rattle.std.proofs.lemmas.Option.{same_Some}
use Rattle.rational.specs.Rational.{Rational, zero_ℚ}
use Rattle.fraction.specs.declared.frac.NoFit.{NoFit}
use Rattle.milp.specs.Form.{Entry, sum_at}
use Rattle.milp.specs.Problem.{Row, Problem}
use Rattle.milp.specs.Points.{Feasible, objective_value}
use Rattle.verdicts.specs.Certificate.{Two, Weights, Optimal, Infeasible, Unbounded, Bound, Certificate}
use Rattle.verdicts.specs.Proves.{Part, Test, first_failing, Proves, Holds, lies_above, lies_below, meets_columns, node_passes, point_passes, value_passes, verdict_tests, tree_tests}
use Rattle.verdicts.specs.Proves as of
use Rattle.verdicts.proofs.Laws.{certificate_right}
use Rattle.instance.specs.Sums.{and_then, sum_answer, rows_answer}
use Rattle.instance.proofs.Laws.{sum_fits_ok}
use Rattle.rational.specs.Compare.{is_same}
use Rattle.fraction.specs.Answers.{add_answer}
use Rattle.basis.specs.Relaxation.{leaf_certificate}
use Rattle.cert_check.specs.declared.part.Checked.TheVariants.{Accepted}
use Rattle.cert_check.specs.Parts.{point_answer, value_answer}
use Rattle.cert_check.specs.Outcome.{Outcome, Acceptance, judged, outcome, trials, verdict_trials, value_trials, tree_trials, form_goal}
use Rattle.cert_check.proofs.Laws.{check_accepted}
use Rattle.branch_search.specs.Plain.{IsPlainCertificate, optimal, infeasible, unbounded}
use Rattle.exact_ranges.specs.ShownBest.{best_point, best_weights, RowsFit, IsShownBest}

-- ---- one trial, and those behind it

passed : (part : Part) (r : Result Bool NoFit) (rest : Outcome) → judged part r rest ≡ Acceptance → (r ≡ Ok true) × (rest ≡ Acceptance)
passed part (Ok true) rest h = (refl, h)
passed part (Ok false) rest h = cc
passed part (Err e) rest h = cc

-- one test, and those behind it
past : (b : Bool) (part : Part) (ts : List Test) → (if b then first_failing ts else Some part) ≡ None → (b ≡ true) × (first_failing ts ≡ None)
past true part ts h = (refl, h)
past false part ts h = cc

-- ---- sums that fit

rest_met : (b : Bool) (r : Result Bool NoFit) → cond b r (Ok false) ≡ Ok true → r ≡ Ok true
rest_met true r h = h
rest_met false r h = cc

first_fits : (x : List Rational) (es : List Entry) (r : Result Rational NoFit) (rest : Rational → Result Bool NoFit) → r ≡ sum_answer x zero_ℚ es → and_then r rest ≡ Ok true → (sum_answer x zero_ℚ es ≡ Ok (sum_at x es)) × (rest (sum_at x es) ≡ Ok true)
first_fits x es (Ok v) rest e h =
    let same : v ≡ sum_at x es = subst (λ (r : Result Rational NoFit). IfOk r (λ w. w ≡ sum_at x es)) (sym e) (sum_fits_ok x es) in
    (sym e ∙ ap (λ w. Ok w) same, subst (λ w. rest w ≡ Ok true) same h)
first_fits x es (Err f) rest e h = cc

rows_fit : (x : List Rational) (rs : List Row) → rows_answer x rs ≡ Ok true → RowsFit x rs
rows_fit x [] h = tt
rows_fit x (r ∷ rs) h =
    let first = first_fits x r.entries (sum_answer x zero_ℚ r.entries) (λ v. cond (lies_above r.lower v && lies_below r.upper v) (rows_answer x rs) (Ok false)) refl h in
    (first.0, rows_fit x rs (rest_met (lies_above r.lower (sum_at x r.entries) && lies_below r.upper (sum_at x r.entries)) (rows_answer x rs) first.1))

objective_fits : (p : Problem) (x : List Rational) (v : Rational) → value_answer p (Some x) (Some v) ≡ Ok true → sum_answer x zero_ℚ p.objective ≡ Ok (sum_at x p.objective)
objective_fits p x v h = go (sum_answer x zero_ℚ p.objective) refl h
  where
    go : (r : Result Rational NoFit) → r ≡ sum_answer x zero_ℚ p.objective → and_then (and_then r (λ f. and_then (add_answer f p.constant) (λ t. Ok (if is_same v t then Some f else None)))) (λ f. Ok (is_some f)) ≡ Ok true → sum_answer x zero_ℚ p.objective ≡ Ok (sum_at x p.objective)
    go (Ok f) e k = sym e ∙ ap (λ w. Ok w) (subst (λ (r : Result Rational NoFit). IfOk r (λ w. w ≡ sum_at x p.objective)) (sym e) (sum_fits_ok x p.objective))
    go (Err f) e k = cc

-- ---- the certificate of a point with its weights

pub leaf_passes : (p : Problem) (x : List Rational) (w : Weights) → Proves p (leaf_certificate p Optimal (Some (objective_value p x)) (Some x) (Bound w)) → node_passes p Two (Some (objective_value p x)) [] [] (Bound w) ≡ true
leaf_passes p x w h =
    let v = objective_value p x in
    let c = leaf_certificate p Optimal (Some v) (Some x) (Bound w) in
    let size = past ((length p.rows == length p.rows) && (length p.columns == length p.columns)) of.Size (verdict_tests p c Optimal) h in
    let point = past (point_passes p (Some x)) of.Point (record { part = of.Value; passes = value_passes p (Some x) (Some v) } ∷ tree_tests p (Some v) c) size.1 in
    let value = past (value_passes p (Some x) (Some v)) of.Value (tree_tests p (Some v) c) point.1 in
    (past (node_passes p Two (Some v) [] [] (Bound w)) (of.Node 1) [] value.1).0

leaf_shows : (p : Problem) (x : List Rational) (w : Weights) → outcome (trials p (leaf_certificate p Optimal (Some (objective_value p x)) (Some x) (Bound w))) ≡ Acceptance → IsShownBest p x w
leaf_shows p x w h =
    let v = objective_value p x in
    let c = leaf_certificate p Optimal (Some v) (Some x) (Bound w) in
    let proves : Proves p c = check_accepted p c (Ok Accepted) (sym h) refl in
    let right : Holds p c Optimal = certificate_right p c proves in
    let same : right.0 ≡ x = same_Some right.0 x (sym right.1) in
    let size = passed of.Size (Ok ((length p.rows == length p.rows) && (length p.columns == length p.columns))) (outcome (verdict_trials p c Optimal)) h in
    let point = passed of.Point (point_answer p (Some x)) (outcome (value_trials p c)) size.1 in
    let value = passed of.Value (value_answer p (Some x) (Some v)) (outcome (tree_trials p (form_goal p (Some v)) c)) point.1 in
    record {
      feasible = subst (Feasible p) same right.3.feasible;
      passes = leaf_passes p x w proves;
      rows_fit = rows_fit x p.rows (rest_met (meets_columns false p.columns x) (rows_answer x p.rows) point.0);
      objective_fits = objective_fits p x v value.0;
    }

-- an accepted certificate without derived rows and splits shows its point best
pub shown_best : (p : Problem) (c : Certificate) → c.verdict ≡ Optimal → IsPlainCertificate p c → outcome (trials p c) ≡ Acceptance → IsShownBest p (best_point c) (best_weights c)
shown_best p c v (optimal x w size is) h =
    subst (λ d. IsShownBest p (best_point d) (best_weights d)) (sym is) (leaf_shows p x w (subst (λ d. outcome (trials p d) ≡ Acceptance) is h))
shown_best p c v (infeasible w is) h = let never : Infeasible ≡ Optimal = ap (λ (d : Certificate). d.verdict) (sym is) ∙ v in cc
shown_best p c v (unbounded x ray size also is) h = let never : Unbounded ≡ Optimal = ap (λ (d : Certificate). d.verdict) (sym is) ∙ v in cc
