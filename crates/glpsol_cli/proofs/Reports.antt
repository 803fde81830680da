-- What the checker's acceptance gives of a certificate: the parts that its report shows.
use Rattle.std.proofs.Common.{◌≡◌, ℕ, suc, Bool, true, false, cond, not, ◌&&◌, ◌||◌, ◌==◌, List, [], ◌∷◌, length, Some, None, Option, refl, sym, ap, subst, ◌∙◌}
use Rattle.std.specs.Prelude.{Result, Ok, Err, IsOk, IsSome, IsSomeAnd, codes}
use Rattle.rational.specs.Rational.{Rational, zero_ℚ, ◌*ℚ◌}
use Rattle.milp.specs.Points.{sign_of}
use Rattle.rational.specs.Compare.{is_less, is_whole}
use Rattle.milp.specs.Problem.{Column, Row, Problem}
use Rattle.verdicts.specs.Certificate.{Verdict, Optimal, Infeasible, Unbounded, Certificate}
use Rattle.verdicts.specs.Proves.{Part, Proves, lies_above, lies_below, bound_for, meets_columns}
use Rattle.verdicts.specs.Proves as of
use Rattle.fraction.specs.declared.frac.NoFit.{NoFit}
use Rattle.instance.specs.Sums.{and_then, sum_answer, rows_answer}
use Rattle.cert_check.specs.Sums.{and_also}
use Rattle.cert_check.specs.Parts.{point_answer, value_answer, ray_rows_answer, ray_answer}
use Rattle.cert_check.specs.Outcome.{Outcome, Acceptance, Refusal, Fault, judged, outcome, trials, verdict_trials, value_trials, ray_trials, tree_trials, form_goal}
use Rattle.gmpl_generate.specs.Solved.{RowsFit}
use Rattle.solution_writer.specs.Subset.{subset_report}
use Rattle.solution_writer.specs.Report.{IsShownPoint, HasParts, IsReportable, verdict_report, summary_by, optimal_summary, optimal_at, unbounded_at, optimal_report, unbounded_report, translated_report}
use Rattle.std.specs.Option.{option_map}
use Rattle.command_line.specs.declared.settings.Settings.{Settings}
use Rattle.command_line.specs.declared.settings.Task.{Task}
use Rattle.glpsol_cli.specs.Asked.{wants_summary}
use Rattle.glpsol_cli.specs.Pieces.{Piece}
use Rattle.glpsol_cli.specs.Meaning.{Declared, IsAsked, accepted_pieces, found_pieces, printed, report_by, solved_pieces, whole_report}
use Rattle.glpsol_cli.specs.Stages.{IsFinding, IsShown, reached_by}
use Rattle.glpsol_cli.specs.declared.found.Finding.{Finding}
use Rattle.glpsol_cli.specs.declared.found.Finding.TheVariants.{Size, Acceptance as AcceptanceFound, Verdict as VerdictFound, Subset as SubsetFound}

-- ---- tests that passed

differ : ◌≡◌ {A = Result Bool NoFit} (Ok false) (Ok true) → ⊥
differ e = cc

no_fault : (e : NoFit) → ◌≡◌ {A = Result Bool NoFit} (Err e) (Ok true) → ⊥
no_fault e h = cc

cond_true : (b : Bool) (a : Result Bool NoFit) → cond b a (Ok false) ≡ Ok true → (b ≡ true) × (a ≡ Ok true)
cond_true true a h = (refl, h)
cond_true false a h = absurd (differ h)

first_true : (b : Bool) (rest : Result Bool NoFit) → and_also (Ok b) rest ≡ Ok true → b ≡ true
first_true true rest h = refl
first_true false rest h = absurd (differ h)

second_true : (a b : Bool) → (a && b) ≡ true → b ≡ true
second_true true b h = h
second_true false b h = cc

-- ---- points

as_long : (ray : Bool) (columns : List Column) (x : List Rational) → meets_columns ray columns x ≡ true → length x ≡ length columns
as_long ray [] [] h = refl
as_long ray [] (v ∷ vs) h = cc
as_long ray (c ∷ cs) [] h = cc
as_long ray (c ∷ cs) (v ∷ vs) h =
    let inside : Bool = lies_above (bound_for ray c.lower) v && lies_below (bound_for ray c.upper) v in
    let whole : Bool = not c.integer || is_whole v in
    let more : Bool = meets_columns ray cs vs in
    ap suc (as_long ray cs vs (second_true whole more (second_true inside (whole && more) h)))

rows_fit : (x : List Rational) (rows : List Row) → rows_answer x rows ≡ Ok true → RowsFit x rows
rows_fit x [] h = tt
rows_fit x (r ∷ rs) h = let parts = row_fits (sum_answer x zero_ℚ r.entries) h in (parts.0, rows_fit x rs parts.1)
  where
    row_fits : (s : Result Rational NoFit) → and_then s (λ v. cond (lies_above r.lower v && lies_below r.upper v) (rows_answer x rs) (Ok false)) ≡ Ok true → IsOk s × (rows_answer x rs ≡ Ok true)
    row_fits (Ok v) k = (refl, (cond_true (lies_above r.lower v && lies_below r.upper v) (rows_answer x rs) k).1)
    row_fits (Err e) k = absurd (no_fault e k)

shown_point : (p : Problem) (o : Option (List Rational)) → point_answer p o ≡ Ok true → IsSomeAnd o (IsShownPoint p)
shown_point p None h = absurd (differ h)
shown_point p (Some x) h =
    let met = cond_true (meets_columns false p.columns x) (rows_answer x p.rows) h in
    (as_long false p.columns x met.0, rows_fit x p.rows met.1)

long_point : (p : Problem) (o : Option (List Rational)) → point_answer p o ≡ Ok true → IsSomeAnd o (λ x. length x ≡ length p.columns)
long_point p None h = absurd (differ h)
long_point p (Some x) h = as_long false p.columns x (cond_true (meets_columns false p.columns x) (rows_answer x p.rows) h).0

long_ray : (p : Problem) (o : Option (List Rational)) → ray_answer p o ≡ Ok true → IsSomeAnd o (λ r. length r ≡ length p.columns)
long_ray p None h = absurd (differ h)
long_ray p (Some r) h =
    as_long true p.columns r (first_true (meets_columns true p.columns r) (and_also (ray_rows_answer r p.rows) (and_then (sum_answer r zero_ℚ p.objective) (λ v. Ok (is_less (sign_of p.direction *ℚ v) zero_ℚ)))) h)

has_value : (p : Problem) (o : Option (List Rational)) (v : Option Rational) → value_answer p o v ≡ Ok true → IsSome v
has_value p None v h = absurd (differ h)
has_value p (Some x) None h = absurd (differ h)
has_value p (Some x) (Some v) h = refl

-- ---- parts that were accepted

fault_is_none : (part : Part) (e : NoFit) → Fault part e ≡ Acceptance → ⊥
fault_is_none part e h = cc

refusal_is_none : (part : Part) → Refusal part ≡ Acceptance → ⊥
refusal_is_none part h = cc

accepted : (part : Part) (a : Result Bool NoFit) (rest : Outcome) → judged part a rest ≡ Acceptance → (a ≡ Ok true) × (rest ≡ Acceptance)
accepted part (Err e) rest h = absurd (fault_is_none part e h)
accepted part (Ok false) rest h = absurd (refusal_is_none part h)
accepted part (Ok true) rest h = (refl, h)

abbrev after_size : Problem → Certificate → Verdict → Outcome
after_size p c v = judged of.Size (Ok ((c.rows == length p.rows) && (c.columns == length p.columns))) (outcome (verdict_trials p c v))

after_point : (p : Problem) (c : Certificate) (v : Verdict) → after_size p c v ≡ Acceptance → outcome (verdict_trials p c v) ≡ Acceptance
after_point p c v h = (accepted of.Size (Ok ((c.rows == length p.rows) && (c.columns == length p.columns))) (outcome (verdict_trials p c v)) h).1

has_parts : (p : Problem) (c : Certificate) (v : Verdict) → after_size p c v ≡ Acceptance → HasParts p c v
has_parts p c Optimal h =
    let point = accepted of.Point (point_answer p c.point) (outcome (value_trials p c)) (after_point p c Optimal h) in
    let value = accepted of.Value (value_answer p c.point c.value) (outcome (tree_trials p (form_goal p c.value) c)) point.1 in
    (has_value p c.point c.value value.0, shown_point p c.point point.0)
has_parts p c Infeasible h = tt
has_parts p c Unbounded h =
    let point = accepted of.Point (point_answer p c.point) (outcome (ray_trials p c)) (after_point p c Unbounded h) in
    let ray = accepted of.Ray (ray_answer p c.ray) Acceptance point.1 in
    (long_point p c.point point.0, long_ray p c.ray ray.0)

pub reportable : (p : Problem) (c : Certificate) → outcome (trials p c) ≡ Acceptance → IsReportable p c
reportable p c h = has_parts p c c.verdict h

-- a best point is shown
pub best_shown : (p : Problem) (c : Certificate) → c.verdict ≡ Optimal → outcome (trials p c) ≡ Acceptance → IsSomeAnd c.point (IsShownPoint p)
best_shown p c is h = (subst (HasParts p c) is (reportable p c h)).1

-- ---- there is a report

module _ (p : Problem) where
  optimal_there : (value : Option Rational) (point : Option (List Rational)) → IsSome value → IsSomeAnd point (IsShownPoint p) → (report : List ℕ) × (optimal_at p value point ≡ Some report)
  optimal_there None point v x = cc
  optimal_there (Some value) None v x = absurd x
  optimal_there (Some value) (Some point) v x = (optimal_report p value point, refl)

  unbounded_there : (point ray : Option (List Rational)) → IsSomeAnd point (λ x. length x ≡ length p.columns) → IsSomeAnd ray (λ r. length r ≡ length p.columns) → (report : List ℕ) × (unbounded_at p point ray ≡ Some report)
  unbounded_there None ray x r = absurd x
  unbounded_there (Some point) None x r = absurd r
  unbounded_there (Some point) (Some ray) x r = (unbounded_report p point ray, refl)

  report_there : (c : Certificate) (v : Verdict) → HasParts p c v → (report : List ℕ) × (verdict_report p c v ≡ Some report)
  report_there c Optimal h = optimal_there c.value c.point h.0 h.1
  report_there c Infeasible h = (codes "INFEASIBLE\n", refl)
  report_there c Unbounded h = unbounded_there c.point c.ray h.0 h.1

  summary_there : (c : Certificate) (v : Verdict) → HasParts p c v → (report : List ℕ) × (summary_by p c v ≡ Some report)
  summary_there c Optimal h = value_there c.value h.0
    where
      nothing : IsSome {T = Rational} None → ⊥
      nothing h = cc

      value_there : (value : Option Rational) → IsSome value → (report : List ℕ) × (optimal_summary p value ≡ Some report)
      value_there None h = absurd (nothing h)
      value_there (Some value) h = (_, refl)
  summary_there c Infeasible h = (_, refl)
  summary_there c Unbounded h = (_, refl)

pub has_report : (summary : Bool) (p : Problem) (c : Certificate) → IsReportable p c → (report : List ℕ) × (report_by summary p c ≡ Some report)
has_report true p c h = summary_there p c c.verdict h
has_report false p c h = report_there p c c.verdict h

-- ---- what is found has pieces

pub declared_same : (p q : Problem) → Some (Declared p) ≡ Some (Declared q) → p ≡ q
declared_same p q e = cc

pub shown : (p : Problem) (s : Settings) (texts : List (List ℕ)) (f : Finding) → IsAsked s texts p → IsFinding p s texts f → IsShown s.task p f
shown p s texts Size asked h = tt
shown p s texts (AcceptanceFound c) asked h = subst (λ q. Proves q c) (declared_same h.problem p (sym h.asked ∙ asked)) h.holds.proves
shown p s texts (VerdictFound c) asked h = (reportable p c h.2, h.3)
shown p s texts (SubsetFound c w) asked h = h.infeasible

pub shown_pieces : (task : Task) (p : Problem) (f : Finding) → IsShown task p f → (pieces : List Piece) × (found_pieces task p (reached_by f) ≡ Some pieces)
shown_pieces task p Size h = (printed (translated_report p), refl)
shown_pieces task p (AcceptanceFound c) h = (accepted_pieces task p c, refl)
shown_pieces task p (VerdictFound c) h =
    let report = has_report (wants_summary task) p c h.0 in
    (solved_pieces task p c report.0, ap (λ lacks. option_map (solved_pieces task p c) (whole_report lacks task p c)) h.1 ∙ ap (option_map (solved_pieces task p c)) report.1)
shown_pieces task p (SubsetFound c w) h = (solved_pieces task p c (subset_report p w.witnesses), refl)
