-- From the certificate of the problem without its objective to that of the problem.
use Rattle.std.proofs.Common.{◌≡◌, ◌↔◌, ◌∙◌, ℕ, List, [], length, Bool, true, false, ◌&&◌, ◌==◌, refl, sym, ap, subst, Some, Result, Ok, Err, IfOk, IsTrue}
use Rattle.rational.specs.Rational.{Rational}
use Rattle.fraction.specs.declared.frac.NoFit.{NoFit}
use Rattle.instance.specs.Sums.{meets_answer}
use Rattle.instance.specs.WellFormed.{IsWellFormed}
use Rattle.milp.specs.Problem.{Problem}
use Rattle.milp.specs.Points.{Feasible, IsImprovingRay}
use Rattle.verdicts.specs.Certificate.{Verdict, Optimal, Unbounded, Certificate}
use Rattle.verdicts.specs.Proves.{Part as PartOf, first_failing, tests, Proves, Holds}
use Rattle.verdicts.specs.Proves as of
use Rattle.verdicts.proofs.Laws.{certificate_right}
use Rattle.basis.specs.Relaxation.{point_certificate}
use Rattle.basis.proofs.Laws.{unbounded_proves}
use Rattle.cert_check.specs.Parts.{point_answer, ray_answer}
use Rattle.cert_check.specs.Outcome.{Outcome, Acceptance, Fault, judged, outcome, value_trials, ray_trials, verdict_trials, trials, IfRefused}
use Rattle.cert_check.specs.declared.part.Part.{Part}
use Rattle.cert_check.specs.declared.part.Checked.{Checked}
use Rattle.cert_check.specs.declared.part.Checked.TheVariants.{Accepted, Refused}
use Rattle.search_node.specs.declared.node.Node.{Node}
use Rattle.search_node.specs.declared.fault.Site.{Site}
use Rattle.search_node.specs.Sides.{sides_of}
use Rattle.search_tree.specs.Honest.{IsHonestWay}
use Rattle.search_tree.specs.Work.{IsWorkFault}
use Rattle.branch_search.specs.Treatment.{IsRayFound}
use Rattle.branch_search.specs.Faults.{IsStuckAt, IsEndlessAt}
use Rattle.branch_search.specs.declared.fault.EndlessAt.{EndlessAt}
use Rattle.branch_search.specs.WholeFaults.{without_objective}
use Rattle.branch_search.specs.Points.{IsTestedPoint, HasPoint}
use Rattle.branch_search.proofs.Causes.{none_improves}
use Rattle.branch_search.proofs.Sites.{stuck_at}

-- ---- the verdict of the problem without its objective

holds : (p : Problem) (c : Certificate) (v : Verdict) → Proves p c → c.verdict ≡ v → Holds p c v
holds p c v h e = let H : Verdict → Type 0 = λ u. Holds p c u in subst H e (certificate_right p c h)

pub not_unbounded : (p : Problem) (c : Certificate) → Proves (without_objective p) c → c.verdict ≡ Unbounded → ⊥
not_unbounded p c h e = let k = holds (without_objective p) c Unbounded h e in none_improves p k.1 k.4.ray

feasible_too : (p : Problem) (x : List Rational) → Feasible (without_objective p) x → Feasible p x
feasible_too p x h = record {
  relaxed = record { size = h.relaxed.size; columns = h.relaxed.columns; rows = h.relaxed.rows };
  integers = h.integers;
}

past_size : (b : Bool) (rest : Outcome) → judged of.Size (Ok b) rest ≡ Acceptance → rest ≡ Acceptance
past_size true rest h = h
past_size false rest h = cc

passed : (r : Result Bool NoFit) (rest : Outcome) → judged of.Point r rest ≡ Acceptance → r ≡ Ok true
passed (Ok true) rest h = refl
passed (Ok false) rest h = cc
passed (Err e) rest h = cc

-- the test of an optimal certificate's point passes
point_passed : (p : Problem) (c : Certificate) → outcome (trials p c) ≡ Acceptance → c.verdict ≡ Optimal → point_answer p c.point ≡ Ok true
point_passed p c h e =
    let H : Verdict → Type 0 = λ v. outcome (verdict_trials p c v) ≡ Acceptance in
    let rest = subst H e (past_size ((c.rows == length p.rows) && (c.columns == length p.columns)) (outcome (verdict_trials p c c.verdict)) h) in
    passed (point_answer p c.point) (outcome (value_trials p c)) rest

pub has_point : (p : Problem) (c : Certificate) → Proves (without_objective p) c → outcome (trials (without_objective p) c) ≡ Acceptance → c.verdict ≡ Optimal → HasPoint p c
has_point p c h k e =
    let found = holds (without_objective p) c Optimal h e in
    record {
      point = found.0;
      is_there = found.1;
      tested = record {
        feasible = feasible_too p found.0 found.3.feasible;
        passes = sym (ap (point_answer p) found.1) ∙ point_passed (without_objective p) c k e;
      };
    }

-- the test of a point passes
pub tested_by : (p : Problem) (x : List Rational) (r : Result Bool NoFit) → r ≡ meets_answer p x → IfOk r (λ b. IsTrue b ↔ Feasible p x) → r ≡ Ok true → IsTestedPoint p x
tested_by p x r e h is =
    let exact = subst (λ (a : Result Bool NoFit). IfOk a (λ b. IsTrue b ↔ Feasible p x)) is h in
    record { feasible = exact.0 refl; passes = sym e ∙ is }

-- ---- the certificate of a point and a ray

pub ray_proves : (p : Problem) (x r : List Rational) (c : Certificate) → c ≡ point_certificate p x r → IsTestedPoint p x → IsImprovingRay p r → Proves p c
ray_proves p x r c is h ray = let H : Certificate → Type 0 = Proves p in subst H (sym is) (unbounded_proves p x r h.feasible ray)

-- the check does not refuse a certificate that proves its verdict
pub not_refused : (p : Problem) (c : Certificate) (r : Checked) (part : Part) → Proves p c → IfRefused r (λ q. first_failing (tests p c) ≡ Some q) → r ≡ Refused part → ⊥
not_refused p c Accepted part proves h e = cc
not_refused p c (Refused q) part proves h e = cc

fault_past_size : (b : Bool) (rest : Outcome) (part : PartOf) (e : NoFit) → judged of.Size (Ok b) rest ≡ Fault part e → rest ≡ Fault part e
fault_past_size true rest part e h = h
fault_past_size false rest part e h = cc

past_point : (r : Result Bool NoFit) (rest : Outcome) (part : PartOf) (e : NoFit) → r ≡ Ok true → judged of.Point r rest ≡ Fault part e → rest ≡ Fault part e
past_point (Ok true) rest part e is h = h
past_point (Ok false) rest part e is h = cc
past_point (Err d) rest part e is h = cc

in_ray : (r : Result Bool NoFit) (part : PartOf) (e : NoFit) → judged of.Ray r Acceptance ≡ Fault part e → r ≡ Err e
in_ray (Ok true) part e h = cc
in_ray (Ok false) part e h = cc
in_ray (Err d) part e h = cc

pub ray_fault : (p : Problem) (x r : List Rational) (c : Certificate) (part : PartOf) (e : NoFit) → c ≡ point_certificate p x r → IsTestedPoint p x → IsImprovingRay p r → outcome (trials p c) ≡ Fault part e → ray_answer p (Some r) ≡ Err e
ray_fault p x r c part e is h ray k =
    let H : Certificate → Type 0 = λ d. outcome (trials p d) ≡ Fault part e in
    let rest = past_point (point_answer p (Some x)) (outcome (ray_trials p (point_certificate p x r))) part e h.passes (fault_past_size ((length p.rows == length p.rows) && (length p.columns == length p.columns)) (outcome (verdict_trials p (point_certificate p x r) Unbounded)) part e (subst H is k)) in
    in_ray (ray_answer p (Some r)) part e rest

-- it is an operation of the work at the node where the ray was found, and there not of a ray that was judged
pub stuck_by_ray : (p : Problem) (splits : ℕ) (ray : EndlessAt) (site : Site) → IsWellFormed p.columns p.rows p.objective → IsEndlessAt p [] splits ray → ray_answer p (Some ray.endless.ray) ≡ Err site.fault → site.node ≡ ray.node → IsStuckAt p [] splits site
stuck_by_ray p splits ray site formed found fault same = go found.endless.found
  where
    Way : Node → Type 0
    Way n = IsHonestWay p [] splits (sides_of n.splits)

    Work : Node → Type 0
    Work n = IsWorkFault p [] (sides_of n.splits) site.fault

    go : IsRayFound p [] (sides_of ray.node.splits) ray.endless → IsStuckAt p [] splits site
    go (IsRayFound.judged passes) = let never : ◌≡◌ {A = Result Bool NoFit} (Ok true) (Err site.fault) = sym passes ∙ fault in cc
    go (IsRayFound.of_run run) = stuck_at p [] splits site formed refl (subst Way (sym same) found.way) (subst Work (sym same) (IsWorkFault.in_ray ray.endless.point ray.endless.ray run fault))
