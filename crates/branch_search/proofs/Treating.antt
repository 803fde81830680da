-- What becomes of a node.
use Rattle.std.proofs.Common.{◌≡◌, ◌∙◌, ℕ, List, Bool, true, false, refl, sym, ap, subst, Option, Some, None, Result, Ok, Err, IfOk, IfErr, MatchOption}
use Rattle.std.specs.Prelude.{ℤ}
use Rattle.rational.specs.Rational.{Rational, ◌≤ℚ◌, ◌*ℚ◌, floor_ℚ}
use Rattle.rational.specs.Compare.{is_less}
use Rattle.rational.proofs.Laws.{less_false}
use Rattle.fraction.specs.declared.frac.NoFit.{NoFit as Operation}
use Rattle.milp.specs.Form.{number_at}
use Rattle.milp.specs.Problem.{Problem}
use Rattle.milp.specs.Points.{objective_value, sign_of}
use Rattle.milp.specs.declared.Direction.{Direction}
use Rattle.verdicts.specs.Certificate.{Two, Side, Split, Weights, Derived, TreeNode, Empty, Bound}
use Rattle.verdicts.specs.Proves.{node_passes}
use Rattle.verdicts.specs.Migrated.{named}
use Rattle.certificate.specs.Written.{column_split}
use Rattle.basis.specs.Node.{system_of, IsOverColumns}
use Rattle.basis.specs.Dictionary.{Dictionary}
use Rattle.basis.specs.Relaxation.{IsOptimalRelaxation, IsInfeasibleRelaxation}
use Rattle.basis.specs.declared.Place.{Place}
use Rattle.basis.proofs.Laws.{unbounded_point, unbounded_ray, optimal_weights_show, infeasible_shows}
use Rattle.cert_check.specs.Parts.{node_answer}
use Rattle.cert_check.specs.Outcome.{form_goal}
use Rattle.cert_check.proofs.Laws.{node_ok}
use Rattle.search_node.specs.Sides.{sides_of}
use Rattle.search_node.specs.declared.node.Node.{Node}
use Rattle.search_node.specs.declared.fault.Site.{Site}
use Rattle.search_node.specs.declared.fault.Stuck.{Stuck}
use Rattle.search_node.specs.declared.fault.Stuck.TheVariants as S
use Rattle.simplex.specs.Answer.{IsRelaxed, IsStuck}
use Rattle.simplex.specs.declared.answers.Relaxed.{Relaxed}
use Rattle.simplex.specs.declared.answers.Relaxed.TheVariants.{Infeasible, Unbounded}
use Rattle.simplex.specs.declared.answers.Endless.{Endless}
use Rattle.search_tree.specs.Work.{node_setting, IsWorkFault}
use Rattle.search_tree.specs.Named.{EmptyIsNamed, BoundIsNamed}
use Rattle.search_tree.specs.Pinned.{IsPinned}
use Rattle.search_tree.specs.Nodes.{IsRelaxedOptimum, IsHonestSplit, Beats}
use Rattle.search_tree.specs.Kept.{IsNoBetter}
use Rattle.branch_search.specs.Fractions.{IsFraction}
use Rattle.branch_search.specs.Treatment.{IsTreatment, IsToSplit, IsRayFound, IsEndless}
use Rattle.branch_search.specs.Tests.{IsTestFault, of_value, of_weights, of_point, IsVerdict}
use Rattle.branch_search.specs.declared.treatment.Fractional.{Fractional}
use Rattle.branch_search.specs.declared.treatment.Treatment.{Treatment}
use Rattle.branch_search.specs.declared.testing.Verdict.{Verdict}
use Rattle.branch_search.specs.declared.testing.Verdict.TheVariants.{Passed, Failed, NoFit}
use Rattle.branch_search.proofs.Floors.{lt-floor, floor-lt}

-- ---- against the best value

-- what the comparison of a value with the best one is
abbrev IsComparison : Direction → Option Rational → Rational → Bool → Type 0
IsComparison s best v r = MatchOption best (r ≡ true) (λ b. r ≡ is_less (sign_of s *ℚ v) (sign_of s *ℚ b))

no_better : (p : Problem) (best : Option Rational) (x : List Rational) (v : Rational) (r : Bool) → v ≡ objective_value p x → IsComparison p.direction best v r → r ≡ false → IsNoBetter p best (objective_value p x)
no_better p None x v r e h t = let never : true ≡ false = sym h ∙ t in cc
no_better p (Some b) x v r e h t =
    let P : Rational → Type 0 = λ y. sign_of p.direction *ℚ b ≤ℚ sign_of p.direction *ℚ y in
    subst P e (less_false _ _ (sym h ∙ t))

pub is_no_better : (p : Problem) (best : Option Rational) (x : List Rational) (v : Rational) (s : Direction) (r : Bool) → v ≡ objective_value p x → s ≡ p.direction → IsComparison s best v r → r ≡ false → IsNoBetter p best (objective_value p x)
is_no_better p best x v s r e f h t = let T : Direction → Type 0 = λ d. IsComparison d best v r in no_better p best x v r e (subst T f h) t

-- ---- what the simplex method finds

pub holds : (p : Problem) (ds : List Derived) (sides : List Side) (r : Result Relaxed Stuck) (found : Relaxed) → r ≡ Ok found → IfOk r (IsRelaxed p ds sides) → IsRelaxed p ds sides found
holds p ds sides r found e h = let P : Result Relaxed Stuck → Type 0 = λ a. IfOk a (IsRelaxed p ds sides) in subst P e h

pub endless_of : (p : Problem) (ds : List Derived) (sides : List Side) (found : Relaxed) (endless : Endless) → IsOverColumns p ds sides → found ≡ Unbounded endless → IsRelaxed p ds sides found → IsEndless p ds sides endless
endless_of p ds sides found endless over e h =
    let P : Relaxed → Type 0 = IsRelaxed p ds sides in
    let run = subst P e h in
    record { point = unbounded_point p ds sides endless.point endless.ray over run; ray = unbounded_ray p ds sides endless.point endless.ray over run; found = IsRayFound.of_run run }

pub infeasible : (p : Problem) (ds : List Derived) (sides : List Side) (found : Relaxed) (w : Weights) → found ≡ Infeasible w → IsRelaxed p ds sides found → IsInfeasibleRelaxation p ds sides w
infeasible p ds sides found w e h = let P : Relaxed → Type 0 = IsRelaxed p ds sides in subst P e h

pub stuck_fault : (p : Problem) (ds : List Derived) (node : Node) (limit : ℕ) (r : Result Relaxed Stuck) (stuck : Stuck) (site : Site) (fault : Operation) → r ≡ Err stuck → stuck ≡ S.NoFit site → fault ≡ site.fault → IfErr r (IsStuck p ds node limit) → IsWorkFault p ds (sides_of node.splits) fault
stuck_fault p ds node limit r stuck site fault e f g h =
    let P : Result Relaxed Stuck → Type 0 = λ a. IfErr a (IsStuck p ds node limit) in
    let Q : Stuck → Type 0 = IsStuck p ds node limit in
    let R : Operation → Type 0 = IsWorkFault p ds (sides_of node.splits) in
    subst R (sym g) (IsWorkFault.in_method (subst Q f (subst P e h)).fault)

-- ---- tests that don't fail

-- a test that passes by the rule does not fail
not_failing : (p : Problem) (goal : Option Rational) (ds : List Derived) (sides : List Side) (node : TreeNode) → node_passes p Two goal ds sides node ≡ true → node_answer (node_setting p ds sides) (form_goal p goal) node ≡ Ok false → ⊥
not_failing p goal ds sides node h e =
    let P : Result Bool Operation → Type 0 = λ r. IfOk r (λ b. b ≡ node_passes p Two goal ds sides node) in
    let never : false ≡ true = subst P e (node_ok p Two goal ds sides node) ∙ h in
    cc

pub refuted : EmptyIsNamed → (p : Problem) (ds : List Derived) (sides : List Side) (w : Weights) → IsOverColumns p ds sides → IsInfeasibleRelaxation p ds sides w → node_answer (node_setting p ds sides) None (Empty (named p sides w)) ≡ Ok false → ⊥
refuted law p ds sides w over h = not_failing p None ds sides (Empty (named p sides w)) (law p None ds sides w (infeasible_shows p ds sides w over h))

-- the test of weights that name the splits of the path
pub at_node : (p : Problem) (ds : List Derived) (path there : List Side) (w made : Weights) (r : Result Bool Operation) → path ≡ there → made ≡ named p path w → r ≡ node_answer (node_setting p ds path) None (Empty made) → r ≡ node_answer (node_setting p ds there) None (Empty (named p there w))
at_node p ds path there w made r e f h =
    let P : List Side → Type 0 = λ sides. r ≡ node_answer (node_setting p ds sides) None (Empty (named p sides w)) in
    subst P e (h ∙ ap (λ v. node_answer (node_setting p ds path) None (Empty v)) f)

-- where it passes, the node is refuted against any value
pub passes_at : (p : Problem) (ds : List Derived) (path there : List Side) (best : Option Rational) (made : Weights) (r : Result Bool Operation) → path ≡ there → r ≡ node_answer (node_setting p ds path) None (Empty made) → r ≡ Ok true → node_answer (node_setting p ds there) (form_goal p best) (Empty made) ≡ Ok true
passes_at p ds path there best made r e h t = let P : List Side → Type 0 = λ sides. r ≡ node_answer (node_setting p ds sides) None (Empty made) in sym (subst P e h) ∙ t

-- ---- splits

pub to_split : (p : Problem) (ds : List Derived) (sides : List Side) (best : Option Rational) (x : List Rational) (j : ℕ) (f : Fractional) (at : ℤ) (v : Rational) → IsRelaxedOptimum p ds sides x → Beats p best x → IsFraction p.columns x (Some j) → IsPinned (system_of p ds sides) x j
    → f.split ≡ column_split j at → at ≡ floor_ℚ v → v ≡ number_at x j → IsToSplit p ds sides best f
to_split p ds sides best x j f at v optimum beats fraction pinned is_split is_floor is_number =
    let here : Split = column_split j (floor_ℚ (number_at x j)) in
    let same : f.split ≡ here = is_split ∙ ap (column_split j) (is_floor ∙ ap floor_ℚ is_number) in
    record {
      split = subst (IsHonestSplit p ds sides) (sym same) (record { form = refl; integer = fraction.0; point = x; is_optimum = optimum; pinned = pinned; above = floor-lt (number_at x j) fraction.1; below = lt-floor (number_at x j) });
      treated = record { point = x; is_optimum = optimum; beats = beats; column = j; integer = fraction.0; pinned = pinned; not_whole = fraction.1 };
    }

-- ---- what a test tells, where the path leads to the node

pub passed_at : (p : Problem) (ds : List Derived) (path there : List Side) (best : Option Rational) (x : List Rational) (w : Weights) (basic : Bool) (t : Verdict) (treatment : Treatment) → path ≡ there → t ≡ Passed treatment → IsVerdict p ds path best x w basic t → (limit : ℕ) → IsTreatment p ds limit there best treatment
passed_at p ds path there best x w basic t treatment e f h limit =
    let P : Verdict → Type 0 = λ u. IsVerdict p ds path best x w basic u in
    let A : List Side → Type 0 = λ sides. IsTreatment p ds limit sides best treatment in
    subst A e (subst P f h limit)

pub never_failed : BoundIsNamed → (p : Problem) (ds : List Derived) (path there : List Side) (best : Option Rational) (x : List Rational) (w : Weights) (b : List Place) (d : Dictionary) (basic : Bool) (t : Verdict) → path ≡ there → t ≡ Failed → IsVerdict p ds path best x w basic t → IsOverColumns p ds there → IsOptimalRelaxation p ds there x w b d → ⊥
never_failed law p ds path there best x w b d basic t e f h over found =
    let P : Verdict → Type 0 = λ u. IsVerdict p ds path best x w basic u in
    let A : List Side → Type 0 = λ sides. node_answer (node_setting p ds sides) (form_goal p (Some (objective_value p x))) (Bound (named p sides w)) ≡ Ok false in
    not_failing p (Some (objective_value p x)) ds there (Bound (named p there w)) (law p ds there x w (optimal_weights_show p ds there x w b d over found)) (subst A e (subst P f h))

pub fault_at : (p : Problem) (ds : List Derived) (path there : List Side) (best : Option Rational) (x : List Rational) (w : Weights) (b : List Place) (d : Dictionary) (basic : Bool) (t : Verdict) (fault : Operation) → path ≡ there → t ≡ NoFit fault → IsVerdict p ds path best x w basic t → IsOptimalRelaxation p ds there x w b d → IsWorkFault p ds there fault
fault_at p ds path there best x w b d basic t fault e f h found =
    let P : Verdict → Type 0 = λ u. IsVerdict p ds path best x w basic u in
    let A : List Side → Type 0 = λ sides. IsTestFault p ds sides x w fault in
    go (subst A e (subst P f h))
  where
    go : IsTestFault p ds there x w fault → IsWorkFault p ds there fault
    go (of_value k) = IsWorkFault.in_value x w b d found k
    go (of_weights k) = IsWorkFault.in_bound x w b d (form_goal p (Some (objective_value p x))) found k
    go (of_point k) = IsWorkFault.in_point x w b d found k
