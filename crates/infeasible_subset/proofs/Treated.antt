-- What becomes of the root of a problem without an objective and without integer columns.
use Rattle.std.proofs.Common.{◌≡◌, ◌∙◌, ℕ, List, [], Bool, true, false, sym, subst, Option, Some, None, IfSome, slice_get}
use Rattle.rational.specs.Rational.{Rational, zero_ℚ, ◌<ℚ◌, ◌≤ℚ◌, ◌*ℚ◌}
use Rattle.rational.proofs.Laws as Q
use Rattle.fraction.specs.declared.frac.NoFit.{NoFit}
use Rattle.milp.specs.Form.{Entry, sum_at}
use Rattle.milp.specs.Problem.{Column, Problem}
use Rattle.milp.specs.Points.{IsImprovingRay, sign_of}
use Rattle.instance.specs.WellFormed.{IsWellFormed}
use Rattle.verdicts.specs.Certificate.{Weights, Empty}
use Rattle.simplex.proofs.Laws.{over_columns}
use Rattle.search_tree.specs.Nodes.{NodePasses}
use Rattle.search_tree.specs.Work.{IsWorkFault}
use Rattle.search_tree.proofs.Laws.{forms_ascend, on_site_numbers}
use Rattle.branch_search.specs.Plain.{NoneInteger}
use Rattle.infeasible_subset.specs.Members.{Member, OfColumn}
use Rattle.infeasible_subset.specs.Subsets.{sub, AreAccepted}
use Rattle.infeasible_subset.proofs.Subsets.{column_or_none, get_column}
use Rattle.infeasible_subset.specs.Faults.{IsRootFault}

pub accepted : (p : Problem) (w : Weights) → NodePasses p None [] [] (Empty w) → AreAccepted p w
accepted p w h = record { passes = h }

-- there is no objective that a ray could improve
pub no_ray : (p : Problem) (ray : List Rational) → p.objective ≡ [] → IsImprovingRay p ray → ⊥
no_ray p ray e h =
    let s : Rational = sign_of p.direction in
    let F : List Entry → Type 0 = λ form. (s *ℚ sum_at ray form) <ℚ zero_ℚ in
    let below : (s *ℚ zero_ℚ) <ℚ zero_ℚ = subst F e h.improves in
    let G : Rational → Type 0 = λ t. zero_ℚ ≤ℚ t in
    Q.lt-not-le _ _ below (subst G (sym (Q.mul-zero s)) (Q.le_refl zero_ℚ))

pub root_fault : (p : Problem) (e : NoFit) → IsWellFormed p.columns p.rows p.objective → IsWorkFault p [] [] e → IsRootFault p e
root_fault p e formed fault = record {
  fault = fault;
  on_site = on_site_numbers p [] [] e (over_columns p formed) (forms_ascend p formed) fault;
}

-- ---- the problem with some of its bounds alone

pub none_integer : (p q : Problem) (keep : Member → Bool) → q ≡ sub p keep → NoneInteger p.columns → NoneInteger q.columns
none_integer p q keep is h = subst (λ (r : Problem). NoneInteger r.columns) (sym is) (λ j. go j (slice_get p.columns j) (get_column _ p.columns j) (h j))
  where
    go : (j : ℕ) (o : Option Column) {a : Option Column} → a ≡ column_or_none (λ s. keep (OfColumn j s)) o → IfSome o (λ c. c.integer ≡ false) → IfSome a (λ c. c.integer ≡ false)
    go j None e k = rw e tt
    go j (Some c) e k = rw e k
