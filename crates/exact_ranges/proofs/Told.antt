-- What a certificate tells of an auxiliary problem, which has a point.
use Rattle.std.proofs.Common.{◌≡◌, ◌∙◌, ℕ, List, sym, ap, subst, Some}
use Rattle.std.proofs.lemmas.Option.{same_Some}
use Rattle.rational.specs.Rational.{Rational}
use Rattle.milp.specs.Form.{number_at}
use Rattle.milp.specs.Problem.{Problem}
use Rattle.milp.specs.Points.{Feasible, IsOptimal, IsUnbounded, objective_value}
use Rattle.verdicts.specs.Certificate.{Optimal, Infeasible, Unbounded, Bound, Certificate}
use Rattle.verdicts.specs.Proves.{Proves, Holds}
use Rattle.verdicts.proofs.Laws.{certificate_right}
use Rattle.basis.specs.Relaxation.{leaf_certificate}
use Rattle.branch_search.specs.Plain.{IsPlainCertificate, optimal, infeasible, unbounded}
use Rattle.exact_ranges.specs.ShownBest.{best_point}
use Rattle.exact_ranges.specs.Ends.{IsBestNumber}
use Rattle.exact_ranges.proofs.Accepted.{leaf_passes}

pub best_number : (q : Problem) (c : Certificate) (j : ℕ) → Proves q c → IsPlainCertificate q c → c.verdict ≡ Optimal → IsBestNumber q j (number_at (best_point c) j)
best_number q c j h (optimal x w size is) v =
    let d = leaf_certificate q Optimal (Some (objective_value q x)) (Some x) (Bound w) in
    let proves : Proves q d = subst (Proves q) is h in
    let right : Holds q d Optimal = certificate_right q d proves in
    let same : right.0 ≡ x = same_Some right.0 x (sym right.1) in
    record {
      point = x;
      weights = w;
      is_optimal = subst (IsOptimal q) same right.3;
      passes = leaf_passes q x w proves;
      number = ap (λ (e : Certificate). number_at (best_point e) j) is;
    }
best_number q c j h (infeasible w is) v = let never : Infeasible ≡ Optimal = ap (λ (d : Certificate). d.verdict) (sym is) ∙ v in cc
best_number q c j h (unbounded x ray size also is) v = let never : Unbounded ≡ Optimal = ap (λ (d : Certificate). d.verdict) (sym is) ∙ v in cc

pub never_infeasible : (q : Problem) (c : Certificate) → Proves q c → c.verdict ≡ Infeasible → (z : List Rational) × Feasible q z → ⊥
never_infeasible q c h v some = (subst (Holds q c) v (certificate_right q c h)) some.0 some.1

pub no_best_number : (q : Problem) (c : Certificate) → Proves q c → c.verdict ≡ Unbounded → (z : List Rational) × (r : List Rational) × IsUnbounded q z r
no_best_number q c h v = let right : Holds q c Unbounded = subst (Holds q c) v (certificate_right q c h) in (right.0, right.1, right.4)
