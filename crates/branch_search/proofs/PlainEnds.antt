-- The certificates of problems without integer columns.
use Rattle.std.proofs.Common.{◌≡◌, ◌∙◌, ℕ, List, [], length, Bool, true, false, refl, sym, subst, option_map, Option, Some, None, IfSome, slice_get, Result, IfOk}
use Rattle.rational.specs.Rational.{Rational}
use Rattle.fraction.specs.declared.frac.NoFit.{NoFit}
use Rattle.milp.specs.Problem.{Column, Problem}
use Rattle.milp.specs.Points.{Feasible, IsImprovingRay, objective_value}
use Rattle.verdicts.specs.Certificate.{Two, Weights, Derived, TreeNode, Empty, Bound, Optimal, Infeasible, Unbounded, Certificate}
use Rattle.verdicts.specs.Proves.{is_integer, node_passes}
use Rattle.verdicts.proofs.Laws.{leaf_empty}
use Rattle.certificate.specs.Written.{split_column}
use Rattle.basis.specs.Relaxation.{point_certificate}
use Rattle.cert_check.proofs.Laws.{node_ok}
use Rattle.search_tree.specs.declared.leaf.Leaf.TheVariants.{Todo, Treated, Leased, Refuted, Bounded, NotFitting, AtLimit}
use Rattle.search_tree.specs.Tree.{Tree, Divided, AtLeaf, AllSplits, AllLeaves}
use Rattle.search_tree.specs.Nodes.{IsHonestSplit, NodePasses, KeepsLeaf}
use Rattle.search_tree.specs.Board.{Board}
use Rattle.search_tree.specs.Kept.{HasSums, IsKept, closed_node}
use Rattle.search_tree.specs.Finished.{IsThere, IsFinished, nodes_of, verdict_of, certificate_of}
use Rattle.branch_search.specs.Plain.{NoneInteger, IsPlainCertificate}
use Rattle.branch_search.specs.Points.{IsTestedPoint}
use Rattle.branch_search.specs.WholeFaults.{without_objective}

-- ---- a board without splits

not_integer : (o : Option Column) → IfSome o (λ c. c.integer ≡ false) → is_integer o ≡ true → ⊥
not_integer None h e = cc
not_integer (Some c) h e = let never : true ≡ false = sym e ∙ h in cc

-- the certificate of these parts
abbrev made_of : Problem → List Derived → Option (List Rational) → Tree → Certificate
made_of p ds best t = record {
  version = Two;
  rows = length p.rows;
  columns = length p.columns;
  verdict = verdict_of best;
  value = option_map (objective_value p) best;
  point = best;
  ray = None;
  derived = ds;
  tree = nodes_of t;
}

passing : (p : Problem) (goal : Option Rational) (node : TreeNode) → NodePasses p goal [] [] node → node_passes p Two goal [] [] node ≡ true
passing p goal node h = let P : Result Bool NoFit → Type 0 = λ r. IfOk r (λ b. b ≡ node_passes p Two goal [] [] node) in sym (subst P h (node_ok p Two goal [] [] node))

-- no feasible point is refuted
refuted : (p : Problem) (best : Option (List Rational)) (w : Weights) → IfSome best (λ x. Feasible p x × HasSums p x) → NodePasses p (option_map (objective_value p) best) [] [] (Empty w) → IsPlainCertificate p (made_of p [] best (AtLeaf (Refuted w)))
refuted p None w best h = IsPlainCertificate.infeasible w refl
refuted p (Some x) w best h = absurd (leaf_empty p Two (Some (objective_value p x)) [] [] w x (passing p (Some (objective_value p x)) (Empty w) h) best.0.relaxed tt (λ k. tt))

bounded : (p : Problem) (best : Option (List Rational)) (w : Weights) → IfSome best (λ x. Feasible p x × HasSums p x) → NodePasses p (option_map (objective_value p) best) [] [] (Bound w) → IsPlainCertificate p (made_of p [] best (AtLeaf (Bounded w)))
bounded p None w best h = cc
bounded p (Some x) w best h = IsPlainCertificate.optimal x w best.0.relaxed.size refl

one_leaf : (p : Problem) (limit : ℕ) (best : Option (List Rational)) (t : Tree) → NoneInteger p.columns → IfSome best (λ x. Feasible p x × HasSums p x) → AllSplits (IsHonestSplit p []) [] t → AllLeaves (KeepsLeaf p [] limit (option_map (objective_value p) best)) [] t
    → AllLeaves (λ sides leaf. IsThere (closed_node leaf)) [] t → IsPlainCertificate p (made_of p [] best t)
one_leaf p limit best (Divided s low high) none h splits leaves there = absurd (not_integer (slice_get p.columns (split_column s)) (none (split_column s)) splits.0.integer)
one_leaf p limit best (AtLeaf (Refuted w)) none h splits leaves there = refuted p best w h leaves
one_leaf p limit best (AtLeaf (Bounded w)) none h splits leaves there = bounded p best w h leaves
one_leaf p limit best (AtLeaf (Todo hint)) none h splits leaves there = absurd there
one_leaf p limit best (AtLeaf (Treated hint)) none h splits leaves there = absurd there
one_leaf p limit best (AtLeaf (Leased lease)) none h splits leaves there = absurd there
one_leaf p limit best (AtLeaf (NotFitting e)) none h splits leaves there = absurd there
one_leaf p limit best (AtLeaf (AtLimit bases)) none h splits leaves there = absurd there

pub plain_board : (b : Board) (c : Certificate) → IsKept b → IsFinished b → b.cuts ≡ [] → c ≡ certificate_of b → NoneInteger b.problem.columns → IsPlainCertificate b.problem c
plain_board b c kept finished cuts is none =
    subst (IsPlainCertificate b.problem) (sym is) (subst P (sym cuts) (λ splits leaves. one_leaf b.problem b.pivot_limit b.best b.tree none kept.best splits leaves finished) kept.splits kept.leaves)
  where
    P : List Derived → Type 0
    P ds = AllSplits (IsHonestSplit b.problem ds) [] b.tree → AllLeaves (KeepsLeaf b.problem ds b.pivot_limit (option_map (objective_value b.problem) b.best)) [] b.tree → IsPlainCertificate b.problem (made_of b.problem ds b.best b.tree)

-- ---- the problem without its objective

pub plain_too : (p q : Problem) (c : Certificate) → q ≡ without_objective p → (NoneInteger q.columns → IsPlainCertificate q c) → NoneInteger p.columns → IsPlainCertificate (without_objective p) c
plain_too p q c e h none = subst (λ (s : Problem). NoneInteger s.columns → IsPlainCertificate s c) e h none

pub none_plain : (p : Problem) (c : Certificate) → c.verdict ≡ Infeasible → IsPlainCertificate (without_objective p) c → IsPlainCertificate p c
none_plain p c e (IsPlainCertificate.optimal x w size is) = let never : Optimal ≡ Infeasible = sym (subst (λ (d : Certificate). c.verdict ≡ d.verdict) is refl) ∙ e in cc
none_plain p c e (IsPlainCertificate.infeasible w is) = IsPlainCertificate.infeasible w is
none_plain p c e (IsPlainCertificate.unbounded x ray size ray_size is) = let never : Unbounded ≡ Infeasible = sym (subst (λ (d : Certificate). c.verdict ≡ d.verdict) is refl) ∙ e in cc

-- ---- a point and a ray

pub ray_plain : (p : Problem) (x ray : List Rational) (c : Certificate) → c ≡ point_certificate p x ray → IsTestedPoint p x → IsImprovingRay p ray → IsPlainCertificate p c
ray_plain p x ray c is point improves = IsPlainCertificate.unbounded x ray point.feasible.relaxed.size improves.size is
