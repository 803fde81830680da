-- What the checker's tests show where they pass.
use Rattle.std.proofs.Common.{◌≡◌, ℕ, zero, suc, List, [], ◌∷◌, ◌++◌, take, append_assoc, append-nil, Bool, true, false, refl, sym, ap, subst, Option, Some, None, IfSome, IfOk, slice_get, Result, Ok, Err}
use Rattle.rational.specs.Rational.{Rational, zero_ℚ, ◌≤ℚ◌, ◌*ℚ◌, ◌-ℚ◌, neg_ℚ}
use Rattle.rational.proofs.Laws as Q
use Rattle.rational.proofs.Laws.{at_most_true, true_at_most}
use Rattle.milp.specs.Problem.{Problem}
use Rattle.milp.specs.Points.{objective_value, sign_of}
use Rattle.fraction.specs.declared.frac.NoFit.{NoFit}
use Rattle.instance.specs.Sums.{and_then}
use Rattle.rational.specs.Compare.{is_at_most}
use Rattle.verdicts.specs.WeightedSums.{coefficient_of}
use Rattle.verdicts.specs.Certificate.{Two, Side as SideOf, Weights, Derived, TreeNode, Bound}
use Rattle.verdicts.specs.Proves.{derived_passes, node_passes}
use Rattle.verdicts.proofs.Laws.{le_by, leaf_bound}
use Rattle.basis.specs.Node.{IsNodePoint}
use Rattle.cert_check.specs.Setting.{Setting}
use Rattle.cert_check.specs.Sums.{and_also, all_there, bound_sum, weight_products, are_forms}
use Rattle.cert_check.specs.Parts.{shown_answer, derived_answer}
use Rattle.cert_check.proofs.Laws.{derived_ok, node_ok}
use Rattle.search_tree.specs.Work.{node_setting}
use Rattle.search_tree.specs.Nodes.{NodePasses, IsRelaxedOptimum}
use Rattle.search_tree.specs.Kept.{AllPass, IsNoBetter}
use Rattle.search_tree.specs.Points.{AreOfColumns}
use Rattle.search_tree.proofs.NodePoints.{takes_inside}

is_true : (r : Result Bool NoFit) (b : Bool) → r ≡ Ok true → IfOk r (λ x. x ≡ b) → b ≡ true
is_true r b e h = let P : Result Bool NoFit → Type 0 = λ a. IfOk a (λ x. x ≡ b) in sym (subst P e h)

pub node_test : (p : Problem) (goal : Option Rational) (ds : List Derived) (sides : List SideOf) (node : TreeNode) → NodePasses p goal ds sides node → node_passes p Two goal ds sides node ≡ true
node_test p goal ds sides node h = is_true _ (node_passes p Two goal ds sides node) h (node_ok p Two goal ds sides node)

pub cut_tests : (p : Problem) (ds : List Derived) → AllPass p ds → (k : ℕ) → IfSome (slice_get ds k) (λ d. derived_passes p (take k ds) d ≡ true)
cut_tests p ds h k = go (slice_get ds k) (h k)
  where
    go : (o : Option Derived) → IfSome o (λ d. derived_answer p Two (take k ds) d ≡ Ok true) → IfSome o (λ d. derived_passes p (take k ds) d ≡ true)
    go None e = tt
    go (Some d) e = is_true _ (derived_passes p (take k ds) d) e (derived_ok p Two (take k ds) d)

-- what holds of each cut with those before it: of the first, and of the others
pub of_first : (P : List Derived → Derived → Type 0) (before ds : List Derived) (d : Derived) → ((k : ℕ) → IfSome (slice_get (d ∷ ds) k) (P (before ++ take k (d ∷ ds)))) → P before d
of_first P before ds d h = let Q : List Derived → Type 0 = λ all. P all d in subst Q (append-nil before) (h zero)

pub of_others : (P : List Derived → Derived → Type 0) (before ds : List Derived) (d : Derived) → ((k : ℕ) → IfSome (slice_get (d ∷ ds) k) (P (before ++ take k (d ∷ ds)))) → (k : ℕ) → IfSome (slice_get ds k) (P ((before ++ d ∷ []) ++ take k ds))
of_others P before ds d h k = let Q : List Derived → Type 0 = λ all. IfSome (slice_get ds k) (P all) in subst Q (sym (append_assoc before (d ∷ []) (take k ds))) (h (suc k))

-- ---- a leaf that passes against a value passes against a better one

also_parts : (r rest : Result Bool NoFit) → and_also r rest ≡ Ok true → (r ≡ Ok true) × (rest ≡ Ok true)
also_parts (Ok true) rest h = (refl, h)
also_parts (Ok false) rest h = cc
also_parts (Err e) rest h = cc

also_from : (r rest : Result Bool NoFit) → r ≡ Ok true → rest ≡ Ok true → and_also r rest ≡ Ok true
also_from r rest h k = rw h k

enough_too : (r : Result Rational NoFit) (f g : Rational → Bool) → ((v : Rational) → f v ≡ true → g v ≡ true) → and_then r (λ v. Ok (f v)) ≡ Ok true → and_then r (λ v. Ok (g v)) ≡ Ok true
enough_too (Ok v) f g k h = ap Ok (k v (let same : f v ≡ true = cc in same))
enough_too (Err e) f g k h = cc

-- the sums are the same, and only the last comparison changes
shown_too : (s : Setting) (w : Weights) (wanted : ℕ → Rational) (f g : Rational → Bool) → ((v : Rational) → f v ≡ true → g v ≡ true) → shown_answer s w wanted f ≡ Ok true → shown_answer s w wanted g ≡ Ok true
shown_too s w wanted f g k h =
    let sums = bound_sum s zero_ℚ w in
    let forms = are_forms (weight_products s w) wanted 0 s.problem.columns in
    let both = also_parts (all_there s w) (and_also forms (and_then sums (λ v. Ok (f v)))) h in
    let more = also_parts forms (and_then sums (λ v. Ok (f v))) both.1 in
    also_from (all_there s w) (and_also forms (and_then sums (λ v. Ok (g v)))) both.0 (also_from forms (and_then sums (λ v. Ok (g v))) more.0 (enough_too sums f g k more.1))

shift : (s v w c : Rational) → s *ℚ v ≤ℚ s *ℚ w → s *ℚ (v -ℚ c) ≤ℚ s *ℚ (w -ℚ c)
shift s v w c h = le_by _ _ _ _ (Q.mul_add s v (neg_ℚ c)) (Q.mul_add s w (neg_ℚ c)) (Q.add-le-add _ _ _ _ h (Q.le_refl (s *ℚ neg_ℚ c)))

at_most_too : (a b : Rational) → a ≤ℚ b → (v : Rational) → is_at_most b v ≡ true → is_at_most a v ≡ true
at_most_too a b h v t = true_at_most a v (Q.le_trans a b v h (at_most_true b v t))

pub bound_too : (p : Problem) (ds : List Derived) (sides : List SideOf) (w : Weights) (goal best : Option Rational) → IfSome goal (IsNoBetter p best) → NodePasses p goal ds sides (Bound w) → NodePasses p best ds sides (Bound w)
bound_too p ds sides w None best h t = cc
bound_too p ds sides w (Some v) None h t = absurd h
bound_too p ds sides w (Some v) (Some b) h t =
    let s = sign_of p.direction in
    shown_too (node_setting p ds sides) w (λ j. s *ℚ coefficient_of p.objective j) (is_at_most (s *ℚ (v -ℚ p.constant))) (is_at_most (s *ℚ (b -ℚ p.constant))) (at_most_too (s *ℚ (b -ℚ p.constant)) (s *ℚ (v -ℚ p.constant)) (shift s b v p.constant h)) t

-- ---- points and weights

-- a point of the relaxation of a node below splits of columns is optimal where weights pass at its own value
pub passing_optimum : (p : Problem) (ds : List Derived) (sides : List SideOf) (x : List Rational) (w : Weights) → AreOfColumns sides → IsNodePoint p ds sides x → NodePasses p (Some (objective_value p x)) ds sides (Bound w) → IsRelaxedOptimum p ds sides x
passing_optimum p ds sides x w of_columns h k = record {
  point = h;
  none_better = λ y n better. Q.lt-not-le _ _ better (leaf_bound p Two (objective_value p x) ds sides w y (node_test p (Some (objective_value p x)) ds sides (Bound w) k) n.relaxed (takes_inside p y sides of_columns n.columns) n.derived);
}
