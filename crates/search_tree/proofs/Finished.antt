-- The checker accepts the certificate of a finished board.
use Rattle.std.proofs.Common.{◌≡◌, ◌∙◌, ℕ, zero, suc, ◌+◌, ◌==◌, List, [], ◌∷◌, ◌++◌, Bool, true, ◌&&◌, refl, sym, ap, subst, option_map, is_some, if◌then◌else◌, Option, Some, None, IfSome, length, take, slice_get, append_assoc, append-nil, arith, Result, Ok, Err}
use Rattle.std.specs.Prelude.{ℤ}
use Rattle.std.specs.Ordering.{int_eq}
use Rattle.std.proofs.lemmas.Int.{ints}
use Rattle.std.proofs.lemmas.Bool.{and_from}
use Rattle.std.proofs.lemmas.Bool.Decides.{nat_tests}
use Rattle.rational.specs.Rational.{Rational, zero_ℚ}
use Rattle.milp.specs.Problem.{Problem}
use Rattle.milp.specs.Points.{Feasible, objective_value}
use Rattle.fraction.specs.declared.frac.NoFit.{NoFit}
use Rattle.fraction.specs.Answers.{add_answer}
use Rattle.instance.specs.Sums.{and_then, sum_answer}
use Rattle.rational.specs.Compare.{is_same}
use Rattle.verdicts.specs.Certificate.{Two, Side as SideOf, Low, High, Derived, TreeNode, Branch, Empty, Bound, Certificate}
use Rattle.verdicts.specs.Proves.{Part, Proves}
use Rattle.certificate.specs.Written.{fills, is_tree}
use Rattle.cert_check.specs.Parts.{point_answer, value_answer, derived_answer, node_answer}
use Rattle.cert_check.specs.Outcome.{Trial, Outcome, Acceptance, judged, outcome, derived_trials, node_trials, tree_trials, form_goal, verdict_trials, trials}
use Rattle.cert_check.specs.declared.part.Checked.TheVariants.{Accepted}
use Rattle.cert_check.proofs.Laws.{after, check_accepted, trials_then}
use Rattle.search_tree.specs.declared.leaf.Leaf.TheVariants.{Todo, Treated, Leased, Refuted, Bounded, NotFitting, AtLimit}
use Rattle.search_tree.specs.Tree.{Tree, Divided, AtLeaf, AllSplits, AllLeaves}
use Rattle.search_tree.specs.Board.{Board, value_of}
use Rattle.search_tree.specs.Kept.{HasSums, IsKept, closed_node}
use Rattle.search_tree.specs.Work.{node_setting}
use Rattle.search_tree.specs.Nodes.{IsHonestSplit, KeepsLeaf}
use Rattle.search_tree.proofs.HonestSplits.{whole_form}
use Rattle.search_tree.proofs.Passing.{of_first, of_others}
use Rattle.search_tree.specs.Finished.{IsThere, nodes_of, verdict_of, certificate_of, IsFinished}

-- a test that passes, and then accepted ones
pub then_accepted : (part : Part) (r : Result Bool NoFit) (rest : Outcome) → r ≡ Ok true → rest ≡ Acceptance → judged part r rest ≡ Acceptance
then_accepted part r rest e h = rw e h

pub both_accepted : (ts us : List Trial) → outcome ts ≡ Acceptance → outcome us ≡ Acceptance → outcome (ts ++ us) ≡ Acceptance
both_accepted ts us h k = trials_then ts us ∙ ap (λ o. after o (outcome us)) h ∙ k

pub cuts_accepted : (p : Problem) (before ds : List Derived) (n : ℕ) → ((k : ℕ) → IfSome (slice_get ds k) (λ d. derived_answer p Two (before ++ take k ds) d ≡ Ok true)) → outcome (derived_trials p Two n before ds) ≡ Acceptance
cuts_accepted p before [] n h = refl
cuts_accepted p before (d ∷ ds) n h =
    let P : List Derived → Derived → Type 0 = λ all e. derived_answer p Two all e ≡ Ok true in
    then_accepted (Part.DerivedRow n) (derived_answer p Two before d) (outcome (derived_trials p Two (n + 1) (before ++ d ∷ []) ds)) (of_first P before ds d h) (cuts_accepted p (before ++ d ∷ []) ds (n + 1) (of_others P before ds d h))

-- a tree whose leaves are closed, and then what follows it
tree_then : (p : Problem) (ds : List Derived) (limit : ℕ) (goal : Option Rational) (t : Tree) (sides : List SideOf) (places : List (List SideOf)) (rest : List TreeNode) → AllSplits (IsHonestSplit p ds) sides t → AllLeaves (KeepsLeaf p ds limit goal) sides t → AllLeaves (λ at leaf. IsThere (closed_node leaf)) sides t
    → ((k : ℕ) → outcome (node_trials p Two (form_goal p goal) ds k places rest) ≡ Acceptance) → (k : ℕ) → outcome (node_trials p Two (form_goal p goal) ds k (sides ∷ places) (nodes_of t ++ rest)) ≡ Acceptance
tree_then p ds limit goal (AtLeaf (Refuted w)) sides places rest s h c g k = then_accepted (Part.Node k) (node_answer (node_setting p ds sides) (form_goal p goal) (Empty w)) (outcome (node_trials p Two (form_goal p goal) ds (k + 1) places rest)) h (g (k + 1))
tree_then p ds limit goal (AtLeaf (Bounded w)) sides places rest s h c g k = then_accepted (Part.Node k) (node_answer (node_setting p ds sides) (form_goal p goal) (Bound w)) (outcome (node_trials p Two (form_goal p goal) ds (k + 1) places rest)) h (g (k + 1))
tree_then p ds limit goal (AtLeaf (Todo hint)) sides places rest s h c g k = absurd c
tree_then p ds limit goal (AtLeaf (Treated hint)) sides places rest s h c g k = absurd c
tree_then p ds limit goal (AtLeaf (Leased lease)) sides places rest s h c g k = absurd c
tree_then p ds limit goal (AtLeaf (NotFitting e)) sides places rest s h c g k = absurd c
tree_then p ds limit goal (AtLeaf (AtLimit bases)) sides places rest s h c g k = absurd c
tree_then p ds limit goal (Divided s low high) sides places rest splits h c g k =
    let high_then = tree_then p ds limit goal high (High s ∷ sides) places rest splits.2 h.1 c.1 g in
    let low_then = tree_then p ds limit goal low (Low s ∷ sides) ((High s ∷ sides) ∷ places) (nodes_of high ++ rest) splits.1 h.0 c.0 high_then in
    let P : List TreeNode → Type 0 = λ nodes. outcome (node_trials p Two (form_goal p goal) ds (k + 1) ((Low s ∷ sides) ∷ (High s ∷ sides) ∷ places) nodes) ≡ Acceptance in
    then_accepted (Part.Node k) (node_answer (node_setting p ds sides) (form_goal p goal) (Branch s)) (outcome (node_trials p Two (form_goal p goal) ds (k + 1) ((Low s ∷ sides) ∷ (High s ∷ sides) ∷ places) ((nodes_of low ++ nodes_of high) ++ rest)))
    (ap Ok (whole_form p ds sides s splits.0)) (subst P (sym (append_assoc (nodes_of low) (nodes_of high) rest)) (low_then (k + 1)))

tree_accepted : (b : Board) → IsKept b → IsFinished b → outcome (tree_trials b.problem (form_goal b.problem (value_of b)) (certificate_of b)) ≡ Acceptance
tree_accepted b k f =
    let P : List TreeNode → Type 0 = λ nodes. outcome (node_trials b.problem Two (form_goal b.problem (value_of b)) b.cuts 1 ([] ∷ []) nodes) ≡ Acceptance in
    let nodes = subst P (append-nil (nodes_of b.tree)) (tree_then b.problem b.cuts b.pivot_limit (value_of b) b.tree [] [] [] k.splits k.leaves f (λ n. refl) 1) in
    both_accepted (derived_trials b.problem Two 1 [] b.cuts) (node_trials b.problem Two (form_goal b.problem (value_of b)) b.cuts 1 ([] ∷ []) (nodes_of b.tree)) (cuts_accepted b.problem [] b.cuts 1 k.cuts) nodes

-- ---- size, point and value

nat_self : (n : ℕ) → (n == n) ≡ true
nat_self n = grind (arith, nat_tests)

int_self : (a : ℤ) → int_eq a a ≡ true
int_self a = grind (arith, ints)

self_same : (a : Rational) → is_same a a ≡ true
self_same a = and_from _ _ (int_self a.numerator) (nat_self a.denominator)

pub size_passes : (m n : ℕ) → ((m == m) && (n == n)) ≡ true
size_passes m n = and_from _ _ (nat_self m) (nat_self n)

-- where the sums of the value fit, its test passes
claimed : (r : Result Rational NoFit) (g : Rational → Result Rational NoFit) (v : Rational) → and_then r g ≡ Ok v → and_then (and_then r (λ f. and_then (g f) (λ t. Ok (if is_same v t then Some f else None)))) (λ o. Ok (is_some o)) ≡ Ok true
claimed (Err e) g v h = cc
claimed (Ok f) g v h = go (g f) h
  where
    go : (s : Result Rational NoFit) → s ≡ Ok v → and_then (and_then s (λ t. Ok (if is_same v t then Some f else None))) (λ o. Ok (is_some o)) ≡ Ok true
    go s e = rw (e, self_same v) refl

pub value_claimed : (p : Problem) (x : List Rational) → HasSums p x → value_answer p (Some x) (Some (objective_value p x)) ≡ Ok true
value_claimed p x h = claimed (sum_answer x zero_ℚ p.objective) (λ v. add_answer v p.constant) (objective_value p x) h.value

by_best : (p : Problem) (c : Certificate) (best : Option (List Rational)) → IfSome best (λ x. Feasible p x × HasSums p x) → c.point ≡ best → c.value ≡ option_map (objective_value p) best → outcome (tree_trials p (form_goal p c.value) c) ≡ Acceptance → outcome (verdict_trials p c (verdict_of best)) ≡ Acceptance
by_best p c None f e v h = let P : Option Rational → Type 0 = λ goal. outcome (tree_trials p (form_goal p goal) c) ≡ Acceptance in subst P v h
by_best p c (Some x) f e v h =
    let point : point_answer p c.point ≡ Ok true = rw e f.1.meets in
    let value : value_answer p c.point c.value ≡ Ok true = rw (e, v) (value_claimed p x f.1) in
    then_accepted Part.Point (point_answer p c.point) _ point (then_accepted Part.Value (value_answer p c.point c.value) _ value h)

pub finished_accepted : (b : Board) → IsKept b → IsFinished b → outcome (trials b.problem (certificate_of b)) ≡ Acceptance
finished_accepted b k f =
    then_accepted Part.Size _ (outcome (verdict_trials b.problem (certificate_of b) (verdict_of b.best))) (ap Ok (size_passes (length b.problem.rows) (length b.problem.columns)))
    (by_best b.problem (certificate_of b) b.best k.best refl refl (tree_accepted b k f))

pub finished_proves : (b : Board) → IsKept b → IsFinished b → Proves b.problem (certificate_of b)
finished_proves b k f = check_accepted b.problem (certificate_of b) (Ok Accepted) (sym (finished_accepted b k f)) refl

-- ---- one whole tree

fills_then : (t : Tree) (sides : List SideOf) (more : ℕ) (rest : List TreeNode) → AllLeaves (λ at leaf. IsThere (closed_node leaf)) sides t → fills (suc more) (nodes_of t ++ rest) ≡ fills more rest
fills_then (AtLeaf (Refuted w)) sides more rest h = refl
fills_then (AtLeaf (Bounded w)) sides more rest h = refl
fills_then (AtLeaf (Todo hint)) sides more rest h = absurd h
fills_then (AtLeaf (Treated hint)) sides more rest h = absurd h
fills_then (AtLeaf (Leased lease)) sides more rest h = absurd h
fills_then (AtLeaf (NotFitting e)) sides more rest h = absurd h
fills_then (AtLeaf (AtLimit bases)) sides more rest h = absurd h
fills_then (Divided s low high) sides more rest h =
    ap (fills (suc (suc more))) (append_assoc (nodes_of low) (nodes_of high) rest) ∙ fills_then low (Low s ∷ sides) (suc more) (nodes_of high ++ rest) h.0 ∙ fills_then high (High s ∷ sides) more rest h.1

pub finished_tree : (b : Board) → IsFinished b → is_tree (nodes_of b.tree) ≡ true
finished_tree b f = ap (fills 1) (sym (append-nil (nodes_of b.tree))) ∙ fills_then b.tree [] zero [] f
