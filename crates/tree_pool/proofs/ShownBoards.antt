-- The check accepts the partial certificate of a kept board.
use Rattle.std.proofs.Common.{◌≡◌, ◌∙◌, ℕ, ◌+◌, List, [], ◌∷◌, ◌++◌, length, sym, ap, subst, refl, option_map, append_assoc, append-nil, Option, Some, None, IfSome, Ok}
use Rattle.rational.specs.Rational.{Rational}
use Rattle.milp.specs.Problem.{Problem}
use Rattle.milp.specs.Points.{Feasible, objective_value}
use Rattle.instance.specs.Sums.{meets_answer}
use Rattle.verdicts.specs.Certificate.{Two, Side as SideOf, Low, High, Derived, Branch, Empty, Bound}
use Rattle.verdicts.specs.Proves.{Part}
use Rattle.cert_check.specs.Parts.{value_answer, node_answer}
use Rattle.cert_check.specs.Outcome.{Acceptance, outcome, derived_trials, form_goal}
use Rattle.partial_certificate.specs.Partial.{PartialNode, Partial}
use Rattle.partial_certificate.specs.Outcome.{node_trials, tree_trials, best_trials, trials}
use Rattle.search_tree.specs.declared.leaf.Leaf.TheVariants.{Todo, Treated, Leased, Refuted, Bounded, NotFitting, AtLimit}
use Rattle.search_tree.specs.Tree.{Tree, Divided, AtLeaf, AllSplits, AllLeaves}
use Rattle.search_tree.specs.Nodes.{IsHonestSplit, KeepsLeaf}
use Rattle.search_tree.specs.Board.{Board, value_of}
use Rattle.search_tree.specs.Work.{node_setting}
use Rattle.search_tree.specs.Kept.{HasSums, IsKept}
use Rattle.search_tree.proofs.Laws.{both_accepted, cuts_accepted, size_passes, then_accepted, value_claimed, whole_form}
use Rattle.tree_pool.specs.Shown.{shown_nodes, reached, shown_of}

-- a tree, and then what follows it
tree_then : (p : Problem) (ds : List Derived) (limit : ℕ) (goal : Option Rational) (t : Tree) (sides : List SideOf) (places : List (List SideOf)) (rest : List PartialNode) → AllSplits (IsHonestSplit p ds) sides t → AllLeaves (KeepsLeaf p ds limit goal) sides t
    → ((k : ℕ) → outcome (node_trials p (form_goal p goal) ds k places rest) ≡ Acceptance) → (k : ℕ) → outcome (node_trials p (form_goal p goal) ds k (sides ∷ places) (shown_nodes t ++ rest)) ≡ Acceptance
tree_then p ds limit goal (AtLeaf (Refuted w)) sides places rest s h g k = then_accepted (Part.Node k) (node_answer (node_setting p ds sides) (form_goal p goal) (Empty w)) (outcome (node_trials p (form_goal p goal) ds (k + 1) places rest)) h (g (k + 1))
tree_then p ds limit goal (AtLeaf (Bounded w)) sides places rest s h g k = then_accepted (Part.Node k) (node_answer (node_setting p ds sides) (form_goal p goal) (Bound w)) (outcome (node_trials p (form_goal p goal) ds (k + 1) places rest)) h (g (k + 1))
tree_then p ds limit goal (AtLeaf (Todo hint)) sides places rest s h g k = g (k + 1)
tree_then p ds limit goal (AtLeaf (Treated hint)) sides places rest s h g k = g (k + 1)
tree_then p ds limit goal (AtLeaf (Leased lease)) sides places rest s h g k = g (k + 1)
tree_then p ds limit goal (AtLeaf (NotFitting e)) sides places rest s h g k = g (k + 1)
tree_then p ds limit goal (AtLeaf (AtLimit bases)) sides places rest s h g k = g (k + 1)
tree_then p ds limit goal (Divided s low high) sides places rest splits h g k =
    let high_then = tree_then p ds limit goal high (High s ∷ sides) places rest splits.2 h.1 g in
    let low_then = tree_then p ds limit goal low (Low s ∷ sides) ((High s ∷ sides) ∷ places) (shown_nodes high ++ rest) splits.1 h.0 high_then in
    let P : List PartialNode → Type 0 = λ nodes. outcome (node_trials p (form_goal p goal) ds (k + 1) ((Low s ∷ sides) ∷ (High s ∷ sides) ∷ places) nodes) ≡ Acceptance in
    then_accepted (Part.Node k) (node_answer (node_setting p ds sides) (form_goal p goal) (Branch s)) (outcome (node_trials p (form_goal p goal) ds (k + 1) ((Low s ∷ sides) ∷ (High s ∷ sides) ∷ places) ((shown_nodes low ++ shown_nodes high) ++ rest)))
    (ap Ok (whole_form p ds sides s splits.0)) (subst P (sym (append_assoc (shown_nodes low) (shown_nodes high) rest)) (low_then (k + 1)))

tree_accepted : (b : Board) → IsKept b → outcome (tree_trials b.problem (form_goal b.problem (value_of b)) (shown_of b)) ≡ Acceptance
tree_accepted b k =
    let P : List PartialNode → Type 0 = λ nodes. outcome (node_trials b.problem (form_goal b.problem (value_of b)) b.cuts 1 ([] ∷ []) nodes) ≡ Acceptance in
    let nodes = subst P (append-nil (shown_nodes b.tree)) (tree_then b.problem b.cuts b.pivot_limit (value_of b) b.tree [] [] [] k.splits k.leaves (λ n. refl) 1) in
    both_accepted (derived_trials b.problem Two 1 [] b.cuts) (node_trials b.problem (form_goal b.problem (value_of b)) b.cuts 1 ([] ∷ []) (shown_nodes b.tree)) (cuts_accepted b.problem [] b.cuts 1 k.cuts) nodes

best_accepted : (p : Problem) (c : Partial) (best : Option (List Rational)) → IfSome best (λ x. Feasible p x × HasSums p x) → outcome (tree_trials p (form_goal p (option_map (objective_value p) best)) c) ≡ Acceptance → outcome (best_trials p c (option_map (reached p) best)) ≡ Acceptance
best_accepted p c None f h = h
best_accepted p c (Some x) f h = then_accepted Part.Point (meets_answer p x) _ f.1.meets (then_accepted Part.Value (value_answer p (Some x) (Some (objective_value p x))) _ (value_claimed p x f.1) h)

pub shown_accepted : (b : Board) → IsKept b → outcome (trials b.problem (shown_of b)) ≡ Acceptance
shown_accepted b k =
    then_accepted Part.Size _ (outcome (best_trials b.problem (shown_of b) (option_map (reached b.problem) b.best))) (ap Ok (size_passes (length b.problem.rows) (length b.problem.columns)))
    (best_accepted b.problem (shown_of b) b.best k.best (tree_accepted b k))
