-- Steps of the loop over the nodes.
use Rattle.std.proofs.Common.{◌≡◌, ◌∙◌, ℕ, zero, suc, ◌+◌, ◌-◌, ◌<◌, ◌≤◌, true, false, Bool, Option, Some, List, ◌∷◌, ◌++◌, length, map, get_or, slice_get, take, drop, reverse, drop_of_length-le, refl, sym, ap, subst, arith, Result, Ok, Err, add-one}
use Rattle.std.proofs.lemmas.List.{drop_more}
use Rattle.std.proofs.lemmas.Option.{slice_get_within, slice_get_read, get_or_from_slice_get}
use Rattle.std.proofs.lemmas.List.{length-map}
use Rattle.std.proofs.Math.ListN.{get_or-map}
use Rattle.rational.specs.Rational.{Rational}
use Rattle.fraction.specs.declared.frac.NoFit.{NoFit}
use Rattle.milp.specs.Problem.{Problem}
use Rattle.verdicts.specs.Certificate.{Two, Derived, Side, TreeNode, Branch, Empty, Bound}
use Rattle.verdicts.specs.Proves.{below, Node}
use Rattle.verdicts.specs.Preorder.{way_to, ways_to}
use Rattle.verdicts.proofs.Laws.{ways_step}
use Rattle.certificate.specs.Written.{open_after}
use Rattle.certificate.specs.Ways.{way}
use Rattle.certificate.specs.Values.{node_of}
use Rattle.certificate.specs.declared.tree.TreeNode.{TreeNode as Kept}
use Rattle.certificate.proofs.Laws.{back, element_at, same_length}
use Rattle.cert_check.specs.Outcome.{Outcome, Acceptance, Refusal, Fault, judged, outcome}
use Rattle.partial_certificate.specs.Partial.{PartialNode, shape}
use Rattle.partial_certificate.specs.Outcome.{partial_answer, node_trials}

-- what is left to be tested at a place, where so many places are open
abbrev pub left : Problem → Option Rational → List Derived → List PartialNode → ℕ → ℕ → Outcome
left p goal ds nodes k open_places = outcome (node_trials p goal ds (k + 1) (ways_to (reverse (take k (map shape nodes))) 0 open_places) (drop k nodes))

-- the answer for a node at a place
abbrev pub answer_at : Problem → Option Rational → List Derived → List PartialNode → ℕ → PartialNode → Result Bool NoFit
answer_at p goal ds nodes k node = partial_answer (record { version = Two; problem = p; derived = ds; sides = way (map shape nodes) k }) goal node

-- the nodes from a place on: the one there, and those behind it
pub next : (nodes : List PartialNode) (k : ℕ) (node : PartialNode) → slice_get nodes k ≡ Some node → drop k nodes ≡ node ∷ drop (k + 1) nodes
next nodes k node is = drop_more nodes k node (slice_get_within nodes k node is) ∙ ap (λ x. x ∷ drop (k + 1) nodes) (get_or_from_slice_get nodes k node node is)

next_back : (nodes : List PartialNode) (k : ℕ) (node : PartialNode) → slice_get nodes k ≡ Some node → reverse (take (k + 1) (map shape nodes)) ≡ shape node ∷ reverse (take k (map shape nodes))
next_back nodes k node is =
    let within : k < length (map shape nodes) = subst (λ n. k < n) (sym (length-map nodes shape)) (slice_get_within nodes k node is) in
    let here : shape node ≡ get_or (map shape nodes) k (shape node) = ap shape (sym (get_or_from_slice_get nodes k node node is)) ∙ sym (get_or-map shape nodes k node) in
    rw (add-one k) (back (map shape nodes) k (shape node) within here)

opened : (node : TreeNode) (sides : List Side) (m : ℕ) → open_after node m ≡ length (below node sides) + m
opened (Branch s) sides m = omega arith
opened (Empty w) sides m = omega arith
opened (Bound w) sides m = omega arith

-- what is left at an open place is the node's test, and then the rest
tested : (p : Problem) (goal : Option Rational) (ds : List Derived) (nodes : List PartialNode) (k m : ℕ) (node : PartialNode) (r : Result Bool NoFit) (all : Outcome) → slice_get nodes k ≡ Some node → left p goal ds nodes k (suc m) ≡ all → r ≡ answer_at p goal ds nodes k node → judged (Node (k + 1)) r (outcome (node_trials p goal ds (k + 1 + 1) (below (shape node) (way (map shape nodes) k) ++ ways_to (reverse (take k (map shape nodes))) 1 m) (drop (k + 1) nodes))) ≡ all
tested p goal ds nodes k m node r all is inv e =
    let b : List TreeNode = reverse (take k (map shape nodes)) in
    let start : outcome (node_trials p goal ds (k + 1) (way_to b 0 ∷ ways_to b 1 m) (node ∷ drop (k + 1) nodes)) ≡ all = rw (next nodes k node is) at inv in
    ap (λ r. judged (Node (k + 1)) r (outcome (node_trials p goal ds (k + 1 + 1) (below (shape node) (way_to b 0) ++ ways_to b 1 m) (drop (k + 1) nodes)))) e ∙ start

pub node_holds : (p : Problem) (goal : Option Rational) (ds : List Derived) (nodes : List PartialNode) (k open_places more : ℕ) (node : PartialNode) (all : Outcome) → slice_get nodes k ≡ Some node → left p goal ds nodes k open_places ≡ all → 0 < open_places → Ok true ≡ answer_at p goal ds nodes k node → more ≡ open_after (shape node) (open_places - 1) → left p goal ds nodes (k + 1) more ≡ all
node_holds p goal ds nodes k zero more node all is inv some pass e = absurd (omega arith)
node_holds p goal ds nodes k (suc m) more node all is inv some pass e =
    let b : List TreeNode = reverse (take k (map shape nodes)) in
    let after : outcome (node_trials p goal ds (k + 1 + 1) (below (shape node) (way_to b 0) ++ ways_to b 1 m) (drop (k + 1) nodes)) ≡ all = tested p goal ds nodes k m node (Ok true) all is inv pass in
    let one : suc m - 1 ≡ m = omega arith in
    let count : more ≡ length (below (shape node) (way_to b 0)) + m = e ∙ ap (open_after (shape node)) one ∙ opened (shape node) (way_to b 0) m in
    let places : ways_to (reverse (take (k + 1) (map shape nodes))) 0 more ≡ below (shape node) (way_to b 0) ++ ways_to b 1 m = ap (λ xs. ways_to xs 0 more) (next_back nodes k node is) ∙ ap (λ n. ways_to (shape node ∷ b) 0 n) count ∙ sym (ways_step (shape node) b m) in
    ap (λ ps. outcome (node_trials p goal ds (k + 1 + 1) ps (drop (k + 1) nodes))) places ∙ after

pub node_fails : (p : Problem) (goal : Option Rational) (ds : List Derived) (nodes : List PartialNode) (k open_places : ℕ) (node : PartialNode) (all : Outcome) → slice_get nodes k ≡ Some node → left p goal ds nodes k open_places ≡ all → 0 < open_places → Ok false ≡ answer_at p goal ds nodes k node → Refusal (Node (k + 1)) ≡ all
node_fails p goal ds nodes k zero node all is inv some pass = absurd (omega arith)
node_fails p goal ds nodes k (suc m) node all is inv some pass = tested p goal ds nodes k m node (Ok false) all is inv pass

pub node_faults : (p : Problem) (goal : Option Rational) (ds : List Derived) (nodes : List PartialNode) (k open_places : ℕ) (node : PartialNode) (d : NoFit) (all : Outcome) → slice_get nodes k ≡ Some node → left p goal ds nodes k open_places ≡ all → 0 < open_places → Err d ≡ answer_at p goal ds nodes k node → Fault (Node (k + 1)) d ≡ all
node_faults p goal ds nodes k zero node d all is inv some pass = absurd (omega arith)
node_faults p goal ds nodes k (suc m) node d all is inv some pass = tested p goal ds nodes k m node (Err d) all is inv pass

pub tree_full : (p : Problem) (goal : Option Rational) (ds : List Derived) (nodes : List PartialNode) (k open_places : ℕ) (all : Outcome) → k < length nodes → left p goal ds nodes k open_places ≡ all → open_places ≡ 0 → Refusal (Node (k + 1)) ≡ all
tree_full p goal ds nodes k zero all h inv e =
    let node = element_at nodes k h in
    rw (next nodes k node.0 (slice_get_read nodes (length nodes) k node.0 refl h node.1)) at inv
tree_full p goal ds nodes k (suc m) all h inv e = absurd (omega arith)

-- past the last node
pub tree_short : (p : Problem) (goal : Option Rational) (ds : List Derived) (nodes : List PartialNode) (k open_places : ℕ) (all : Outcome) → length nodes ≤ k → left p goal ds nodes k open_places ≡ all → 0 < open_places → Refusal (Node (k + 1)) ≡ all
tree_short p goal ds nodes k zero all h inv e = absurd (omega arith)
tree_short p goal ds nodes k (suc m) all h inv e = rw (drop_of_length-le nodes h) at inv

pub tree_whole : (p : Problem) (goal : Option Rational) (ds : List Derived) (nodes : List PartialNode) (k open_places : ℕ) (all : Outcome) → length nodes ≤ k → left p goal ds nodes k open_places ≡ all → open_places ≡ 0 → Acceptance ≡ all
tree_whole p goal ds nodes k zero all h inv e = rw (drop_of_length-le nodes h) at inv
tree_whole p goal ds nodes k (suc m) all h inv e = absurd (omega arith)

-- as many nodes as nodes of a certificate in their places
pub same_count : (nodes : List PartialNode) (kept : List Kept) → map node_of kept ≡ map shape nodes → length kept ≡ length nodes
same_count nodes kept e = sym (same_length node_of kept (map shape nodes) e) ∙ length-map nodes shape

-- one more node leaves no more than one place more
pub open_le : (node : PartialNode) (n : ℕ) → 0 < n → open_after (shape node) (n - 1) ≤ n + 1
open_le node n h = go (shape node)
  where
    go : (x : TreeNode) → open_after x (n - 1) ≤ n + 1
    go (Branch s) = omega arith
    go (Empty w) = omega arith
    go (Bound w) = omega arith
