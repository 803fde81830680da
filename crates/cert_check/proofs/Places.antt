-- Steps of the loop over the nodes.
use Rattle.std.proofs.Common.{◌≡◌, ◌∙◌, ℕ, zero, suc, ◌+◌, ◌-◌, ◌<◌, ◌≤◌, true, false, Bool, Option, List, ◌∷◌, ◌++◌, length, get_or, take, drop, reverse, drop_of_length-le, sym, ap, arith, Result, Ok, Err, add-one}
use Rattle.rational.specs.Rational.{Rational}
use Rattle.fraction.specs.declared.frac.NoFit.{NoFit}
use Rattle.milp.specs.Problem.{Problem}
use Rattle.verdicts.specs.Certificate.{Version, Derived, Side, TreeNode, Branch, Empty, Bound}
use Rattle.verdicts.specs.Proves.{below, Node}
use Rattle.verdicts.specs.Preorder.{way_to, ways_to}
use Rattle.verdicts.proofs.Laws.{ways_step}
use Rattle.certificate.specs.Written.{open_after}
use Rattle.certificate.specs.Ways.{way}
use Rattle.cert_check.specs.Parts.{node_answer}
use Rattle.cert_check.specs.Outcome.{Outcome, Refusal, Fault, judged, outcome, node_trials}
use Rattle.certificate.proofs.Laws.{back}
use Rattle.cert_check.proofs.Products.{next}

next_back : (nodes : List TreeNode) (k : ℕ) (node : TreeNode) → k < length nodes → node ≡ get_or nodes k node → reverse (take (k + 1) nodes) ≡ node ∷ reverse (take k nodes)
next_back nodes k node h is = rw (add-one k) (back nodes k node h is)

abbrev pub left : Problem → Version → Option Rational → List Derived → List TreeNode → ℕ → ℕ → Outcome
left p v goal ds nodes k open_places = outcome (node_trials p v goal ds (k + 1) (ways_to (reverse (take k nodes)) 0 open_places) (drop k nodes))

opened : (node : TreeNode) (sides : List Side) (m : ℕ) → open_after node m ≡ length (below node sides) + m
opened (Branch s) sides m = omega arith
opened (Empty w) sides m = omega arith
opened (Bound w) sides m = omega arith

-- what is left at an open place is the node's test, and then the rest
tested : (p : Problem) (v : Version) (goal : Option Rational) (ds : List Derived) (nodes : List TreeNode) (k m : ℕ) (node : TreeNode) (r : Result Bool NoFit) (all : Outcome) → k < length nodes → node ≡ get_or nodes k node → left p v goal ds nodes k (suc m) ≡ all → r ≡ node_answer (record { version = v; problem = p; derived = ds; sides = way nodes k }) goal node → judged (Node (k + 1)) r (outcome (node_trials p v goal ds (k + 1 + 1) (below node (way nodes k) ++ ways_to (reverse (take k nodes)) 1 m) (drop (k + 1) nodes))) ≡ all
tested p v goal ds nodes k m node r all h is inv e =
    let b : List TreeNode = reverse (take k nodes) in
    let start : outcome (node_trials p v goal ds (k + 1) (way_to b 0 ∷ ways_to b 1 m) (node ∷ drop (k + 1) nodes)) ≡ all = rw (next nodes k node h is) at inv in
    ap (λ r. judged (Node (k + 1)) r (outcome (node_trials p v goal ds (k + 1 + 1) (below node (way_to b 0) ++ ways_to b 1 m) (drop (k + 1) nodes)))) e ∙ start

pub node_holds : (p : Problem) (v : Version) (goal : Option Rational) (ds : List Derived) (nodes : List TreeNode) (k open_places more : ℕ) (node : TreeNode) (all : Outcome) → k < length nodes → node ≡ get_or nodes k node → left p v goal ds nodes k open_places ≡ all → 0 < open_places → Ok true ≡ node_answer (record { version = v; problem = p; derived = ds; sides = way nodes k }) goal node → more ≡ open_after node (open_places - 1) → left p v goal ds nodes (k + 1) more ≡ all
node_holds p v goal ds nodes k zero more node all h is inv some pass e = absurd (omega arith)
node_holds p v goal ds nodes k (suc m) more node all h is inv some pass e =
    let b : List TreeNode = reverse (take k nodes) in
    let after : outcome (node_trials p v goal ds (k + 1 + 1) (below node (way_to b 0) ++ ways_to b 1 m) (drop (k + 1) nodes)) ≡ all = tested p v goal ds nodes k m node (Ok true) all h is inv pass in
    let one : suc m - 1 ≡ m = omega arith in
    let count : more ≡ length (below node (way_to b 0)) + m = e ∙ ap (open_after node) one ∙ opened node (way_to b 0) m in
    let places : ways_to (reverse (take (k + 1) nodes)) 0 more ≡ below node (way_to b 0) ++ ways_to b 1 m = ap (λ xs. ways_to xs 0 more) (next_back nodes k node h is) ∙ ap (λ n. ways_to (node ∷ b) 0 n) count ∙ sym (ways_step node b m) in
    ap (λ ps. outcome (node_trials p v goal ds (k + 1 + 1) ps (drop (k + 1) nodes))) places ∙ after

pub node_fails : (p : Problem) (v : Version) (goal : Option Rational) (ds : List Derived) (nodes : List TreeNode) (k open_places : ℕ) (node : TreeNode) (all : Outcome) → k < length nodes → node ≡ get_or nodes k node → left p v goal ds nodes k open_places ≡ all → 0 < open_places → Ok false ≡ node_answer (record { version = v; problem = p; derived = ds; sides = way nodes k }) goal node → Refusal (Node (k + 1)) ≡ all
node_fails p v goal ds nodes k zero node all h is inv some pass = absurd (omega arith)
node_fails p v goal ds nodes k (suc m) node all h is inv some pass = tested p v goal ds nodes k m node (Ok false) all h is inv pass

pub node_faults : (p : Problem) (v : Version) (goal : Option Rational) (ds : List Derived) (nodes : List TreeNode) (k open_places : ℕ) (node : TreeNode) (d : NoFit) (all : Outcome) → k < length nodes → node ≡ get_or nodes k node → left p v goal ds nodes k open_places ≡ all → 0 < open_places → Err d ≡ node_answer (record { version = v; problem = p; derived = ds; sides = way nodes k }) goal node → Fault (Node (k + 1)) d ≡ all
node_faults p v goal ds nodes k zero node d all h is inv some pass = absurd (omega arith)
node_faults p v goal ds nodes k (suc m) node d all h is inv some pass = tested p v goal ds nodes k m node (Err d) all h is inv pass

pub tree_full : (p : Problem) (v : Version) (goal : Option Rational) (ds : List Derived) (nodes : List TreeNode) (k open_places : ℕ) (node : TreeNode) (all : Outcome) → k < length nodes → node ≡ get_or nodes k node → left p v goal ds nodes k open_places ≡ all → open_places ≡ 0 → Refusal (Node (k + 1)) ≡ all
tree_full p v goal ds nodes k zero node all h is inv e = rw (next nodes k node h is) at inv
tree_full p v goal ds nodes k (suc m) node all h is inv e = absurd (omega arith)

pub tree_short : (p : Problem) (v : Version) (goal : Option Rational) (ds : List Derived) (nodes : List TreeNode) (k open_places : ℕ) (all : Outcome) → length nodes ≤ k → left p v goal ds nodes k open_places ≡ all → 0 < open_places → Refusal (Node (k + 1)) ≡ all
tree_short p v goal ds nodes k zero all h inv e = absurd (omega arith)
tree_short p v goal ds nodes k (suc m) all h inv e = rw (drop_of_length-le nodes h) at inv
