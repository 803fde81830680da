-- Where all tests of a partial certificate hold of a problem without its objective, they hold of the problem itself once the best point is left out.
use Rattle.std.proofs.Common.{◌≡◌, ◌∙◌, ℕ, ◌+◌, List, [], ◌∷◌, ◌++◌, map, slice_get, Bool, true, ◌&&◌, ◌==◌, refl, sym, ap, Option, Some, None, length}
use Rattle.rational.specs.Rational.{Rational}
use Rattle.rational.specs.Compare.{is_same, is_whole}
use Rattle.milp.specs.Form.{Entry}
use Rattle.milp.specs.Problem.{Problem}
use Rattle.milp.specs.Points.{objective_value}
use Rattle.verdicts.specs.Certificate.{Two, Side, Derived, Branch, Empty, Bound}
use Rattle.verdicts.specs.Proves.{is_integer, is_whole_form, below, meets, Part, derived_tests, first_failing}
use Rattle.partial_certificate.specs.Partial.{Best, PartialNode, Done, Todo, Partial, shape}
use Rattle.partial_certificate.specs.Shown.{partial_passes, node_tests, tree_tests, best_tests, Passes}
use Rattle.row_columns.proofs.Parts.{passing, from_passing}
use Rattle.branch_search.specs.WholeFaults.{without_objective}
use Rattle.stopped_search.specs.Stopped.{open_again, without_best}
use Rattle.stopped_search.proofs.OpenedAgain.{below_again}

-- ---- nodes, in preorder

same_whole : (p : Problem) (form : List Entry) → is_whole_form (without_objective p) form ≡ is_whole_form p form
same_whole p [] = refl
same_whole p (e ∷ es) = ap (λ (b : Bool). (is_whole e.coefficient && is_integer (slice_get p.columns e.column)) && b) (same_whole p es)

node_again : (p : Problem) (goal : Option Rational) (sides : List Side) (node : PartialNode) → partial_passes (without_objective p) goal [] sides node ≡ true → partial_passes p None [] sides (open_again node) ≡ true
node_again p goal sides (Done (Branch s)) t = sym (same_whole p s.form) ∙ t
node_again p goal sides (Done (Empty w)) t = t
node_again p goal sides (Done (Bound w)) t = refl
node_again p goal sides Todo t = refl

nodes_again : (p : Problem) (goal : Option Rational) (k : ℕ) (places : List (List Side)) (nodes : List PartialNode) → first_failing (node_tests (without_objective p) goal [] k places nodes) ≡ None → first_failing (node_tests p None [] k places (map open_again nodes)) ≡ None
nodes_again p goal k [] [] t = refl
nodes_again p goal k [] (node ∷ nodes) t = cc
nodes_again p goal k (sides ∷ places) [] t = cc
nodes_again p goal k (sides ∷ places) (node ∷ nodes) t =
    let q : Problem = without_objective p in
    let both = passing (record { part = Part.Node k; passes = partial_passes q goal [] sides node }) (node_tests q goal [] (k + 1) (below (shape node) sides ++ places) nodes) t in
    from_passing (record { part = Part.Node k; passes = partial_passes p None [] sides (open_again node) }) (node_tests p None [] (k + 1) (below (shape (open_again node)) sides ++ places) (map open_again nodes)) (node_again p goal sides node both.0)
    (ap (λ (ways : List (List Side)). first_failing (node_tests p None [] (k + 1) (ways ++ places) (map open_again nodes))) (below_again node sides) ∙ nodes_again p goal (k + 1) (below (shape node) sides ++ places) nodes both.1)

-- ---- the certificate

tree_again : (p : Problem) (goal : Option Rational) (c : Partial) → c.derived ≡ [] → first_failing (tree_tests (without_objective p) goal c) ≡ None → first_failing (tree_tests p None (without_best c)) ≡ None
tree_again p goal c none t =
    let q : Problem = without_objective p in
    let u : first_failing (derived_tests q Two 1 [] [] ++ node_tests q goal [] 1 ([] ∷ []) c.tree) ≡ None = rw none at t in
    ap (λ (ds : List Derived). first_failing (derived_tests p Two 1 [] ds ++ node_tests p None ds 1 ([] ∷ []) (map open_again c.tree))) none ∙ nodes_again p goal 1 ([] ∷ []) c.tree u

best_again : (p : Problem) (c : Partial) → c.derived ≡ [] → (o : Option Best) → first_failing (best_tests (without_objective p) c o) ≡ None → first_failing (tree_tests p None (without_best c)) ≡ None
best_again p c none None t = tree_again p None c none t
best_again p c none (Some b) t =
    let q : Problem = without_objective p in
    let one = passing (record { part = Part.Point; passes = meets q b.point }) (record { part = Part.Value; passes = is_same b.value (objective_value q b.point) } ∷ tree_tests q (Some b.value) c) t in
    let two = passing (record { part = Part.Value; passes = is_same b.value (objective_value q b.point) }) (tree_tests q (Some b.value) c) one.1 in
    tree_again p (Some b.value) c none two.1

pub passes_without_best : (p : Problem) (c : Partial) → c.derived ≡ [] → Passes (without_objective p) c → Passes p (without_best c)
passes_without_best p c none t =
    let q : Problem = without_objective p in
    let one = passing (record { part = Part.Size; passes = (c.rows == length q.rows) && (c.columns == length q.columns) }) (best_tests q c c.best) t in
    from_passing (record { part = Part.Size; passes = (c.rows == length p.rows) && (c.columns == length p.columns) }) (tree_tests p None (without_best c)) one.0 (best_again p c none c.best one.1)
