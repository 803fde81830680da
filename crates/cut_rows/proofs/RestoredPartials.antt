-- Where the tests of a partial certificate without derived rows hold, those of the restored one hold of the problem without cuts as rows.
use Rattle.std.proofs.Common.{◌≡◌, ◌∙◌, ℕ, ◌+◌, List, [], ◌∷◌, ◌++◌, map, true, ◌&&◌, ◌==◌, refl, sym, ap, Option, Some, None, length}
use Rattle.std.proofs.lemmas.Bool.{and_parts, and_from, eqb-true, eq-eqb}
use Rattle.rational.specs.Rational.{Rational}
use Rattle.rational.specs.Compare.{is_same}
use Rattle.milp.specs.Problem.{Problem}
use Rattle.milp.specs.Points.{objective_value}
use Rattle.verdicts.specs.Certificate.{Two, Side, Derived, TreeNode}
use Rattle.verdicts.specs.Proves.{below, meets, Part, derived_tests, first_failing}
use Rattle.partial_certificate.specs.Partial.{Best, PartialNode, Done, Todo, Partial, shape}
use Rattle.partial_certificate.specs.Shown.{partial_passes, node_tests, tree_tests, best_tests, Passes}
use Rattle.row_columns.specs.Partials.{on_done}
use Rattle.row_columns.proofs.Parts.{passing, from_passing}
use Rattle.cut_rows.specs.CutProblem.{IsCutProblem}
use Rattle.cut_rows.specs.Restored.{restored_node, AreShown}
use Rattle.cut_rows.specs.Partials.{restored_partial}
use Rattle.cut_rows.proofs.CutPoints.{point_restored, same_value}
use Rattle.cut_rows.proofs.RestoredCertificates.{node_restored, same_below, both_pass}

-- ---- nodes, in preorder

shape_restored : (p : Problem) (node : PartialNode) → shape (on_done (restored_node p) node) ≡ restored_node p (shape node)
shape_restored p (Done node) = refl
shape_restored p Todo = refl

passes_restored : (p q : Problem) (cuts : List Derived) → IsCutProblem p cuts q → (goal : Option Rational) (sides : List Side) (node : PartialNode) → partial_passes q goal [] sides node ≡ true → partial_passes p goal cuts sides (on_done (restored_node p) node) ≡ true
passes_restored p q cuts h goal sides (Done node) t = node_restored p q cuts h goal sides node t
passes_restored p q cuts h goal sides Todo t = refl

nodes_restored : (p q : Problem) (cuts : List Derived) → IsCutProblem p cuts q → (goal : Option Rational) (k : ℕ) (places : List (List Side)) (nodes : List PartialNode) → first_failing (node_tests q goal [] k places nodes) ≡ None → first_failing (node_tests p goal cuts k places (map (on_done (restored_node p)) nodes)) ≡ None
nodes_restored p q cuts h goal k [] [] t = refl
nodes_restored p q cuts h goal k [] (node ∷ nodes) t = cc
nodes_restored p q cuts h goal k (sides ∷ places) [] t = cc
nodes_restored p q cuts h goal k (sides ∷ places) (node ∷ nodes) t =
    let made : PartialNode = on_done (restored_node p) node in
    let both = passing (record { part = Part.Node k; passes = partial_passes q goal [] sides node }) (node_tests q goal [] (k + 1) (below (shape node) sides ++ places) nodes) t in
    let same : below (shape made) sides ≡ below (shape node) sides = ap (λ (x : TreeNode). below x sides) (shape_restored p node) ∙ same_below p (shape node) sides in
    from_passing (record { part = Part.Node k; passes = partial_passes p goal cuts sides made }) (node_tests p goal cuts (k + 1) (below (shape made) sides ++ places) (map (on_done (restored_node p)) nodes)) (passes_restored p q cuts h goal sides node both.0)
    (ap (λ (ways : List (List Side)). first_failing (node_tests p goal cuts (k + 1) (ways ++ places) (map (on_done (restored_node p)) nodes))) same ∙ nodes_restored p q cuts h goal (k + 1) (below (shape node) sides ++ places) nodes both.1)

-- ---- the certificate

tree_restored : (p q : Problem) (cuts : List Derived) → IsCutProblem p cuts q → AreShown p cuts → (goal : Option Rational) (c : Partial) → c.derived ≡ [] → first_failing (tree_tests q goal c) ≡ None → first_failing (tree_tests p goal (restored_partial p cuts c)) ≡ None
tree_restored p q cuts h shown goal c none t =
    let u : first_failing (derived_tests q Two 1 [] [] ++ node_tests q goal [] 1 ([] ∷ []) c.tree) ≡ None = rw none at t in
    both_pass (derived_tests p Two 1 [] cuts) (node_tests p goal cuts 1 ([] ∷ []) (map (on_done (restored_node p)) c.tree)) shown (nodes_restored p q cuts h goal 1 ([] ∷ []) c.tree u)

best_passes : (p q : Problem) (cuts : List Derived) → IsCutProblem p cuts q → AreShown p cuts → (c : Partial) → c.derived ≡ [] → (o : Option Best) → first_failing (best_tests q c o) ≡ None → first_failing (best_tests p (restored_partial p cuts c) o) ≡ None
best_passes p q cuts h shown c none None t = tree_restored p q cuts h shown None c none t
best_passes p q cuts h shown c none (Some b) t =
    let made : Partial = restored_partial p cuts c in
    let one = passing (record { part = Part.Point; passes = meets q b.point }) (record { part = Part.Value; passes = is_same b.value (objective_value q b.point) } ∷ tree_tests q (Some b.value) c) t in
    let two = passing (record { part = Part.Value; passes = is_same b.value (objective_value q b.point) }) (tree_tests q (Some b.value) c) one.1 in
    from_passing (record { part = Part.Point; passes = meets p b.point }) (record { part = Part.Value; passes = is_same b.value (objective_value p b.point) } ∷ tree_tests p (Some b.value) made) (point_restored p q cuts h (Some b.point) one.0)
    (from_passing (record { part = Part.Value; passes = is_same b.value (objective_value p b.point) }) (tree_tests p (Some b.value) made) (ap (is_same b.value) (sym (same_value p q cuts b.point h)) ∙ two.0) (tree_restored p q cuts h shown (Some b.value) c none two.1))

pub partial_restored : (p q : Problem) (cuts : List Derived) (c : Partial) → IsCutProblem p cuts q → AreShown p cuts → c.derived ≡ [] → Passes q c → Passes p (restored_partial p cuts c)
partial_restored p q cuts c h shown none t =
    let made : Partial = restored_partial p cuts c in
    let one = passing (record { part = Part.Size; passes = (c.rows == length q.rows) && (c.columns == length q.columns) }) (best_tests q c c.best) t in
    let size = and_parts (c.rows == length q.rows) (c.columns == length q.columns) one.0 in
    from_passing (record { part = Part.Size; passes = (made.rows == length p.rows) && (made.columns == length p.columns) }) (best_tests p made made.best) (and_from _ _ (eq-eqb made.rows (length p.rows) refl) (eq-eqb made.columns (length p.columns) (eqb-true c.columns (length q.columns) size.1 ∙ ap length h.columns))) (best_passes p q cuts h shown c none c.best one.1)
