-- Where the tests of a partial certificate by splits of columns hold, those of the restored one hold of the problem without columns for forms.
use Rattle.std.proofs.Common.{◌≡◌, ◌∙◌, ℕ, ◌+◌, List, [], ◌∷◌, ◌++◌, map, true, ◌&&◌, ◌==◌, refl, sym, ap, Option, Some, None, length}
use Rattle.std.specs.Prelude.{drop, option_map}
use Rattle.std.specs.List.{AllByRecursion, list_all}
use Rattle.std.proofs.lemmas.Bool.{and_from, eq-eqb}
use Rattle.std.proofs.lemmas.List.{map-append}
use Rattle.rational.specs.Rational.{Rational}
use Rattle.rational.specs.Compare.{is_same}
use Rattle.milp.specs.Form.{Entry}
use Rattle.milp.specs.Problem.{Problem}
use Rattle.milp.specs.Points.{objective_value}
use Rattle.verdicts.specs.Certificate.{Two, Side, TreeNode, Branch, Empty, Bound}
use Rattle.verdicts.specs.Proves.{is_whole_form, below, meets, Part, derived_tests, first_failing}
use Rattle.partial_certificate.specs.Partial.{Best, PartialNode, Done, Todo, Partial, shape}
use Rattle.partial_certificate.specs.Columns.{IsOfColumns, IsBySplitsOfColumns}
use Rattle.partial_certificate.specs.Shown.{partial_passes, node_tests, tree_tests, best_tests, Passes}
use Rattle.row_columns.specs.Extended.{IsExtended}
use Rattle.row_columns.specs.Restored.{restored_node, IsNodeOfColumns}
use Rattle.row_columns.specs.Partials.{on_done, restored_best, restored_partial}
use Rattle.row_columns.proofs.Parts.{passing, from_passing}
use Rattle.row_columns.proofs.RestoredTerms.{IsOfColumn, restored_side}
use Rattle.row_columns.proofs.RestoredPoints.{meets_dropped, objective_dropped}
use Rattle.row_columns.proofs.RestoredNodes.{node_restored, below_restored, places_below}

-- ---- nodes, in preorder

shape_of_columns : (node : PartialNode) → IsOfColumns node → IsNodeOfColumns (shape node)
shape_of_columns (Done (Branch s)) h = h
shape_of_columns (Done (Empty w)) h = h
shape_of_columns (Done (Bound w)) h = h
shape_of_columns Todo h = h

shape_restored : (p : Problem) (forms : List (List Entry)) (node : PartialNode) → shape (on_done (restored_node p forms) node) ≡ restored_node p forms (shape node)
shape_restored p forms (Done node) = refl
shape_restored p forms Todo = refl

passes_restored : (p q : Problem) (forms : List (List Entry)) → IsExtended p forms q → list_all (is_whole_form p) forms ≡ true → (goal : Option Rational) (sides : List Side) → AllByRecursion IsOfColumn sides → (node : PartialNode) → IsOfColumns node → partial_passes q goal [] sides node ≡ true → partial_passes p goal [] (map (restored_side forms) sides) (on_done (restored_node p forms) node) ≡ true
passes_restored p q forms h all goal sides k (Done node) n t = node_restored p q forms h all goal sides k node (shape_of_columns (Done node) n) t
passes_restored p q forms h all goal sides k Todo n t = refl

nodes_restored : (p q : Problem) (forms : List (List Entry)) → IsExtended p forms q → list_all (is_whole_form p) forms ≡ true → (goal : Option Rational) (k : ℕ) (places : List (List Side)) → AllByRecursion (AllByRecursion IsOfColumn) places → (nodes : List PartialNode) → AllByRecursion IsOfColumns nodes → first_failing (node_tests q goal [] k places nodes) ≡ None → first_failing (node_tests p goal [] k (map (map (restored_side forms)) places) (map (on_done (restored_node p forms)) nodes)) ≡ None
nodes_restored p q forms h all goal k [] c [] n t = refl
nodes_restored p q forms h all goal k [] c (node ∷ nodes) n t = cc
nodes_restored p q forms h all goal k (sides ∷ places) c [] n t = cc
nodes_restored p q forms h all goal k (sides ∷ places) c (node ∷ nodes) n t =
    let made : PartialNode = on_done (restored_node p forms) node in
    let both = passing (record { part = Part.Node k; passes = partial_passes q goal [] sides node }) (node_tests q goal [] (k + 1) (below (shape node) sides ++ places) nodes) t in
    let rest = nodes_restored p q forms h all goal (k + 1) (below (shape node) sides ++ places) (places_below sides places c.0 c.1 (shape node) (shape_of_columns node n.0)) nodes n.1 both.1 in
    let front : map (map (restored_side forms)) (below (shape node) sides) ≡ below (shape made) (map (restored_side forms) sides) = sym (ap (λ (x : TreeNode). below x (map (restored_side forms) sides)) (shape_restored p forms node) ∙ below_restored p forms sides (shape node)) in
    let e : map (map (restored_side forms)) (below (shape node) sides ++ places) ≡ below (shape made) (map (restored_side forms) sides) ++ map (map (restored_side forms)) places = map-append (map (restored_side forms)) (below (shape node) sides) places ∙ ap (λ (xs : List (List Side)). xs ++ map (map (restored_side forms)) places) front in
    from_passing (record { part = Part.Node k; passes = partial_passes p goal [] (map (restored_side forms) sides) made }) (node_tests p goal [] (k + 1) (below (shape made) (map (restored_side forms) sides) ++ map (map (restored_side forms)) places) (map (on_done (restored_node p forms)) nodes)) (passes_restored p q forms h all goal sides c.0 node n.0 both.0)
    (ap (λ (ps : List (List Side)). first_failing (node_tests p goal [] (k + 1) ps (map (on_done (restored_node p forms)) nodes))) (sym e) ∙ rest)

-- ---- the certificate

tree_restored : (p q : Problem) (forms : List (List Entry)) → IsExtended p forms q → list_all (is_whole_form p) forms ≡ true → (goal : Option Rational) (c : Partial) → IsBySplitsOfColumns c → first_failing (tree_tests q goal c) ≡ None → first_failing (tree_tests p goal (restored_partial p forms c)) ≡ None
tree_restored p q forms h all goal c s t =
    let u : first_failing (derived_tests q Two 1 [] [] ++ node_tests q goal [] 1 ([] ∷ []) c.tree) ≡ None = rw s.derived at t in
    nodes_restored p q forms h all goal 1 ([] ∷ []) (tt, tt) c.tree s.nodes u

best_passes : (p q : Problem) (forms : List (List Entry)) → IsExtended p forms q → list_all (is_whole_form p) forms ≡ true → (c : Partial) → IsBySplitsOfColumns c → (o : Option Best) → first_failing (best_tests q c o) ≡ None → first_failing (best_tests p (restored_partial p forms c) (option_map (restored_best forms) o)) ≡ None
best_passes p q forms h all c s None t = tree_restored p q forms h all None c s t
best_passes p q forms h all c s (Some b) t =
    let made : Partial = restored_partial p forms c in
    let x : List Rational = drop (length forms) b.point in
    let one = passing (record { part = Part.Point; passes = meets q b.point }) (record { part = Part.Value; passes = is_same b.value (objective_value q b.point) } ∷ tree_tests q (Some b.value) c) t in
    let two = passing (record { part = Part.Value; passes = is_same b.value (objective_value q b.point) }) (tree_tests q (Some b.value) c) one.1 in
    from_passing (record { part = Part.Point; passes = meets p x }) (record { part = Part.Value; passes = is_same b.value (objective_value p x) } ∷ tree_tests p (Some b.value) made) (meets_dropped p q forms h b.point one.0)
    (from_passing (record { part = Part.Value; passes = is_same b.value (objective_value p x) }) (tree_tests p (Some b.value) made) (ap (is_same b.value) (sym (objective_dropped p q forms h b.point)) ∙ two.0) (tree_restored p q forms h all (Some b.value) c s two.1))

pub partial_restored : (p q : Problem) (forms : List (List Entry)) (c : Partial) → IsExtended p forms q → list_all (is_whole_form p) forms ≡ true → IsBySplitsOfColumns c → Passes q c → Passes p (restored_partial p forms c)
partial_restored p q forms c h all s t =
    let made : Partial = restored_partial p forms c in
    let one = passing (record { part = Part.Size; passes = (c.rows == length q.rows) && (c.columns == length q.columns) }) (best_tests q c c.best) t in
    from_passing (record { part = Part.Size; passes = (made.rows == length p.rows) && (made.columns == length p.columns) }) (best_tests p made made.best) (and_from _ _ (eq-eqb made.rows (length p.rows) refl) (eq-eqb made.columns (length p.columns) refl)) (best_passes p q forms h all c s c.best one.1)
