-- A certificate by rows that proves its verdict, restored, proves it of the problem without cuts as rows.
use Rattle.std.proofs.Common.{◌≡◌, ◌∙◌, ℕ, ◌+◌, List, [], ◌∷◌, ◌++◌, map, true, refl, sym, ap, Option, None, length, arith}
use Rattle.rational.specs.Rational.{Rational}
use Rattle.milp.specs.Form.{value_at}
use Rattle.milp.specs.Problem.{Problem}
use Rattle.certificate.specs.Written.{open_after}
use Rattle.verdicts.specs.Certificate.{Two, Side, Derived, TreeNode, Branch, Empty, Bound, Certificate}
use Rattle.verdicts.specs.Proves.{terms, node_passes, below, Part, Test, derived_tests, node_tests, tree_tests, first_failing, Proves}
use Rattle.row_columns.proofs.SameForms.{unit_past}
use Rattle.row_columns.proofs.RestoredSums.{StaysWithin, IsSameObjective, refutes_restored, bound_restored}
use Rattle.row_columns.proofs.Parts.{passing, from_passing, parts_prove}
use Rattle.cut_rows.specs.CutProblem.{IsCutProblem}
use Rattle.cut_rows.specs.Restored.{restored_weights, restored_node, derived_rows, restored, IsByRows, AreShown}
use Rattle.cut_rows.proofs.CutParts.{same_whole}
use Rattle.cut_rows.proofs.CutPoints.{point_restored, value_restored, ray_restored}
use Rattle.cut_rows.proofs.RestoredLeaves.{unmoved, terms_restored}

-- ---- nodes

stays_within : (p q : Problem) (cuts : List Derived) → IsCutProblem p cuts q → StaysWithin unmoved (length q.columns) (length p.columns)
stays_within p q cuts h j k i l =
    let many = ap length h.columns in
    unit_past j (length p.columns) k i (omega (arith, many))

same_objective : (p q : Problem) (cuts : List Derived) → IsCutProblem p cuts q → IsSameObjective unmoved p q
same_objective p q cuts h = record { direction = h.direction; value = λ y. ap (value_at y) (sym h.objective); constant = h.constant }

pub node_restored : (p q : Problem) (cuts : List Derived) → IsCutProblem p cuts q → (goal : Option Rational) (sides : List Side) (node : TreeNode) → node_passes q Two goal [] sides node ≡ true → node_passes p Two goal cuts sides (restored_node p node) ≡ true
node_restored p q cuts h goal sides (Branch s) t = sym (same_whole p q h.columns s.form) ∙ t
node_restored p q cuts h goal sides (Empty w) t = refutes_restored unmoved (length q.columns) (length p.columns) (stays_within p q cuts h) (terms q [] [] sides w) (terms p cuts [] sides (restored_weights p w)) (terms_restored p q cuts h sides w) t
node_restored p q cuts h goal sides (Bound w) t = bound_restored unmoved p q (stays_within p q cuts h) (same_objective p q cuts h) goal (terms q [] [] sides w) (terms p cuts [] sides (restored_weights p w)) (terms_restored p q cuts h sides w) t

pub same_below : (p : Problem) (node : TreeNode) (sides : List Side) → below (restored_node p node) sides ≡ below node sides
same_below p (Branch s) sides = refl
same_below p (Empty w) sides = refl
same_below p (Bound w) sides = refl

-- a node has as many places below it
pub same_opened : (p : Problem) (node : TreeNode) (m : ℕ) → open_after (restored_node p node) m ≡ open_after node m
same_opened p (Branch s) m = refl
same_opened p (Empty w) m = refl
same_opened p (Bound w) m = refl

nodes_restored : (p q : Problem) (cuts : List Derived) → IsCutProblem p cuts q → (goal : Option Rational) (k : ℕ) (places : List (List Side)) (nodes : List TreeNode) → first_failing (node_tests q Two goal [] k places nodes) ≡ None → first_failing (node_tests p Two goal cuts k places (map (restored_node p) nodes)) ≡ None
nodes_restored p q cuts h goal k [] [] t = refl
nodes_restored p q cuts h goal k [] (node ∷ nodes) t = cc
nodes_restored p q cuts h goal k (sides ∷ places) [] t = cc
nodes_restored p q cuts h goal k (sides ∷ places) (node ∷ nodes) t =
    let both = passing (record { part = Part.Node k; passes = node_passes q Two goal [] sides node }) (node_tests q Two goal [] (k + 1) (below node sides ++ places) nodes) t in
    from_passing (record { part = Part.Node k; passes = node_passes p Two goal cuts sides (restored_node p node) }) (node_tests p Two goal cuts (k + 1) (below (restored_node p node) sides ++ places) (map (restored_node p) nodes)) (node_restored p q cuts h goal sides node both.0)
    (ap (λ ways. first_failing (node_tests p Two goal cuts (k + 1) (ways ++ places) (map (restored_node p) nodes))) (same_below p node sides) ∙ nodes_restored p q cuts h goal (k + 1) (below node sides ++ places) nodes both.1)

-- ---- the certificate

pub both_pass : (ts us : List Test) → first_failing ts ≡ None → first_failing us ≡ None → first_failing (ts ++ us) ≡ None
both_pass [] us h k = k
both_pass (t ∷ ts) us h k = let both = passing t ts h in from_passing t (ts ++ us) both.0 (both_pass ts us both.1 k)

tree_restored : (p q : Problem) (cuts : List Derived) → IsCutProblem p cuts q → AreShown p cuts → (goal : Option Rational) (c : Certificate) → IsByRows c → derived_rows c.verdict cuts ≡ cuts → first_failing (tree_tests q goal c) ≡ None → first_failing (tree_tests p goal (restored p cuts c)) ≡ None
tree_restored p q cuts h shown goal c by e t =
    let u : first_failing (derived_tests q Two 1 [] [] ++ node_tests q Two goal [] 1 ([] ∷ []) c.tree) ≡ None = rw (by.version, by.derived) at t in
    let made = both_pass (derived_tests p Two 1 [] cuts) (node_tests p Two goal cuts 1 ([] ∷ []) (map (restored_node p) c.tree)) shown (nodes_restored p q cuts h goal 1 ([] ∷ []) c.tree u) in
    ap (λ ds. first_failing (derived_tests p Two 1 [] ds ++ node_tests p Two goal ds 1 ([] ∷ []) (map (restored_node p) c.tree))) e ∙ made

pub certificate_restored : (p q : Problem) (cuts : List Derived) (c : Certificate) → IsCutProblem p cuts q → AreShown p cuts → IsByRows c → Proves q c → Proves p (restored p cuts c)
certificate_restored p q cuts c h shown by t = parts_prove p q c (restored p cuts c) refl (λ size. size ∙ ap length h.columns) refl (record {
  point = point_restored p q cuts h c.point;
  value = value_restored p q cuts h c.point c.value;
  ray = ray_restored p q cuts h c.ray;
  best = λ v. tree_restored p q cuts h shown c.value c by (ap (λ w. derived_rows w cuts) v);
  none = λ v. tree_restored p q cuts h shown None c by (ap (λ w. derived_rows w cuts) v);
}) t
