-- Where the nodes of a tree of a problem with columns for forms pass, those that are restored pass.
use Rattle.std.proofs.Common.{◌≡◌, ◌∙◌, ℕ, zero, suc, ◌+◌, ◌-◌, ◌<◌, List, [], ◌∷◌, ◌++◌, map, Bool, true, false, ◌&&◌, refl, sym, ap, Option, None, length, arith}
use Rattle.std.specs.Prelude.{nat_lt, get_or}
use Rattle.std.specs.List.{AllByRecursion, list_all}
use Rattle.std.proofs.lemmas.Bool.{and_parts, ltb-true, ltb-false}
use Rattle.std.proofs.lemmas.List.{length-append, map-append}
use Rattle.rational.specs.Rational.{Rational, one_ℚ}
use Rattle.rational.specs.Compare.{is_whole}
use Rattle.milp.specs.Form.{Entry, value_at}
use Rattle.milp.specs.Problem.{Problem}
use Rattle.certificate.specs.Written.{column_form, split_column}
use Rattle.verdicts.specs.Certificate.{Two, Side, TreeNode, Branch, Empty, Bound}
use Rattle.verdicts.specs.Proves.{terms, is_integer, is_whole_form, node_passes, below, Part, node_tests, first_failing}
use Rattle.row_columns.specs.Extended.{IsExtended}
use Rattle.row_columns.specs.Restored.{restored_column, restored_weights, restored_node, IsNodeOfColumns}
use Rattle.row_columns.proofs.FormValues.{with_values, column_before, column_behind, number_behind, moved_value}
use Rattle.row_columns.proofs.SameForms.{unit_point, unit_past}
use Rattle.row_columns.proofs.RestoredSums.{StaysWithin, IsSameObjective, refutes_restored, bound_restored}
use Rattle.row_columns.proofs.Parts.{passing, from_passing}
use Rattle.row_columns.proofs.ExtendedParts.{as_many_columns, column_of_problem}
use Rattle.row_columns.proofs.RestoredTerms.{IsOfColumn, restored_side, terms_restored}

-- ---- the tests of a leaf

pub count_columns : (p q : Problem) (forms : List (List Entry)) → IsExtended p forms q → length q.columns ≡ length forms + length p.columns
count_columns p q forms h = ap length h.all_columns ∙ length-append h.columns p.columns ∙ ap (λ n. n + length p.columns) (as_many_columns forms h.columns h.are_columns)

-- the point with the values of the forms stays within the columns
stays_within : (p q : Problem) (forms : List (List Entry)) → IsExtended p forms q → StaysWithin (with_values forms) (length q.columns) (length p.columns)
stays_within p q forms h j k i l =
    let many = count_columns p q forms h in
    number_behind forms (unit_point j) i (omega arith) ∙ unit_past j (length p.columns) k (i - length forms) (omega arith)

same_objective : (p q : Problem) (forms : List (List Entry)) → IsExtended p forms q → IsSameObjective (with_values forms) p q
same_objective p q forms h = record { direction = h.direction; value = λ y. sym (ap (value_at (with_values forms y)) h.objective ∙ moved_value forms y p.objective); constant = h.constant }

-- ---- the test of a split

pub all_at : (p : Problem) (forms : List (List Entry)) (j : ℕ) → list_all (is_whole_form p) forms ≡ true → j < length forms → is_whole_form p (get_or forms j []) ≡ true
all_at p [] j h k = absurd (omega arith)
all_at p (form ∷ forms) zero h k = (and_parts (is_whole_form p form) (list_all (is_whole_form p) forms) h).0
all_at p (form ∷ forms) (suc j) h k = all_at p forms j (and_parts (is_whole_form p form) (list_all (is_whole_form p) forms) h).1 (omega arith)

whole_restored : (p q : Problem) (forms : List (List Entry)) → IsExtended p forms q → list_all (is_whole_form p) forms ≡ true → (j : ℕ) → is_whole_form q (column_form j) ≡ true → is_whole_form p (restored_column forms j) ≡ true
whole_restored p q forms h all j t = go (nat_lt j (length forms)) refl
  where
    go : (b : Bool) → nat_lt j (length forms) ≡ b → is_whole_form p (restored_column forms j) ≡ true
    go true e = let k = ltb-true j (length forms) e in ap (is_whole_form p) (column_before forms j k) ∙ all_at p forms j all k
    go false e =
        let k = ltb-false j (length forms) e in
        ap (is_whole_form p) (column_behind forms j k) ∙ ap (λ o. (is_whole one_ℚ && is_integer o) && true) (sym (column_of_problem p q forms h j k)) ∙ t

-- ---- nodes, in preorder

pub node_restored : (p q : Problem) (forms : List (List Entry)) → IsExtended p forms q → list_all (is_whole_form p) forms ≡ true → (goal : Option Rational) (sides : List Side) → AllByRecursion IsOfColumn sides → (node : TreeNode) → IsNodeOfColumns node → node_passes q Two goal [] sides node ≡ true → node_passes p Two goal [] (map (restored_side forms) sides) (restored_node p forms node) ≡ true
node_restored p q forms h all goal sides k (Branch s) n t = whole_restored p q forms h all (split_column s) (ap (is_whole_form q) (sym n) ∙ t)
node_restored p q forms h all goal sides k (Empty w) n t = refutes_restored (with_values forms) (length q.columns) (length p.columns) (stays_within p q forms h) (terms q [] [] sides w) (terms p [] [] (map (restored_side forms) sides) (restored_weights p forms w)) (terms_restored p q forms h sides k w) t
node_restored p q forms h all goal sides k (Bound w) n t = bound_restored (with_values forms) p q (stays_within p q forms h) (same_objective p q forms h) goal (terms q [] [] sides w) (terms p [] [] (map (restored_side forms) sides) (restored_weights p forms w)) (terms_restored p q forms h sides k w) t

pub below_restored : (p : Problem) (forms : List (List Entry)) (sides : List Side) (node : TreeNode) → below (restored_node p forms node) (map (restored_side forms) sides) ≡ map (map (restored_side forms)) (below node sides)
below_restored p forms sides (Branch s) = refl
below_restored p forms sides (Empty w) = refl
below_restored p forms sides (Bound w) = refl

pub places_below : (sides : List Side) (places : List (List Side)) → AllByRecursion IsOfColumn sides → AllByRecursion (AllByRecursion IsOfColumn) places → (node : TreeNode) → IsNodeOfColumns node → AllByRecursion (AllByRecursion IsOfColumn) (below node sides ++ places)
places_below sides places h k (Branch s) n = ((n, h), ((n, h), k))
places_below sides places h k (Empty w) n = k
places_below sides places h k (Bound w) n = k

pub nodes_restored : (p q : Problem) (forms : List (List Entry)) → IsExtended p forms q → list_all (is_whole_form p) forms ≡ true → (goal : Option Rational) (k : ℕ) (places : List (List Side)) → AllByRecursion (AllByRecursion IsOfColumn) places → (nodes : List TreeNode) → AllByRecursion IsNodeOfColumns nodes → first_failing (node_tests q Two goal [] k places nodes) ≡ None → first_failing (node_tests p Two goal [] k (map (map (restored_side forms)) places) (map (restored_node p forms) nodes)) ≡ None
nodes_restored p q forms h all goal k [] c [] n t = refl
nodes_restored p q forms h all goal k [] c (node ∷ nodes) n t = cc
nodes_restored p q forms h all goal k (sides ∷ places) c [] n t = cc
nodes_restored p q forms h all goal k (sides ∷ places) c (node ∷ nodes) n t =
    let both = passing (record { part = Part.Node k; passes = node_passes q Two goal [] sides node }) (node_tests q Two goal [] (k + 1) (below node sides ++ places) nodes) t in
    let rest = nodes_restored p q forms h all goal (k + 1) (below node sides ++ places) (places_below sides places c.0 c.1 node n.0) nodes n.1 both.1 in
    let e : map (map (restored_side forms)) (below node sides ++ places) ≡ below (restored_node p forms node) (map (restored_side forms) sides) ++ map (map (restored_side forms)) places = map-append (map (restored_side forms)) (below node sides) places ∙ ap (λ front. front ++ map (map (restored_side forms)) places) (sym (below_restored p forms sides node)) in
    from_passing (record { part = Part.Node k; passes = node_passes p Two goal [] (map (restored_side forms) sides) (restored_node p forms node) }) (node_tests p Two goal [] (k + 1) (below (restored_node p forms node) (map (restored_side forms) sides) ++ map (map (restored_side forms)) places) (map (restored_node p forms) nodes)) (node_restored p q forms h all goal sides c.0 node n.0 both.0)
    (ap (λ ps. first_failing (node_tests p Two goal [] (k + 1) ps (map (restored_node p forms) nodes))) (sym e) ∙ rest)
