-- A certificate by splits of columns that proves its verdict, restored, proves it of the problem without columns for forms.
use Rattle.std.proofs.Common.{◌≡◌, List, [], ◌∷◌, ◌++◌, true, refl, Option, None}
use Rattle.std.specs.List.{list_all}
use Rattle.rational.specs.Rational.{Rational}
use Rattle.milp.specs.Form.{Entry}
use Rattle.milp.specs.Problem.{Problem}
use Rattle.verdicts.specs.Certificate.{Two, Certificate}
use Rattle.verdicts.specs.Proves.{is_whole_form, derived_tests, node_tests, tree_tests, first_failing, Proves}
use Rattle.row_columns.specs.Extended.{IsExtended}
use Rattle.row_columns.specs.Restored.{restored, IsBySplitsOfColumns}
use Rattle.row_columns.proofs.Parts.{parts_prove}
use Rattle.row_columns.proofs.RestoredPoints.{point_restored, value_restored, ray_restored}
use Rattle.row_columns.proofs.RestoredNodes.{nodes_restored}

tree_restored : (p q : Problem) (forms : List (List Entry)) → IsExtended p forms q → list_all (is_whole_form p) forms ≡ true → (goal : Option Rational) (c : Certificate) → IsBySplitsOfColumns c → first_failing (tree_tests q goal c) ≡ None → first_failing (tree_tests p goal (restored p forms c)) ≡ None
tree_restored p q forms h all goal c s t =
    let u : first_failing (derived_tests q Two 1 [] [] ++ node_tests q Two goal [] 1 ([] ∷ []) c.tree) ≡ None = rw (s.version, s.derived) at t in
    nodes_restored p q forms h all goal 1 ([] ∷ []) (tt, tt) c.tree s.nodes u

pub certificate_restored : (p q : Problem) (forms : List (List Entry)) (c : Certificate) → IsExtended p forms q → list_all (is_whole_form p) forms ≡ true → IsBySplitsOfColumns c → Proves q c → Proves p (restored p forms c)
certificate_restored p q forms c h all s t = parts_prove p q c (restored p forms c) refl (λ size. refl) refl (record {
  point = point_restored p q forms h c.point;
  value = value_restored p q forms h c.point c.value;
  ray = ray_restored p q forms h c.ray;
  best = λ v. tree_restored p q forms h all c.value c s;
  none = λ v. tree_restored p q forms h all None c s;
}) t
