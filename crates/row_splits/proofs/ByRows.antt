-- What is found of a problem with row columns, and what it says of the problem without them.
use Rattle.std.proofs.Common.{◌≡◌, ◌≢◌, ◌∙◌, suc, ◌+◌, ◌==◌, List, [], ◌∷◌, length, Bool, true, false, ◌&&◌, refl, ap, Option, Some, None, if◌then◌else◌}
use Rattle.std.proofs.lemmas.Bool.{and_parts, eqb-true}
use Rattle.std.proofs.lemmas.List.{length-append}
use Rattle.std.specs.List.{AllByRecursion}
use Rattle.milp.specs.Form.{Entry}
use Rattle.milp.specs.Problem.{Column, Problem}
use Rattle.verdicts.specs.Certificate.{Two, TreeNode, Branch, Empty, Bound, Certificate}
use Rattle.std.specs.Prelude.{Ok, Err}
use Rattle.verdicts.specs.Proves.{Part, first_failing, verdict_tests, Proves}
use Rattle.partial_certificate.specs.Partial.{Partial}
use Rattle.partial_certificate.specs.Shown.{best_tests, Passes}
use Rattle.cert_check.specs.Outcome.{Acceptance, Refusal, Fault, outcome, outcome_of, part_of, trials}
use Rattle.cert_check.specs.declared.part.CheckFault.{CheckFault}
use Rattle.cert_check.specs.declared.part.Checked.{Checked}
use Rattle.cert_check.specs.declared.part.Checked.TheVariants.{Accepted, Refused}
use Rattle.cert_check.specs.declared.part.Part.{Part as CheckedPart}
use Rattle.row_splits.specs.Searched.{IsNotRestored}
use Rattle.branch_search.specs.Columns as found
use Rattle.row_columns.specs.Extended.{AreFormColumns, IsExtended}
use Rattle.row_columns.specs.RowForms.{AreRowForms}
use Rattle.row_columns.specs.Restored.{restored, IsNodeOfColumns, IsBySplitsOfColumns}

same_node : (n : TreeNode) → found.IsNodeOfColumns n → IsNodeOfColumns n
same_node (Branch s) h = h
same_node (Empty w) h = h
same_node (Bound w) h = h

same_nodes : (nodes : List TreeNode) → AllByRecursion found.IsNodeOfColumns nodes → AllByRecursion IsNodeOfColumns nodes
same_nodes [] h = h
same_nodes (n ∷ nodes) h = (same_node n h.0, same_nodes nodes h.1)

pub by_columns : (c : Certificate) → c.version ≡ Two → found.IsBySplitsOfColumns c → IsBySplitsOfColumns c
by_columns c version h = record { version = version; derived = h.derived; nodes = same_nodes c.tree h.nodes }

pub columns_count : (forms : List (List Entry)) (columns : List Column) → AreFormColumns forms columns → length columns ≡ length forms
columns_count [] [] h = refl
columns_count [] (c ∷ columns) h = cc
columns_count (form ∷ forms) [] h = absurd h
columns_count (form ∷ forms) (c ∷ columns) h = ap suc (columns_count forms columns h.1)

passes_so : (b : Bool) (o : Option Part) (part : Part) → (if b then o else Some part) ≡ None → b ≡ true
passes_so true o part h = refl
passes_so false o part h = cc

-- a certificate that proves its verdict has as many columns as the problem
pub own_size : (q : Problem) (c : Certificate) → Proves q c → c.columns ≡ length q.columns
own_size q c h =
    let both = and_parts (c.rows == length q.rows) (c.columns == length q.columns) (passes_so ((c.rows == length q.rows) && (c.columns == length q.columns)) (first_failing (verdict_tests q c c.verdict)) Part.Size h) in
    eqb-true c.columns (length q.columns) both.1

-- so has a partial certificate of which all tests hold
own_partial_size : (q : Problem) (c : Partial) → Passes q c → c.columns ≡ length q.columns
own_partial_size q c h =
    let both = and_parts (c.rows == length q.rows) (c.columns == length q.columns) (passes_so ((c.rows == length q.rows) && (c.columns == length q.columns)) (first_failing (best_tests q c c.best)) Part.Size h) in
    eqb-true c.columns (length q.columns) both.1

-- there is a column for each form, and for each column of the problem without them
all_columns : (p q : Problem) (forms : List (List Entry)) → IsExtended p forms q → length q.columns ≡ length forms + length p.columns
all_columns p q forms h = ap length h.all_columns ∙ length-append h.columns p.columns ∙ ap (λ n. n + length p.columns) (columns_count forms h.columns h.are_columns)

-- what is found has a number for each form and each column
pub found_size : (p q : Problem) (forms : List (List Entry)) (c : Certificate) → IsExtended p forms q → Proves q c → c.columns ≡ length forms + length p.columns
found_size p q forms c h proves = own_size q c proves ∙ all_columns p q forms h

-- and so has what is shown
pub shown_size : (p q : Problem) (forms : List (List Entry)) (c : Partial) → IsExtended p forms q → Passes q c → c.columns ≡ length forms + length p.columns
shown_size p q forms c h passes = own_partial_size q c passes ∙ all_columns p q forms h

-- a certificate that the checker refuses, or of which an operation does not fit, is not accepted
pub refused : (p : Problem) (c : Certificate) (r : Checked) (part : CheckedPart) → r ≡ Refused part → outcome_of (Ok r) ≡ outcome (trials p c) → outcome (trials p c) ≢ Acceptance
refused p c Accepted part h is accepted = cc
refused p c (Refused other) part h is accepted = let never : Refusal (part_of other) ≡ Acceptance = is ∙ accepted in cc

pub unfit : (p : Problem) (c : Certificate) (e : CheckFault) → outcome_of (Err e) ≡ outcome (trials p c) → outcome (trials p c) ≢ Acceptance
unfit p c e is accepted = let never : Fault (part_of e.part) e.fault ≡ Acceptance = is ∙ accepted in cc

-- what is found can't be restored where it is not accepted then
module _ (p q : Problem) (forms : List (List Entry)) (are_forms : AreRowForms p p.rows forms) (extended : IsExtended p forms q) (c : Certificate) (version : c.version ≡ Two) (splits : found.IsBySplitsOfColumns c) (accepted : outcome (trials q c) ≡ Acceptance) where
  pub not_restored : (made : Certificate) → made ≡ restored p forms c → outcome (trials p made) ≢ Acceptance → IsNotRestored p
  not_restored made is none = record {
    forms = forms;
    are_forms = are_forms;
    problem = q;
    extended = extended;
    certificate = c;
    splits = by_columns c version splits;
    accepted = accepted;
    not_accepted = λ h. none (ap (λ d. outcome (trials p d)) is ∙ h);
  }
