-- Honest splits pass the checker's test of a branch.
use Rattle.std.proofs.Common.{◌≡◌, ◌∙◌, List, true}
use Rattle.milp.specs.Problem.{Problem}
use Rattle.verdicts.specs.Certificate.{Split, Side, Derived}
use Rattle.verdicts.specs.Proves.{is_whole_form}
use Rattle.certificate.proofs.Laws.{column_is_whole}
use Rattle.search_tree.specs.Nodes.{IsHonestSplit}

pub whole_form : (p : Problem) (ds : List Derived) (sides : List Side) (s : Split) → IsHonestSplit p ds sides s → is_whole_form p s.form ≡ true
whole_form p ds sides s h = column_is_whole p s h.form ∙ h.integer
