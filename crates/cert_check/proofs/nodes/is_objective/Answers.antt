use Rattle.std.proofs.Common.{◌≡◌, ◌∙◌, true, sym, subst, length, List}
use Rattle.milp.specs.Form.{Entry}
use Rattle.cert_check.specs.Parts.{ascending}
use Rattle.cert_check.proofs.Ascending.{entries_ascend}
use Rattle.cert_check.proofs.nodes.is_objective.Goals as goal

pub is_form-requires : goal.is_form-requires
is_form-requires c =
    let p = c.problem-problem.result.now in
    let own : ascending 0 p.objective ≡ true = entries_ascend 0 (length p.columns) p.objective c.keeps_its_limits.ensures.well_formed.objective_form in
    subst (λ (es : List Entry). ascending 0 es ≡ true) (sym (c.as_slice-form.ensures ∙ c.objective.ensures.form)) own
