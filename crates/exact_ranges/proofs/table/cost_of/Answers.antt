use Rattle.std.proofs.Common.{◌≡◌, ◌∙◌, true, length, sym, subst}
use Rattle.cert_check.specs.Parts.{ascending}
use Rattle.cert_check.proofs.Laws.{entries_ascend}
use Rattle.exact_ranges.proofs.table.cost_of.Goals as goal

pub coefficient-requires : goal.coefficient-requires
coefficient-requires c =
    let p = c.args.problem.now in
    subst (λ form. ascending 0 form ≡ true) (sym (c.as_slice.ensures ∙ c.objective.ensures.form)) (entries_ascend 0 (length p.columns) p.objective c.keeps_its_limits.ensures.well_formed.objective_form)
