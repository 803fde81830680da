use Rattle.std.proofs.Common.{◌≡◌, ◌≤◌, true, length, sym, subst, arith}
use Rattle.std.specs.List.{list_all}
use Rattle.milp.specs.Problem.{Row}
use Rattle.verdicts.specs.Proves.{is_whole_form}
use Rattle.instance.specs.WellFormed.{are_entries}
use Rattle.certificate.specs.Written.{count_max}
use Rattle.row_columns.proofs.RowLemmas.{rows_within, forms_whole}
use Rattle.row_columns.proofs.extending.with_row_columns.Goals as goal

pub row_forms-requires : goal.row_forms-requires
row_forms-requires c =
    let p = c.args.problem.now in
    let few : length p.columns ≤ 1000000 = c.keeps_its_limits.ensures.limits.columns in
    let fit : length p.columns ≤ count_max = omega (arith, few) in
    subst (λ rs. list_all (λ (r : Row). are_entries count_max r.entries) rs ≡ true) (sym c.rows.ensures) (rows_within (length p.columns) count_max fit p.rows c.keeps_its_limits.ensures.well_formed.row_forms)

pub extended-requires-clause-whole : goal.extended-requires-clause-whole
extended-requires-clause-whole c = subst (λ fs. list_all (is_whole_form c.args.problem.now) fs ≡ true) (sym c.as_slice.ensures.forms) (forms_whole c.args.problem.now c.rows.result.now c.in_ok-forms.forms c.in_ok-forms.ensures)

pub returns-clause-whole : goal.returns-clause-whole
returns-clause-whole c = forms_whole c.args.problem.now c.rows.result.now c.in_ok-forms.forms c.in_ok-forms.ensures
