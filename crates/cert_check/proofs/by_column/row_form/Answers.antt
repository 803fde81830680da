use Rattle.std.proofs.Common.{◌≡◌, ◌∙◌, length, true, sym, subst, List}
use Rattle.milp.specs.Form.{Entry}
use Rattle.cert_check.specs.Parts.{ascending}
use Rattle.cert_check.proofs.Merge.{row_ascends}
use Rattle.cert_check.proofs.by_column.row_form.Goals as goal

pub returns-in-Some-clause-order : goal.returns-in-Some-clause-order
returns-in-Some-clause-order c =
    let p = c.args.problem.now in
    let there = c.in-Some.ensures.lookup in
    let own : ascending 0 c.in-Some.row.now.entries ≡ true = row_ascends (length p.columns) p.rows c.rows.result.now c.args.row c.in-Some.row.now c.keeps_its_limits.ensures.well_formed.row_forms c.rows.ensures there.3.0 there.1 in
    subst (λ (es : List Entry). ascending 0 es ≡ true) (sym (c.as_slice.ensures ∙ c.entries.ensures)) own
