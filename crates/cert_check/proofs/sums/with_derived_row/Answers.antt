use Rattle.std.proofs.Common.{◌≡◌, ◌∙◌, true, sym, subst, List}
use Rattle.milp.specs.Form.{Entry}
use Rattle.certificate.specs.Written.{count_max}
use Rattle.cert_check.specs.Parts.{ascending}
use Rattle.cert_check.proofs.Ascending.{entries_ascend}
use Rattle.cert_check.proofs.sums.with_derived_row.Goals as goal

pub with_coefficient-requires : goal.with_coefficient-requires
with_coefficient-requires c =
    let own : ascending 0 c.args.row.now.form ≡ true = entries_ascend 0 count_max c.args.row.now.form c.bound-bound.ensures.written.form.entries in
    subst (λ (es : List Entry). ascending 0 es ≡ true) (sym (c.as_slice.ensures ∙ c.form.ensures)) own
