use Rattle.std.proofs.Common.{◌≡◌, ◌∙◌, true, sym, subst, List}
use Rattle.milp.specs.Form.{Entry}
use Rattle.certificate.specs.Written.{count_max}
use Rattle.cert_check.specs.Parts.{ascending}
use Rattle.cert_check.proofs.Ascending.{entries_ascend}
use Rattle.cert_check.proofs.forms.side_sum.Goals as goal

pub with_negative_coefficient-requires : goal.with_negative_coefficient-requires
with_negative_coefficient-requires c =
    let own : ascending 0 c.args.split.now.form ≡ true = entries_ascend 0 count_max c.args.split.now.form c.at-at.ensures.written.form.entries in
    subst (λ (es : List Entry). ascending 0 es ≡ true) (sym (c.as_slice-form.ensures ∙ c.form.ensures)) own

pub with_coefficient-requires : goal.with_coefficient-requires
with_coefficient-requires c =
    let own : ascending 0 c.args.split.now.form ≡ true = entries_ascend 0 count_max c.args.split.now.form c.at-at.ensures.written.form.entries in
    subst (λ (es : List Entry). ascending 0 es ≡ true) (sym (c.as_slice-form.ensures ∙ c.form.ensures)) own
