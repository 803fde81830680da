use Rattle.std.proofs.Common.{◌≡◌, ◌∙◌, sym, ap, arith}
use Rattle.milp.specs.Form.{Entry}
use Rattle.cert_check.proofs.Ascending.{none_after}
use Rattle.cert_check.proofs.lookup.entry_of.Goals as goal

pub returns-then-entry-column : goal.returns-then-entry-column
returns-then-entry-column c =
    let is : c.entry.inside.column ≡ c.index-form-k.result.column = ap (λ (e : Entry). e.column) c.entry.view_is in
    sym (none_after c.args.form.now c.loop-k.k c.index-form-k.result c.args.column c.requires c.loop-k-test.true c.index-form-k.is (omega (arith, is, c.if-entry-column.true))) ∙ c.loop-k.invariant.rest
