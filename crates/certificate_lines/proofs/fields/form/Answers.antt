use Rattle.std.proofs.Common.{◌≡◌, ◌∙◌, [], sym, ap}
use Rattle.std.proofs.lemmas.Result.{err_from_is_err_and}
use Rattle.milp.specs.Form.{Entry}
use Rattle.certificate_lines.specs.Fields.{form_of}
use Rattle.certificate_lines.proofs.Loops.{texts, form_more, form_fault, form_all}
use Rattle.certificate_lines.proofs.Taken.{form_entries}
use Rattle.certificate_lines.proofs.fields.form.Goals as goal

pub returns-in_err-entry-clause-value : goal.returns-in_err-entry-clause-value
returns-in_err-entry-clause-value c =
    let p = err_from_is_err_and c.from_residual.result c.from_residual.ensures.1 in
    rw (p.1, p.2) (form_fault c.args.fields.now c.loop-field.field-index (record { ref_ptr = (0, 0); now = [] }) c.loop-field.least c.loop-field.entries.items c.in_err-entry.field-0.0 _ c.loop-field-test.true (sym c.in_err-entry.ensures) c.loop-field.invariant)

pub loop-field-preserved : goal.loop-field-preserved
loop-field-preserved c =
    let e : Entry = c.in_ok-entry.entry in
    let more = form_more c.args.fields.now c.loop-field.field-index (record { ref_ptr = (0, 0); now = [] }) c.loop-field.least c.loop-field.entries.items e (form_of 0 (texts c.args.fields.now)) c.loop-field-test.true (sym c.in_ok-entry.ensures) c.loop-field.invariant in
    let least : c.from-least.result ≡ e.column = c.from-least.ensures ∙ ap (λ (x : Entry). x.column) c.entry-in-loop-field.view_is in
    rw (c.in_ok-push.ensures.items, least) more

pub returns-clause-value : goal.returns-clause-value
returns-clause-value c =
    let all = form_all c.args.fields.now c.loop-field.field-index c.loop-field.least c.loop-field.entries.items (form_of 0 (texts c.args.fields.now)) c.loop-field-test.false c.loop-field.invariant in
    rw c.from_vec.ensures all

pub returns-clause-written : goal.returns-clause-written
returns-clause-written c =
    let all = form_all c.args.fields.now c.loop-field.field-index c.loop-field.least c.loop-field.entries.items (form_of 0 (texts c.args.fields.now)) c.loop-field-test.false c.loop-field.invariant in
    rw c.from_vec.ensures (form_entries 0 (texts c.args.fields.now) _ all)
