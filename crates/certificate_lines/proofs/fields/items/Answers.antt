use Rattle.std.proofs.Common.{◌≡◌, ◌∙◌, [], sym, ◌+◌, ap, ℕ}
use Rattle.std.proofs.lemmas.Result.{err_from_is_err_and}
use Rattle.verdicts.specs.Certificate.{Item}
use Rattle.certificate.specs.Written.{rank_of}
use Rattle.certificate_lines.specs.Fields.{items_of, item_of}
use Rattle.certificate_lines.proofs.Loops.{texts, items_more, items_fault, items_other, items_all}
use Rattle.certificate_lines.proofs.fields.items.Goals as goal

pub returns-then-not-is_of-clause-value : goal.returns-then-not-is_of-clause-value
returns-then-not-is_of-clause-value c = items_other c.args.kind c.args.fields.now c.loop-i.i (record { ref_ptr = (0, 0); now = [] }) c.loop-i.least c.loop-i.items _ c.loop-i-test.true (sym c.is_of.ensures.value ∙ c.if-not-is_of.true) c.loop-i.invariant.read

pub returns-in_err-item-clause-value : goal.returns-in_err-item-clause-value
returns-in_err-item-clause-value c =
    let p = err_from_is_err_and c.from_residual.result c.from_residual.ensures.1 in
    rw (p.1, p.2) (items_fault c.args.kind c.args.fields.now c.loop-i.i (record { ref_ptr = (0, 0); now = [] }) c.loop-i.least c.loop-i.items c.in_err-item.field-0.0 _ c.loop-i-test.true (sym c.is_of.ensures.value ∙ c.if-not-is_of.false) (ap (item_of c.loop-i.least) (sym c.after_kind.ensures) ∙ sym c.in_err-item.ensures.value) c.loop-i.invariant.read)

pub loop-i-preserved : goal.loop-i-preserved
loop-i-preserved c =
    let item : Item = c.in_ok-item.item in
    let more = items_more c.args.kind c.args.fields.now c.loop-i.i (record { ref_ptr = (0, 0); now = [] }) c.loop-i.least c.loop-i.items item (items_of c.args.kind 0 (texts c.args.fields.now)) c.loop-i-test.true (sym c.is_of.ensures.value ∙ c.if-not-is_of.false) (ap (item_of c.loop-i.least) (sym c.after_kind.ensures) ∙ sym c.in_ok-item.ensures.value) c.loop-i.invariant.read in
    let place : c.rank_of-least.result ≡ rank_of item = c.rank_of-least.ensures ∙ ap rank_of c.item-in-loop-i.view_is in
    record { read = rw (c.in_ok-push.ensures.ok, place) more; least = c.in_ok-push.ensures.next ∙ ap (λ (n : ℕ). n + 1) (sym place) }

pub returns-clause-value : goal.returns-clause-value
returns-clause-value c = items_all c.args.kind c.args.fields.now c.loop-i.i c.loop-i.least c.loop-i.items (items_of c.args.kind 0 (texts c.args.fields.now)) c.loop-i-test.false c.loop-i.invariant.read
