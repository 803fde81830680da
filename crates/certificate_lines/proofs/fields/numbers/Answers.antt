use Rattle.std.proofs.Common.{[], arith, sym}
use Rattle.std.proofs.lemmas.Result.{err_from_is_err_and}
use Rattle.certificate_lines.proofs.Loops.{texts, numbers_more, numbers_fault, numbers_surplus, numbers_missing, numbers_all}
use Rattle.certificate_lines.specs.Fields.{numbers_of}
use Rattle.certificate_lines.proofs.fields.numbers.Goals as goal

pub returns-then-i-count : goal.returns-then-i-count
returns-then-i-count c = numbers_surplus c.args.fields.now c.loop-i.i (record { ref_ptr = (0, 0); now = [] }) c.args.count c.loop-i.numbers.items _ c.loop-i-test.true c.if-i-count.true c.loop-i.invariant.read

pub returns-in_err-number : goal.returns-in_err-number
returns-in_err-number c =
    let p = err_from_is_err_and c.from_residual.result c.from_residual.ensures.1 in
    rw (p.1, p.2) (numbers_fault c.args.fields.now c.loop-i.i (record { ref_ptr = (0, 0); now = [] }) c.args.count c.loop-i.numbers.items c.in_err-number.field-0.0 _ c.loop-i-test.true c.if-i-count.false (sym c.in_err-number.ensures) c.loop-i.invariant.read)

pub loop-i-preserved : goal.loop-i-preserved
loop-i-preserved c =
    let more = numbers_more c.args.fields.now c.loop-i.i (record { ref_ptr = (0, 0); now = [] }) c.args.count c.loop-i.numbers.items c.in_ok-number.field-0 (numbers_of c.args.count (texts c.args.fields.now)) c.loop-i-test.true c.if-i-count.false (sym c.in_ok-number.ensures) c.loop-i.invariant.read in
    let items = c.in_ok-push.ensures.items in
    record { read = rw items more; few = omega arith }

pub returns-then-fields-count : goal.returns-then-fields-count
returns-then-fields-count c = numbers_missing c.args.fields.now c.loop-i.i c.args.count c.loop-i.numbers.items _ c.loop-i-test.false (omega arith) c.loop-i.invariant.read

pub returns : goal.returns
returns c =
    let all = numbers_all c.args.fields.now c.loop-i.i c.args.count c.loop-i.numbers.items (numbers_of c.args.count (texts c.args.fields.now)) c.loop-i-test.false (omega arith) c.loop-i.invariant.read in
    rw c.from_vec.ensures all
