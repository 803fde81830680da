use Rattle.std.proofs.Common.{◌∷◌, [], arith, length-append}
use Rattle.std.proofs.lemmas.Result.{err_from_is_err_and}
use Rattle.certificate_reader.specs.Reading.{derived_rows_at}
use Rattle.certificate_reader.proofs.LinesTaken.{rows_more, rows_fault, rows_all}
use Rattle.certificate_reader.proofs.reading.derived_rows.Goals as goal

pub returns-in_err-row : goal.returns-in_err-row
returns-in_err-row c =
    let p = err_from_is_err_and c.from_residual.result c.from_residual.ensures.1 in
    rw (p.1, p.2) (rows_fault c.in_err-row.field-0.0 c.args.count c.loop.counter c.loop.rows c.loop.lines _ c.loop-test.true c.in_err-row.ensures c.loop.invariant.read)

pub loop-preserved : goal.loop-preserved
loop-preserved c =
    let more = rows_more c.args.count c.loop.counter c.loop.rows c.loop.lines c.in_ok-row.row c.derived_row.new.lines (derived_rows_at c.args.count c.args.lines.now) c.loop-test.true c.in_ok-row.ensures c.loop.invariant.read in
    let len = length-append c.loop.rows (c.in_ok-row.row ∷ []) in
    record { read = rw c.in_ok-push.ensures.ok more; count = rw c.in_ok-push.ensures.ok (omega (arith, len, c.loop.invariant.count)) }

pub returns : goal.returns
returns c = rows_all c.args.count c.loop.counter c.loop.rows c.loop.lines (derived_rows_at c.args.count c.args.lines.now) c.loop-test.false c.loop.invariant.read
