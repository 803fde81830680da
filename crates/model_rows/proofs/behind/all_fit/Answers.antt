use Rattle.std.proofs.Common.{rules, ◌<◌, length, slice_get}
use Rattle.std.specs.Prelude.{IsOk}
use Rattle.rational.specs.Rational.{zero_ℚ}
use Rattle.instance.specs.Sums.{sum_answer, form_of}
use Rattle.model_rows.proofs.Fitting.{with_row}
use Rattle.model_rows.proofs.behind.all_fit.Goals as goal

pub loop-row-preserved : goal.loop-row-preserved
loop-row-preserved c behind =
    let inside : c.loop-row.row < length c.args.problem.now.rows = search rules in
    let fits : IsOk (sum_answer c.args.point.now zero_ℚ (form_of (slice_get c.args.problem.now.rows c.loop-row.row))) = search rules in
    c.loop-row.invariant (with_row c.args.point.now c.args.problem.now.rows c.loop-row.row inside fits behind)
