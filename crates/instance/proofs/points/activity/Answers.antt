use Rattle.std.proofs.Common.{◌≡◌, slice_get, rules}
use Rattle.rational.specs.Rational.{zero_ℚ}
use Rattle.instance.specs.Sums.{sum_answer, form_of}
use Rattle.instance.proofs.Sums.{row_at, sum_ok}
use Rattle.instance.proofs.points.activity.Goals as goal

pub returns-clause-exact : goal.returns-clause-exact
returns-clause-exact c =
    let p = c.args.instance.now in
    let row : form_of (slice_get p.rows c.args.row) ≡ c.index-rows-row.result.entries = row_at p.rows c.args.row c.index-rows-row.result c.requires.row (search rules) in
    rw row (search rules)

pub returns-clause-is_sum : goal.returns-clause-is_sum
returns-clause-is_sum c =
    let p = c.args.instance.now in
    let row : form_of (slice_get p.rows c.args.row) ≡ c.index-rows-row.result.entries = row_at p.rows c.args.row c.index-rows-row.result c.requires.row (search rules) in
    let e : c.sum.result ≡ sum_answer c.args.point.now zero_ℚ c.index-rows-row.result.entries = search rules in
    rw row (sum_ok c.args.point.now c.index-rows-row.result.entries c.sum.result e)
