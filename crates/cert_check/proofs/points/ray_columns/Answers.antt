use Rattle.std.proofs.Common.{arith, true}
use Rattle.cert_check.proofs.Meeting.{meets_short, meets_end}
use Rattle.cert_check.proofs.points.ray_columns.Goals as goal

pub returns-then-i-x : goal.returns-then-i-x
returns-then-i-x c = meets_short true c.args.columns.now c.args.x.now c.loop-i.i _ c.loop-i-test.true c.if-i-x.true c.loop-i.invariant.left

pub returns : goal.returns
returns c = meets_end true c.args.columns.now c.args.x.now c.loop-i.i _ (omega arith) c.loop-i.invariant.in_point c.loop-i.invariant.left
