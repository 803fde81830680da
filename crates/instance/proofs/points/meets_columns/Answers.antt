use Rattle.std.proofs.Common.{arith}
use Rattle.instance.proofs.Meeting.{meets_short, meets_end}
use Rattle.instance.proofs.points.meets_columns.Goals as goal

pub returns-then-i-x : goal.returns-then-i-x
returns-then-i-x c = meets_short c.args.columns.now c.args.x.now c.loop-i.i _ c.loop-i-test.true c.if-i-x.true c.loop-i.invariant.left

pub returns : goal.returns
returns c = meets_end c.args.columns.now c.args.x.now c.loop-i.i _ (omega arith) c.loop-i.invariant.in_point c.loop-i.invariant.left
