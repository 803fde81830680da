use Rattle.std.proofs.Common.{arith}
use Rattle.milp.specs.Form.{number_at}
use Rattle.milp.specs.Points.{IsWithin}
use Rattle.search_tree.proofs.NodePoints.{same_within, one_more, all_hold, number_is}
use Rattle.search_tree.proofs.points.are_in_columns.Goals as goal

pub loop-j-preserved : goal.loop-j-preserved
loop-j-preserved c =
    let columns = c.args.columns.now in
    let x = c.args.x.now in
    let column = c.index-columns-j.result in
    let j = c.loop-j.j in
    let number = number_is x j c.index-x-j.result (omega (arith, c.loop-j-test.true, c.loop-j.invariant.size)) c.index-x-j.is in
    let new : IsWithin column.lower column.upper (number_at x j) = same_within c.lower.result column.lower c.upper.result column.upper c.index-x-j.result (number_at x j) c.lower.ensures c.upper.ensures number (c.is_within.ensures.yes c.if-not-is_within.false) in
    record {
      at_most = omega (arith, c.loop-j-test.true);
      size = c.loop-j.invariant.size;
      within = one_more (λ k column. IsWithin column.lower column.upper (number_at x k)) columns j column c.loop-j-test.true c.index-columns-j.is new c.loop-j.invariant.within;
    }

pub returns-clause-yes : goal.returns-clause-yes
returns-clause-yes c = λ t. record { size = c.loop-j.invariant.size; within = all_hold (λ k column. IsWithin column.lower column.upper (number_at c.args.x.now k)) c.args.columns.now c.loop-j.j (omega (arith, c.loop-j-test.false)) c.loop-j.invariant.within }
