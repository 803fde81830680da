use Rattle.std.proofs.Common.{◌<◌, List, length, subst, rules}
use Rattle.milp.specs.Problem.{Row}
use Rattle.solution_writer.proofs.RowValues.{at_row, more_values}
use Rattle.solution_writer.proofs.values.row_values.Goals as goal

pub row_value-requires-clause-fits : goal.row_value-requires-clause-fits
row_value-requires-clause-fits c = (at_row c.args.point.now c.args.problem.now.rows c.loop-i.i (subst (λ (l : List Row). c.loop-i.i < length l) c.rows-i-end.ensures c.loop-i-test.true) c.loop-i.invariant.fit).fits

pub loop-i-preserved : goal.loop-i-preserved
loop-i-preserved c =
    let at = at_row c.args.point.now c.args.problem.now.rows c.loop-i.i (subst (λ (l : List Row). c.loop-i.i < length l) c.rows-i-end.ensures c.loop-i-test.true) c.loop-i.invariant.fit in
    record {
      values = more_values c.args.point.now c.args.problem.now.rows c.loop-i.i c.loop-i.values.items c.push.new.self.items _ at c.loop-i.invariant.values (search rules);
      fit = at.left;
    }
