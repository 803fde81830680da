use Rattle.milp.specs.Form.{number_at}
use Rattle.gomory.specs.Cuts.{sum_coefficient}
use Rattle.gomory.proofs.ListEnds.{one_more_number, one_longer}
use Rattle.gomory.proofs.sums.coefficients.Goals as goal

pub loop-column-preserved : goal.loop-column-preserved
loop-column-preserved c = record {
  size = one_longer c.loop-column.list.items c.add.new.list.items c.in_ok-one.one c.loop-column.column c.loop-column.invariant.size c.in_ok-add.ensures;
  numbers = one_more_number (sum_coefficient c.args.instance.now (number_at c.args.weights.now)) c.loop-column.column c.loop-column.list.items c.add.new.list.items c.in_ok-one.one c.in_ok-one.ensures.value c.loop-column.invariant.numbers c.in_ok-add.ensures;
}
