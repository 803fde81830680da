use Rattle.milp.specs.Form.{number_at}
use Rattle.gomory.specs.Numbers.{number_of}
use Rattle.gomory.proofs.ListEnds.{one_more_number, one_longer}
use Rattle.gomory.proofs.row.numbers.Goals as goal

pub loop-v-preserved : goal.loop-v-preserved
loop-v-preserved c = record {
  size = one_longer c.loop-v.list.items c.add.new.list.items c.in_ok-one.one c.loop-v.v c.loop-v.invariant.size c.in_ok-add.ensures;
  numbers = one_more_number (number_of c.args.instance.now c.args.places.now (number_at c.args.rates.now) (number_at c.args.at.now) c.args.r c.args.role) c.loop-v.v c.loop-v.list.items c.add.new.list.items c.in_ok-one.one
      c.in_ok-one.ensures.value c.loop-v.invariant.numbers c.in_ok-add.ensures;
}
