use Rattle.std.proofs.Common.{arith}
use Rattle.milp.specs.Form.{number_at}
use Rattle.gomory.proofs.ListEnds.{one_more_item}
use Rattle.gomory.proofs.forms.items.Goals as goal

pub loop-index-preserved : goal.loop-index-preserved
loop-index-preserved c = record {
  done = one_more_item (number_at c.args.list.now) c.args.first c.loop-index.index c.loop-index.items c.add_item.new.items c.number-weight.result c.number-weight.ensures c.loop-index.invariant.done c.in_ok-add_item.ensures.added;
  order = let o = c.in_ok-add_item.ensures.order in omega arith;
}
