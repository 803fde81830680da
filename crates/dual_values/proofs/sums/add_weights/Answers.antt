use Rattle.dual_values.proofs.Places.{all_added, next_added}
use Rattle.dual_values.proofs.sums.add_weights.Goals as goal

pub loop-item-preserved : goal.loop-item-preserved
loop-item-preserved c =
    next_added c.args.items.now c.args.sums.now c.loop-item.sums c.add_weight.new.sums c.loop-item.item-index c.item-item.result c.loop-item.invariant c.loop-item-test.true c.item-item.is c.add_weight.ensures

pub returns : goal.returns
returns c = all_added c.args.items.now c.args.sums.now c.loop-item.sums c.loop-item.item-index c.loop-item.invariant c.loop-item-test.false
