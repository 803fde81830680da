use Rattle.std.proofs.Common.{arith}
use Rattle.simplex.proofs.WeightItems.{one_more_item}
use Rattle.simplex.proofs.weights.items.Goals as goal

pub loop-index-preserved : goal.loop-index-preserved
loop-index-preserved c = record {
  done = one_more_item c.args.dictionary.now c.args.source c.args.first c.loop-index.index c.loop-index.items c.add.new.items c.weight-weight.result c.weight-weight.ensures c.loop-index.invariant.done c.in_ok-add.ensures.added;
  order = let o = c.in_ok-add.ensures.order in omega arith;
}
