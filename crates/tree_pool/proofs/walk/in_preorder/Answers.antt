use Rattle.std.proofs.Common.{◌∙◌, ◌++◌, ap}
use Rattle.std.specs.Option.{option_to_list}
use Rattle.tree_pool.specs.LogNodes.{node_at}
use Rattle.tree_pool.proofs.Preorders.{walk_step}
use Rattle.tree_pool.proofs.walk.in_preorder.Goals as goal

pub loop-count-preserved : goal.loop-count-preserved
loop-count-preserved c =
    walk_step (node_at c.args.log.now) c.args.nodes.now c.loop-count.all.items c.push.new.self.items c.loop-count.left.items c.pop.new.self.items c.push_sides.new.left.items c.in-Some.place c.loop-count.count c.node_on-node.result _
    (c.pop.ensures.items ∙ ap (λ o. c.pop.new.self.items ++ option_to_list o) c.in-Some.is) c.node_on-node.ensures c.in_ok-push.ensures.items c.in_ok-push_sides.ensures c.loop-count-test.true c.loop-count.invariant
