use Rattle.std.proofs.Common.{arith}
use Rattle.tree_pool.proofs.PathLemmas.{at_end, step_up}
use Rattle.tree_pool.proofs.paths.splits_up.Goals as goal

pub loop-at-preserved : goal.loop-at-preserved
loop-at-preserved c =
    let step = step_up c.args.links.now c.loop-at.at c.link_of-link.result c.loop-at.taken.items c.push.new.self.items _ c.loop-at-test.true c.loop-at.invariant.within c.link_of-link.ensures c.requires.above c.in_ok-push.ensures.items c.loop-at.invariant.whole in
    let less = step.0 in
    record { within = omega (arith, less, c.loop-at.invariant.within); whole = step.1 }

pub loop-at-smaller : goal.loop-at-smaller
loop-at-smaller c = (step_up c.args.links.now c.loop-at.at c.link_of-link.result c.loop-at.taken.items c.push.new.self.items _ c.loop-at-test.true c.loop-at.invariant.within c.link_of-link.ensures c.requires.above c.in_ok-push.ensures.items c.loop-at.invariant.whole).0

pub returns : goal.returns
returns c = at_end c.args.links.now c.loop-at.at _ _ c.loop-at-test.false c.loop-at.invariant.whole
