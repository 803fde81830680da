use Rattle.std.proofs.Common.{arith}
use Rattle.certificate.proofs.Turns.{root_past, past_low, past_high, parent_before}
use Rattle.certificate.proofs.tree.Tree.above_past.Goals as goal

pub returns-in-Low : goal.returns-in-Low
returns-in-Low c = past_low c.args.self.now c.loop-parent.at c.in-Some.parent _ c.in-Some.ensures c.in-Low.is c.loop-parent.invariant.left

pub loop-parent-smaller : goal.loop-parent-smaller
loop-parent-smaller c = parent_before c.args.self.now c.loop-parent.at c.in-Some.parent c.loop-parent.invariant.within c.in-Some.ensures

pub loop-parent-preserved : goal.loop-parent-preserved
loop-parent-preserved c =
    let less = parent_before c.args.self.now c.loop-parent.at c.in-Some.parent c.loop-parent.invariant.within c.in-Some.ensures in
    record {
      within = omega (arith, less, c.loop-parent.invariant.within);
      left = past_high c.args.self.now c.loop-parent.at c.in-Some.parent _ c.loop-parent.invariant.within c.in-Some.ensures c.in-High.is c.loop-parent.invariant.left;
    }

pub returns : goal.returns
returns c = root_past c.args.self.now c.loop-parent.at _ c.in_default.ensures c.loop-parent.invariant.left
