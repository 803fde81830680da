use Rattle.std.proofs.Common.{◌≡◌, ◌∙◌, arith}
use Rattle.simplex.proofs.Crossing.{crossed_yes, all_in_order}
use Rattle.simplex.proofs.contradiction.contradiction.Goals as goal

pub returns-then-are_crossed-clause-some : goal.returns-then-are_crossed-clause-some
returns-then-are_crossed-clause-some c = crossed_yes c.args.system.now c.loop-v.v c.bounds.result c.are_crossed.result c.bounds.ensures c.are_crossed.ensures c.if-are_crossed.true

pub returns-clause-none : goal.returns-clause-none
returns-clause-none c =
    let v_is : c.loop-v.v ≡ c.variables-v-end.result = omega arith in
    λ e. all_in_order c.args.system.now c.loop-v.v c.variables-v-end.ensures.system (v_is ∙ c.variables-v-end.ensures.count) c.loop-v.invariant
