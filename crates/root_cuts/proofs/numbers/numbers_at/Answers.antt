use Rattle.gomory.proofs.CutLaws.{one_more_number}
use Rattle.root_cuts.specs.RootBasis.{variable_number}
use Rattle.root_cuts.proofs.numbers.numbers_at.Goals as goal

pub loop-v-preserved : goal.loop-v-preserved
loop-v-preserved c = one_more_number (variable_number c.args.problem.now c.args.point.now) c.loop-v.v c.loop-v.numbers.items c.push.new.self.items c.in-Ok.number
    c.in-Ok.ensures c.loop-v.invariant c.in_ok-push-in-Ok.ensures.items
