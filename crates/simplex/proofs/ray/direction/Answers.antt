use Rattle.std.proofs.Common.{◌∙◌, ap}
use Rattle.simplex.specs.Ratio.{turned, along}
use Rattle.simplex.proofs.PointNumbers.{one_more_number}
use Rattle.simplex.proofs.ray.direction.Goals as goal

pub loop-v-preserved : goal.loop-v-preserved
loop-v-preserved c =
    c.in_ok-push.ensures.items
    ∙ one_more_number c.loop-v.v (along c.args.dictionary.now c.args.q c.args.rises) c.loop-v.numbers.items c.turned.result c.loop-v.invariant (c.turned.ensures ∙ ap (turned c.args.rises) c.change.ensures)
