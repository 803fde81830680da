use Rattle.gmpl_functions.proofs.PutSteps.{put_at}
use Rattle.gmpl_functions.proofs.terms.put.Goals as goal

pub returns : goal.returns
returns c =
    put_at c.args.sign c.args.terms.now.entries c.in_ok-copied.field-0 c.args.variable.now c.in_ok-place.place c.in_ok-place.before c.zero.result c.unwrap_or.result c.args.change c.in_ok-after.after c.insert_full.new.self.entries c.set_coefficient.new.terms.entries
    c.in_ok-copied.ensures c.in_ok-place.ensures.index c.in_ok-place.ensures.old c.zero.ensures c.unwrap_or.ensures c.in_ok-after.ensures c.in_ok-place.ensures.entries c.set_coefficient.ensures
